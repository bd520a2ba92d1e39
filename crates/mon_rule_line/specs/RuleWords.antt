-- The words of a rule on a line: numbers in decimal, bytes in lower hexadecimal digits, and one space between two words.
use Rattle.std.specs.Prelude.{ℕ, Bool, true, false, List, [], ◌∷◌, ◌++◌, codes, decimal}
use Rattle.mon_text.specs.Hex.{hex}
use Rattle.mon_text.specs.Parts.{feed}

-- the digits of the bytes of actions, and a dash where there are none
abbrev pub actions_text : List ℕ → List ℕ
actions_text [] = codes "-"
actions_text (byte ∷ bytes) = hex (byte ∷ bytes)

-- the word of a rule that a timeout may take
abbrev pub unsure_text : Bool → List ℕ
unsure_text true = codes " unsure"
unsure_text false = []

-- the priority, the bytes of the match, those of the actions, the word of an unsure rule, and the end of the line
abbrev pub rule_words : ℕ → List ℕ → List ℕ → Bool → List ℕ
rule_words priority matching actions unsure =
    decimal priority ++ (codes " " ++ (hex matching ++ (codes " " ++ (actions_text actions ++ (unsure_text unsure ++ feed)))))
