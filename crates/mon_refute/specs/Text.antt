-- How a log is spelled: 'log' and how many lines there are, and then line by line 'l', the literals, 0, the hints and 0.
-- A space stands before each further word of a line, and a line feed behind the last one.
use Rattle.std.specs.Prelude.{◌≡◌, ℕ, ◌+◌, ◌<◌, ◌^◌, cond, List, [], ◌∷◌, ◌++◌, length, codes, decimal}
use Rattle.std.specs.List.{flat_map, AllByRecursion}
use Rattle.mon_cnf.specs.declared.clause.Lit.{Lit}
use Rattle.mon_refute.specs.declared.lines.LogLine.{LogLine}

-- variables are counted from 1 here, and a '-' says that the literal is the negation
abbrev pub literal_text : Lit → List ℕ
literal_text l = 32 ∷ cond l.positive (decimal (l.var + 1)) (45 ∷ decimal (l.var + 1))

abbrev pub hint_text : ℕ → List ℕ
hint_text h = 32 ∷ decimal h

-- the 0 that ends a list
abbrev pub end_text : List ℕ
end_text = 32 ∷ decimal 0

abbrev pub literals_text : List Lit → List ℕ
literals_text c = flat_map literal_text c ++ end_text

abbrev pub hints_text : List ℕ → List ℕ
hints_text hs = flat_map hint_text hs ++ end_text

-- 'l', the literals, the hints and a line feed
abbrev pub line_text : LogLine → List ℕ
line_text l = 108 ∷ (literals_text l.literals ++ (hints_text l.hints ++ (10 ∷ [])))

-- 'log', how many lines there are, and the lines
abbrev pub log_text : List LogLine → List ℕ
log_text log = codes "log " ++ (decimal (length log) ++ (10 ∷ flat_map line_text log))

-- what the types of a log's numbers allow, and no hint is 0
abbrev pub FitsLiteral : Lit → Type 0
FitsLiteral l = l.var < 2 ^ 32

abbrev pub FitsHint : ℕ → Type 0
FitsHint h = (0 < h) × (h < 2 ^ 64)

abbrev pub FitsLiterals : List Lit → Type 0
FitsLiterals c = AllByRecursion FitsLiteral c

abbrev pub FitsHints : List ℕ → Type 0
FitsHints hs = AllByRecursion FitsHint hs

abbrev pub FitsLine : LogLine → Type 0
FitsLine l = FitsLiterals l.literals × FitsHints l.hints

abbrev pub FitsLog : List LogLine → Type 0
FitsLog log = (length log < 2 ^ 64) × AllByRecursion FitsLine log

-- the text is that of this log
pub record Spells (text : List ℕ) (log : List LogLine) : Type 0 where
  pub is : text ≡ log_text log
  pub fits : FitsLog log

-- the text is of some log
abbrev pub IsLogText : List ℕ → Type 0
IsLogText text = (log : List LogLine) × Spells text log
