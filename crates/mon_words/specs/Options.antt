-- The options and the numbers that they take.
use Rattle.std.specs.Prelude.{ℕ, ◌≤◌, List, codes}
use Rattle.mon_words.specs.declared.argument.Kind.{Kind}
use Rattle.mon_words.specs.declared.argument.Kind.TheVariants.{Workers, Generate, Seed}

-- the word of an option
abbrev pub option_word : Kind → List ℕ
option_word Workers = codes "--workers"
option_word Generate = codes "--generate"
option_word Seed = codes "--seed"

-- the least number that it takes
abbrev pub least : Kind → ℕ
least Workers = 1
least Generate = 1
least Seed = 0

-- the largest number that it takes
abbrev pub most : Kind → ℕ
most Workers = 64
most Generate = 4096
most Seed = 65535

-- it takes this number
abbrev pub Takes : Kind → ℕ → Type 0
Takes kind n = (least kind ≤ n) × (n ≤ most kind)
