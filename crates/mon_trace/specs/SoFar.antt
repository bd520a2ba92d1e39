-- What was read so far, and what lines behind it say.
use Rattle.std.specs.Prelude.{ℕ, List}
use Rattle.mon_trace.specs.Grammar.{Recorded, Records, records_in}
use Rattle.mon_trace.specs.Reading.{behind_events}

-- the records so far, how many sessions they open and how many outputs they lose, and where the next line begins
pub record SoFar : Type 0 where
  pub events : List Recorded
  pub opened : ℕ
  pub losing : ℕ
  pub offset : ℕ

-- the records of what was read and of lines behind it
abbrev pub with_lines : SoFar → List (List ℕ) → List ℕ → Records
with_lines s lines rest = behind_events s.events (records_in s.offset s.opened s.losing lines rest)
