-- What the parts of a side say together. Nothing here names these structs.
use Rattle.std.specs.Prelude.{◌≡◌, ℕ, true, ◌<◌, List, slice_index_or}
use Rattle.mon_board.specs.Versions.{Marks, last}
use Rattle.mon_job.specs.Jobs.{Task}
use Rattle.mon_tally.specs.Rising.{rise}

-- the numbers of the jobs rise, from above 0 up to this one
abbrev pub Rising : List Task → ℕ → Type 0
Rising jobs to = rise (λ (j : Task). j.number) 0 jobs to ≡ true

-- these are the last versions of the 64 slots
abbrev pub AreLast : List ℕ → Marks → Type 0
AreLast versions published = (slot : ℕ) → slot < 64 → slice_index_or versions slot 0 ≡ last published slot
