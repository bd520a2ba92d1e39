-- What workers saw of the board.
use Rattle.std.specs.Prelude.{ℕ, List, Bool, true, ◌&&◌, ◌==◌, if◌then◌else◌, [], ◌∷◌, ◌++◌, Option, Some, None}
use Rattle.mon_board.specs.Versions.{Marks, has}
use Rattle.mon_job.specs.Verdicts.{Ruling}
use Rattle.mon_solve.specs.Answers.{seen_in}

-- what was seen of the slots of jobs; in the slot 64 the end is published
abbrev pub of_jobs : Marks → Marks
of_jobs [] = []
of_jobs (m ∷ ms) = if m.0 == 64 then of_jobs ms else m ∷ of_jobs ms

-- where a version was shown for the slot, it is one of those that were seen there
abbrev pub shows : Marks → ℕ → Option ℕ → Bool
shows marks slot None = true
shows marks slot (Some version) = has marks slot version

-- what was seen while each of these was decided, in order
abbrev pub marks_of : List (Ruling × Marks) → Marks
marks_of [] = []
marks_of (t ∷ ts) = t.1 ++ marks_of ts

-- each job that was skipped was skipped for a version that was seen for its slot while it was decided
abbrev pub all_shown : List (Ruling × Marks) → Bool
all_shown [] = true
all_shown (t ∷ ts) = shows t.1 t.0.job.slot (seen_in t.0.says) && all_shown ts
