-- When what is said of a job is true.
use Rattle.std.specs.Prelude.{◌≡◌, ◌<◌, true, false}
use Rattle.mon_header.specs.declared.header.Header.{Header}
use Rattle.mon_outcome.specs.declared.emission.Emission.{Emission}
use Rattle.mon_shows.specs.Separation.{separates}
use Rattle.mon_job.specs.Jobs.{Task}
use Rattle.mon_job.specs.declared.verdict.Says.{Says}
use Rattle.mon_job.specs.declared.verdict.Says.TheVariants.{Probe, Indistinguishable, Skipped, NoMemory}

-- a probe's header and emission separate; no header and emission do; a version was seen above the job's; or there was
-- no memory, which says nothing
abbrev pub IsTrueOf : Task → Says → Type 0
IsTrueOf j (Probe h e) = separates j.view j.table j.target h e ≡ true
IsTrueOf j Indistinguishable = (h : Header) (e : Emission) → separates j.view j.table j.target h e ≡ false
IsTrueOf j (Skipped seen) = j.version < seen
IsTrueOf j NoMemory = Unit {0}

-- a job and what is said of it
pub record Ruling : Type 0 where
  pub job : Task
  pub says : Says
