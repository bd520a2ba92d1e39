-- What is answered to a job, and what was asked for it.
use Rattle.std.specs.Prelude.{◌≡◌, ℕ, ◌+◌, ◌-◌, ◌^◌, ◌≤◌, min, true, false, length, Option, Some, None}
use Rattle.std.specs.List.{slice_get}
use Rattle.mon_header.specs.declared.header.Header.{Header}
use Rattle.mon_outcome.specs.declared.emission.Emission.{Emission}
use Rattle.mon_refute.specs.Follow.{is_accepted}
use Rattle.mon_shows.specs.Separation.{separates}
use Rattle.mon_job.specs.Jobs.{Task}
use Rattle.mon_job.specs.declared.verdict.Says.{Says}
use Rattle.mon_job.specs.declared.verdict.Says.TheVariants.{Probe, Indistinguishable, Skipped, NoMemory}
use Rattle.mon_encode.specs.declared.case.Case.{Case}
use Rattle.mon_encode.specs.Cases.{cases_of, BelongsTo}
use Rattle.mon_encode.specs.Formulas.{formula_of}
use Rattle.mon_solve.specs.declared.found.Found.{Found}
use Rattle.mon_solve.specs.declared.found.Found.TheVariants as found

-- the version for which a job was given up, as it was last shown, or none
abbrev pub seen_in : Says → Option ℕ
seen_in (Probe h e) = None
seen_in Indistinguishable = None
seen_in (Skipped seen) = Some seen
seen_in NoMemory = None

-- a count of asks, but for those that a u64 has no number for: it stands still at its last value
abbrev pub counted : ℕ → ℕ
counted asks = min asks (2 ^ 64 - 1)

-- a stop that tells how often it was asked was asked that often, at least
abbrev pub AskedAtLeast : ℕ → Option ℕ → Option ℕ → Type 0
AskedAtLeast least None now = Unit {0}
AskedAtLeast least (Some before) None = ⊥
AskedAtLeast least (Some before) (Some now) = counted (before + least) ≤ now

-- a stop was asked for a case: at least as often as there are cases up to it
pub record AskedForCase (j : Task) (c : Case) (before now : Option ℕ) : Type 0 where
  pub place : ℕ
  pub there : slice_get (cases_of j) place ≡ Some c
  pub asked : AskedAtLeast (place + 1) before now

-- a stop was asked for a case to which the header and the emission belong
pub record AskedUpTo (j : Task) (h : Header) (e : Emission) (before now : Option ℕ) : Type 0 where
  pub case : Case
  pub asked : AskedForCase j case before now
  pub belongs : BelongsTo j case h e

-- how often a stop was asked for an answer, at least: as often as there are cases up to one to which the probe belongs, and
-- as there are cases at all where the answer is Indistinguishable
abbrev pub AskedFor : Task → Says → Option ℕ → Option ℕ → Type 0
AskedFor j (Probe h e) before now = AskedUpTo j h e before now
AskedFor j Indistinguishable before now = AskedAtLeast (length (cases_of j)) before now
AskedFor j (Skipped seen) before now = AskedAtLeast 1 before now
AskedFor j NoMemory before now = AskedAtLeast 0 before now

-- the case has no probe
abbrev pub HasNone : Task → Case → Type 0
HasNone j c = (h : Header) (e : Emission) → BelongsTo j c h e → separates j.view j.table j.target h e ≡ false

-- what is found in a case: a probe of it, or a refutation of its clauses, and it has none
abbrev pub IsFound : Task → Case → Found → Type 0
IsFound j c (found.Probe h e) = (separates j.view j.table j.target h e ≡ true) × BelongsTo j c h e
IsFound j c (found.Nothing log) = (is_accepted (formula_of j c).vars (formula_of j c).clauses log ≡ true) × HasNone j c
