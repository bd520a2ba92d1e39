-- How often a stop is asked, and what it has shown.
use Rattle.std.specs.Prelude.{ℕ, ◌+◌, List, length, Option, Some, None}
use Rattle.mon_cdcl.specs.Counts.{AskedAtLeast}
use Rattle.mon_refute.specs.declared.lines.LogLine.{LogLine}
use Rattle.mon_cdcl.specs.declared.solver.End.{End}
use Rattle.mon_cdcl.specs.declared.solver.End.TheVariants.{AllTrue, Refuted as Closed, Stopped as Ceased}
use Rattle.mon_cdcl.specs.declared.solver.Found.{Found}
use Rattle.mon_cdcl.specs.declared.solver.Found.TheVariants.{Model, Refuted, Stopped}

-- the version for which a search was given up, as it was last shown, or none
abbrev pub seen_in : Found → Option ℕ
seen_in (Model values) = None
seen_in (Refuted log) = None
seen_in (Stopped seen) = Some seen

abbrev pub seen_at : Option End → Option ℕ
seen_at None = None
seen_at (Some AllTrue) = None
seen_at (Some Closed) = None
seen_at (Some (Ceased seen)) = Some seen

-- how often a stop was asked, at least, where the log has so many lines: once for each, and once more where it gave a version
abbrev pub asks_by : Option End → ℕ → ℕ
asks_by None lines = lines
asks_by (Some AllTrue) lines = lines
asks_by (Some Closed) lines = lines
asks_by (Some (Ceased seen)) lines = lines + 1

-- whoever asked for each line before asked for each line now
abbrev pub KeepsAsking : List LogLine → Option ℕ → List LogLine → Option ℕ → Option End → Type 0
KeepsAsking old was log now end = (before : Option ℕ) → AskedAtLeast (length old) before was → AskedAtLeast (asks_by end (length log)) before now

-- how often a stop was asked: at least as often as the refutation has lines
abbrev pub AskedFor : Found → Option ℕ → Option ℕ → Type 0
AskedFor (Model values) before now = AskedAtLeast 0 before now
AskedFor (Refuted log) before now = AskedAtLeast (length log) before now
AskedFor (Stopped seen) before now = AskedAtLeast 1 before now
