-- What a tick puts out, and what it counts.
use Rattle.std.specs.Prelude.{ℕ, ◌+◌, Bool, true, false, not, ◌==◌, ◌&&◌, if◌then◌else◌, List, [], ◌∷◌, ◌++◌}
use Rattle.mon_report.specs.declared.line.Line.TheVariants.{Fact}
use Rattle.mon_report.specs.declared.line.What.TheVariants.{Silent}
use Rattle.mon_world.specs.declared.event.Side.TheVariants.{Switch}
use Rattle.mon_world.specs.declared.event.Out.TheVariants.{Send}
use Rattle.mon_world.specs.declared.event.Note.TheVariants.{Report}
use Rattle.mon_legal.specs.Edits.{Passed}
use Rattle.mon_legal.specs.Probes.{Live}
use Rattle.mon_session.specs.declared.step.Step.{Step}
use Rattle.mon_session.specs.declared.step.Step.TheVariants as step
use Rattle.mon_session.specs.Tracks.{near_of, frame_of}

-- a probe goes out again
abbrev pub again_step : Live → Step
again_step l = step.Out (Send (near_of l.way) Switch (frame_of l.way))

-- an edit is told as silent
abbrev pub silent_step : ℕ → ℕ → Step
silent_step s k = step.Note (Report (Fact s k Silent))

-- the edits that are, after so many ticks, the oldest first
abbrev pub is_silent : ℕ → Passed → Bool
is_silent alarm p = (p.ticks + 1 == alarm) && not p.reported

abbrev pub silent_in : ℕ → List Passed → List ℕ
silent_in alarm [] = []
silent_in alarm (p ∷ older) = silent_in alarm older ++ (if is_silent alarm p then p.number ∷ [] else [])

-- the ticks since the last that was a multiple of so many, which count from the arming on
abbrev pub round_after : ℕ → Bool → ℕ → ℕ
round_after watch false round = round
round_after watch true round = if round + 1 == watch then 0 else round + 1
