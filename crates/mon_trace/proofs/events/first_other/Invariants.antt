use Rattle.std.proofs.Common.{◌≡◌, ℕ, List, drop}
use Rattle.mon_trace.specs.Places.{events_at}
use Rattle.mon_trace.specs.ToCome.{first_other}
use Rattle.mon_trace.proofs.events.first_other.Given as goal

abbrev pub invariant-loop-place : goal.invariant-loop-place
invariant-loop-place l = (bytes : List ℕ) → first_other (events_at bytes (drop l.place-index l.places)) ≡ first_other (events_at bytes l.places)
