-- The records that a replay does not follow yet.
use Rattle.std.specs.Prelude.{ℕ, Bool, true, false, ◌==◌, ◌&&◌, if◌then◌else◌, List, [], ◌∷◌, Option, Some, None}
use Rattle.mon_world.specs.declared.event.Event.{Event}
use Rattle.mon_world.specs.declared.event.Event.TheVariants.{Opened, Piece}
use Rattle.mon_trace.specs.Grammar.{Recorded}

abbrev pub is_followed : Event → Bool
is_followed Opened = true
is_followed (Piece session side bytes) = true
is_followed event = false

-- where the first record begins that is neither an opening nor a piece, or stands behind a `lose` record
abbrev pub first_other : List Recorded → Option ℕ
first_other [] = None
first_other (r ∷ rs) = if (r.losing == 0) && is_followed r.event then first_other rs else Some r.offset
