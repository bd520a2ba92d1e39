-- What a log says of the core that made it.
use Rattle.std.specs.Prelude.{◌≡◌, ℕ, ◌+◌, ◌^◌, Bool, true, false, nat_le, ◌||◌, List, ◌∷◌, length, Option, Some, IfSome}
use Rattle.std.specs.List.{AllByRecursion, list_any, range_with_len, cons_option}
use Rattle.mon_job.specs.Jobs.{Task}
use Rattle.mon_world.specs.declared.event.Event.{Event}
use Rattle.mon_world.specs.declared.history.Entry.{Entry}
use Rattle.mon_world.specs.declared.history.Entry.TheVariants.{Given}
use Rattle.mon_legal.specs.Runs.{Run}
use Rattle.mon_legal.specs.Moments.{Moment, shown, begins}
use Rattle.mon_legal.specs.Jobs.{last_serial, last_job}
use Rattle.mon_legal.specs.Sessions.{opened, slot_version}
use Rattle.mon_legal.specs.Passing.{FramesGoInOrder, NothingIsLeft}
use Rattle.mon_legal.specs.Legal.{AreLawful, HasEnded, gated}
use Rattle.mon_turns.specs.Core.{State, SLOTS, state_of}
use Rattle.mon_turns.specs.Around.{IsPresent}
use Rattle.mon_turns.specs.Gates.{GatesWere}
use Rattle.mon_turns.specs.Opening.{HasRoom}

-- a number is used above 18446744073709551615
abbrev pub is_over : Run → List Moment → Bool
is_over run f =
    nat_le (2 ^ 64) (run.openings + length (opened run f))
    || (nat_le (2 ^ 64) (last_serial run f)
    || (nat_le (2 ^ 64) (last_job run f)
    || list_any (λ slot. nat_le (2 ^ 64) (slot_version run slot f)) (range_with_len 0 SLOTS)))

-- one list of moments shows the log, is lawful and whole, uses no number above the last of its type, and gives the core's state,
-- what its crew's jobs ask, and the gates
pub record StandsFor (run : Run) (core : State) (tasks : List Task) (calls : Option (List (List ℕ))) (h : List Entry) : Type 0 where
  pub moments : List Moment
  pub shows : shown moments ≡ h
  pub lawful : AreLawful run moments
  pub whole : HasEnded run moments
  pub numbered : is_over run moments ≡ false
  pub state : core ≡ state_of run moments
  pub present : AllByRecursion (IsPresent run moments) tasks
  pub gates : GatesWere run moments calls

-- the same where the last turn may be a part of one
pub record StoodFor (run : Run) (calls : Option (List (List ℕ))) (h : List Entry) : Type 0 where
  pub moments : List Moment
  pub shows : shown moments ≡ h
  pub lawful : AreLawful run moments
  pub gates : GatesWere run moments calls

-- the event is the last that was given, by a call with the gates of its moment, and the core stands for what was before it
pub record WasGiven (run : Run) (event : Event) (core : State) (tasks : List Task) (calls : Option (List (List ℕ))) (h : List Entry) : Type 0 where
  pub before : List Entry
  pub last : h ≡ Given event ∷ before
  pub call : List ℕ
  pub earlier : List (List ℕ)
  pub told : calls ≡ Some (call ∷ earlier)
  pub stands : StandsFor run core tasks (Some earlier) before
  pub open_gates : call ≡ gated run stands.moments

-- one number more was needed, for the newest event or for what comes next
pub record NeedsANumber (run : Run) (h : List Entry) : Type 0 where
  pub moments : List Moment
  pub shows : shown moments ≡ h
  pub lawful : AreLawful run moments
  pub coming : Option Moment
  pub comes : IfSome coming (λ m. (begins m ≡ false) × AreLawful run (m ∷ moments))
  pub over : is_over run (cons_option coming moments) ≡ true

-- the order alone ------------------------------------------------------------

-- one list of moments shows the log, comes in its order, is whole, and gives the core's state. It is the line on frames of
-- what `StandsFor` says, by which the state is fixed; the other lines of legality join it
pub record Follows (run : Run) (core : State) (h : List Entry) : Type 0 where
  pub moments : List Moment
  pub shows : shown moments ≡ h
  pub order : FramesGoInOrder run moments
  pub whole : NothingIsLeft run moments
  pub room : HasRoom run moments
  pub state : core ≡ state_of run moments

-- the event is the last that was given, and the core follows from what was before it
pub record Comes (run : Run) (event : Event) (core : State) (h : List Entry) : Type 0 where
  pub before : List Entry
  pub last : h ≡ Given event ∷ before
  pub follows : Follows run core before
