-- What comes next in a turn, where anything does.
use Rattle.std.specs.Prelude.{ℕ, ◌+◌, Bool, true, false, not, ◌==◌, nat_lt, ◌&&◌, ◌||◌, if◌then◌else◌, List, [], ◌∷◌, ◌++◌, length, filter, slice_get, Option, Some, None, option_map}
use Rattle.of_frame.specs.declared.fault.FrameFault.{FrameFault}
use Rattle.of_frame.specs.Cut.{nothing_yet, cut}
use Rattle.mon_world.specs.declared.event.Side.{Side}
use Rattle.mon_world.specs.declared.event.Side.TheVariants.{Controller, Switch}
use Rattle.mon_world.specs.declared.event.Event.TheVariants.{Opened, Piece}
use Rattle.mon_world.specs.declared.history.Entry.TheVariants.{Given, End}
use Rattle.mon_legal.specs.Runs.{Run}
use Rattle.mon_legal.specs.Owns.{Act}
use Rattle.mon_legal.specs.Probes.{wanting, or_own}
use Rattle.mon_legal.specs.Watching.{watch_wanted}
use Rattle.mon_legal.specs.Held.{due_act}
use Rattle.mon_legal.specs.Directly.{Due, owed}
use Rattle.mon_legal.specs.Moments.{Moment, cause}
use Rattle.mon_legal.specs.Moments.Moment.{Is, Came}
use Rattle.mon_legal.specs.Jobs.{openings, unanswered}
use Rattle.mon_legal.specs.Sessions.{part, is_open, opened, view, slot_of, has_lost, is_tick}

-- streams --------------------------------------------------------------------

abbrev pub same_side : Side → Side → Bool
same_side Controller Controller = true
same_side Switch Switch = true
same_side a b = false

-- the session was opened, and was not ended
abbrev pub is_there : Run → ℕ → List Moment → Bool
is_there run s [] = false
is_there run s (Is (Given Opened) ∷ f) = (openings run f == s) || is_there run s f
is_there run s (Is (End r) ∷ f) = not (r == s) && is_there run s f
is_there run s (m ∷ f) = is_there run s f

abbrev pub with_bytes : Bool → List ℕ → List ℕ → List ℕ
with_bytes true bytes stream = stream ++ bytes
with_bytes false bytes stream = stream

-- the bytes of a side's pieces, in order, that came while the session was there
abbrev pub stream : Run → ℕ → Side → List Moment → List ℕ
stream run s side [] = []
stream run s side (Is (Given (Piece r from bytes)) ∷ f) =
    with_bytes ((r == s) && (same_side from side && is_there run s f)) bytes (stream run s side f)
stream run s side (m ∷ f) = stream run s side f

-- its frames, up to the first fault
abbrev pub frames_in : Run → ℕ → Side → List Moment → List (List ℕ)
frames_in run s side f = (cut nothing_yet (stream run s side f)).1

abbrev pub fault_in : Run → ℕ → Side → List Moment → Option FrameFault
fault_in run s side f = (cut nothing_yet (stream run s side f)).0.fault

-- how many frames of a side were handled
abbrev pub handled : ℕ → Side → List Moment → ℕ
handled s side [] = 0
handled s side (Came r from frame ∷ f) = (if (r == s) && same_side from side then 1 else 0) + handled s side f
handled s side (m ∷ f) = handled s side f

-- the frame that is to be handled next
abbrev pub next_frame : Run → ℕ → Side → List Moment → Option (List ℕ)
next_frame run s side f = slice_get (frames_in run s side f) (handled s side f)

-- the piece of the turn, if it is a piece's
abbrev pub piece_of : List Moment → Option (ℕ × Side)
piece_of [] = None
piece_of (Is (Given (Piece s side bytes)) ∷ f) = Some (s, side)
piece_of (Is (Given event) ∷ f) = None
piece_of (m ∷ f) = piece_of f

-- what comes next ------------------------------------------------------------

pub data Next : Type 0 where
  -- what is due of a session comes, the lowest session first
  Meets : (session : ℕ) (due : Due) → Next
  -- a session takes a step
  Takes : (session : ℕ) (act : Act) → Next
  -- a session ends that lost an output
  Loses : (session : ℕ) → Next
  -- the next frame of the piece is handled, or the fault behind the last
  Handles : (session : ℕ) (side : Side) (frame : List ℕ) → Next
  Breaks_off : (session : ℕ) (side : Side) (fault : FrameFault) → Next
  -- a job is offered for an edit, or with 0 for a watch
  Wants : (session edit : ℕ) → Next
  -- nothing: the turn has ended
  Nothing : Next

abbrev pub first_due : List Due → Option Due
first_due [] = None
first_due (due ∷ dues) = Some due

abbrev pub due_of : Run → List Moment → ℕ → Option Due
due_of run f s = first_due (owed run s (part run s f))

abbrev pub act_of : Run → List Moment → ℕ → Option Act
act_of run f s =
    if is_open (part run s f) then due_act run (view run s f) (part run s f) else None

-- how many jobs of the slot have no answer, those of sessions that ended counted
abbrev pub same_slot : Option ℕ → Option ℕ → Bool
same_slot (Some a) (Some b) = a == b
same_slot a b = false

abbrev pub jobs_in_slot : Run → ℕ → List Moment → ℕ
jobs_in_slot run s f = length (filter (λ j. same_slot (slot_of run j.session f) (slot_of run s f)) (unanswered f))

-- in the turn of a tick a session offers its watch directly behind the jobs of its edits
abbrev pub want_of : Run → List Moment → ℕ → Option ℕ
want_of run f s =
    if is_open (part run s f) && nat_lt (jobs_in_slot run s f) 16
    then or_own (wanting run (part run s f)) (option_map (λ r. 0) (watch_wanted run (is_tick (cause f)) (part run s f)))
    else None

abbrev pub with_its : {A : Type 0} → ℕ → Option A → Option (ℕ × A) → Option (ℕ × A)
with_its s (Some x) later = Some (s, x)
with_its s None later = later

-- the first session of a list that has something to do, and what
abbrev pub first_with : {A : Type 0} → (ℕ → Option A) → List ℕ → Option (ℕ × A)
first_with what [] = None
first_with what (s ∷ ss) = with_its s (what s) (first_with what ss)

abbrev pub or_next : Option Next → Next → Next
or_next (Some n) later = n
or_next None later = later

-- the rest of the piece
abbrev pub rest_of_frames : ℕ → Side → List Moment → Option (List ℕ) → Option FrameFault → Option Next
rest_of_frames s side f (Some frame) fault = Some (Handles s side frame)
rest_of_frames s side f None (Some fault) = Some (Breaks_off s side fault)
rest_of_frames s side f None None = None

abbrev pub rest_of_piece : Run → List Moment → Option (ℕ × Side) → Option Next
rest_of_piece run f None = None
rest_of_piece run f (Some p) =
    if is_open (part run p.0 f) then rest_of_frames p.0 p.1 f (next_frame run p.0 p.1 f) (fault_in run p.0 p.1 f) else None

abbrev pub lost_of : Run → List Moment → ℕ → Option (Unit {0})
lost_of run f s = if has_lost (part run s f) then Some tt else None

-- first what is due, then the steps of the sessions, by rising number, then the ends for lost outputs, then the next frame
-- of the piece, and at the end of the turn the offers
unfoldable pub next : Run → List Moment → Next
next run f =
    let all = opened run f in
    or_next (option_map (λ p. Meets p.0 p.1) (first_with (due_of run f) all))
    (or_next (option_map (λ p. Takes p.0 p.1) (first_with (act_of run f) all))
    (or_next (option_map (λ p. Loses p.0) (first_with (lost_of run f) all))
    (or_next (rest_of_piece run f (piece_of f))
    (or_next (option_map (λ p. Wants p.0 p.1) (first_with (want_of run f) all))
    Nothing))))
