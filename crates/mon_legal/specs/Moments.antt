-- A history moment by moment. Between two entries frames are handled one by one, and sessions take their steps: these
-- moments leave no entry, and what the entries show fixes them.
use Rattle.std.specs.Prelude.{ℕ, Bool, true, false, if◌then◌else◌, List, [], ◌∷◌, Option, Some, None}
use Rattle.of_frame.specs.declared.fault.FrameFault.{FrameFault}
use Rattle.mon_world.specs.declared.event.Side.{Side}
use Rattle.mon_world.specs.declared.event.Side.TheVariants.{Switch}
use Rattle.mon_world.specs.declared.event.Note.TheVariants.{Verdict}
use Rattle.mon_world.specs.declared.history.Entry.{Entry}
use Rattle.mon_world.specs.declared.history.Entry.TheVariants.{Given, Noted, Put}
use Rattle.mon_legal.specs.Owns.{Act}

pub data Moment : Type 0 where
  -- an entry of the history, and no probe
  Is : (entry : Entry) → Moment
  -- the probe of a serial, of a session's edit or watch, goes out to the switch of a session nearby
  Went : (session serial near : ℕ) (frame : List ℕ) (lost : Bool) → Moment
  -- the next frame of a side's stream is handled
  Came : (session : ℕ) (side : Side) (frame : List ℕ) → Moment
  -- the fault in which a side's stream ends is met
  Broke : (session : ℕ) (side : Side) (fault : FrameFault) → Moment
  -- a session takes a step by itself
  Did : (session : ℕ) (act : Act) → Moment

-- the entries
abbrev pub shown : List Moment → List Entry
shown [] = []
shown (Is entry ∷ f) = entry ∷ shown f
shown (Went s serial near frame lost ∷ f) = Put near Switch frame lost ∷ shown f
shown (m ∷ f) = shown f

-- a turn begins with it: an input, or the answer to a job
abbrev pub begins : Moment → Bool
begins (Is (Given event)) = true
begins (Is (Noted (Verdict job kind))) = true
begins m = false

-- what began the turn
abbrev pub cause : List Moment → Option Moment
cause [] = None
cause (m ∷ f) = if begins m then Some m else cause f
