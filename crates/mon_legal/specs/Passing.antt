-- Which frames go where, and in which order everything comes.
use Rattle.std.specs.Prelude.{◌≡◌, ℕ, ◌+◌, Bool, true, List}
use Rattle.mon_outcome.specs.declared.emission.Emission.{Emission}
use Rattle.mon_world.specs.declared.event.Note.TheVariants.{Offer, Probe, Report}
use Rattle.mon_world.specs.declared.history.Entry.TheVariants.{Noted, Put, End}
use Rattle.mon_legal.specs.Runs.{Run}
use Rattle.mon_legal.specs.Directly.{Due}
use Rattle.mon_legal.specs.Directly.Due.{Frame, Tells, Ending, Probing, Going}
use Rattle.mon_legal.specs.Moments.{Moment, begins}
use Rattle.mon_legal.specs.Moments.Moment.{Is, Went, Came, Broke, Did}
use Rattle.mon_legal.specs.Jobs.{last_serial, last_job}
use Rattle.mon_legal.specs.Sessions.{version}
use Rattle.mon_legal.specs.Ordering.{Next, next}
use Rattle.mon_legal.specs.Ordering.Next.{Meets, Takes, Loses, Handles, Breaks_off, Wants, Nothing}
use Rattle.mon_legal.specs.Lines.{Line}

-- what is due of a session comes: its bytes are those that were due
abbrev pub IsMet : Run → List Moment → ℕ → Due → Moment → Type 0
IsMet run f s (Frame to frame) m = (lost : Bool) × (m ≡ Is (Put s to frame lost))
IsMet run f s (Tells line) m = m ≡ Is (Noted (Report line))
IsMet run f s (Ending why) m = m ≡ Is (End s)
IsMet run f s (Probing job edit) m = (e : Emission) × (m ≡ Is (Noted (Probe (last_serial run f + 1) job e)))
IsMet run f s (Going serial) m = (near : ℕ) × (frame : List ℕ) × (lost : Bool) × (m ≡ Went s serial near frame lost)

-- what comes next comes, and nothing else: at the end of a turn the next one begins
abbrev pub Comes : Run → List Moment → Next → Moment → Type 0
Comes run f (Meets s due) m = IsMet run f s due m
Comes run f (Takes s act) m = m ≡ Did s act
Comes run f (Loses s) m = m ≡ Is (End s)
Comes run f (Handles s side frame) m = m ≡ Came s side frame
Comes run f (Breaks_off s side fault) m = m ≡ Broke s side fault
Comes run f (Wants s k) m = m ≡ Is (Noted (Offer (last_job run f + 1) s k (version run s f)))
Comes run f Nothing m = begins m ≡ true

abbrev pub InOrder : Run → List Moment → Moment → Type 0
InOrder run f m = Comes run f (next run f) m

abbrev pub NothingIsLeft : Run → List Moment → Type 0
NothingIsLeft run f = next run f ≡ Nothing

abbrev pub FramesGoInOrder : Run → List Moment → Type 0
FramesGoInOrder run f = Line (InOrder run) (NothingIsLeft run) f
