-- Which jobs are offered.
use Rattle.std.specs.Prelude.{◌≡◌, ℕ, ◌+◌, ◌<◌, true, List, Some, None}
use Rattle.mon_world.specs.declared.event.Note.TheVariants.{Offer}
use Rattle.mon_world.specs.declared.history.Entry.TheVariants.{Noted}
use Rattle.mon_legal.specs.Runs.{Run}
use Rattle.mon_legal.specs.Barriers.{is_armed}
use Rattle.mon_legal.specs.Moments.{Moment}
use Rattle.mon_legal.specs.Moments.Moment.{Is}
use Rattle.mon_legal.specs.Jobs.{last_job}
use Rattle.mon_legal.specs.Sessions.{part, version, opened, OfEach}
use Rattle.mon_legal.specs.Ordering.{first_with, jobs_in_slot, want_of}
use Rattle.mon_legal.specs.Lines.{Line}

-- an offer comes of the first session that wants a job and has room, by rising number: for the oldest of its edits that want
-- one, or for a watch where none does. It bears the slot's version and the next number
pub record IsOffer (run : Run) (f : List Moment) (job s k v : ℕ) : Type 0 where
  pub first : first_with (want_of run f) (opened run f) ≡ Some (s, k)
  pub armed : is_armed (part run s f) ≡ true
  pub room : jobs_in_slot run s f < 16
  pub present : v ≡ version run s f
  pub number : job ≡ last_job run f + 1

abbrev pub OffersRightly : Run → List Moment → Moment → Type 0
OffersRightly run f (Is (Noted (Offer job s k v))) = IsOffer run f job s k v
OffersRightly run f m = Unit {0}

-- at the end of a turn no edit wants a job for which there is room
abbrev pub NoneWants : Run → List Moment → Type 0
NoneWants run f = OfEach run f (λ s. want_of run f s ≡ None)

abbrev pub JobsAreOffered : Run → List Moment → Type 0
JobsAreOffered run f = Line (OffersRightly run) (NoneWants run) f
