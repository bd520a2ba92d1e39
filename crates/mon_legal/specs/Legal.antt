-- Which histories are legal.
use Rattle.std.specs.Prelude.{◌≡◌, ℕ, List, nat_le, filter}
use Rattle.mon_world.specs.declared.history.Entry.{Entry}
use Rattle.mon_legal.specs.Runs.{Run}
use Rattle.mon_legal.specs.Moments.{Moment, shown}
use Rattle.mon_legal.specs.Held.{held_bytes}
use Rattle.mon_legal.specs.Sessions.{part, open_ones}
use Rattle.mon_legal.specs.Probing.{ProbesSeparate}
use Rattle.mon_legal.specs.Truths.{AnswersAreTrue}
use Rattle.mon_legal.specs.Unmonitorable.{UnmonitorableAreReported, ClosingsCame}
use Rattle.mon_legal.specs.Confirming.{ConfirmationsAreSound}
use Rattle.mon_legal.specs.Stale.{StaleAreIgnored}
use Rattle.mon_legal.specs.Passing.{FramesGoInOrder, NothingIsLeft}
use Rattle.mon_legal.specs.Replying.{RepliesWait, NoneIsDue}
use Rattle.mon_legal.specs.Offering.{JobsAreOffered, NoneWants}
use Rattle.mon_legal.specs.Ticking.{TicksAreMet, AllCame}
use Rattle.mon_legal.specs.Lasting.{SessionsLast, AllLast}
use Rattle.mon_legal.specs.Watches.{WatchesAreKept, AllWatched}
use Rattle.mon_legal.specs.Sides.{AllFramesGoOn, AllFramesWentOn}

-- each moment is lawful, by every line
pub record AreLawful (run : Run) (f : List Moment) : Type 0 where
  pub probes : ProbesSeparate run f
  pub answers : AnswersAreTrue run f
  pub unmonitorable : UnmonitorableAreReported run f
  pub confirmations : ConfirmationsAreSound run f
  pub stale : StaleAreIgnored run f
  pub frames : FramesGoInOrder run f
  pub replies : RepliesWait run f
  pub offers : JobsAreOffered run f
  pub ticks : TicksAreMet run f
  pub sessions : SessionsLast run f
  pub watches : WatchesAreKept run f
  pub sides : AllFramesGoOn run f

-- the last turn has ended
pub record HasEnded (run : Run) (f : List Moment) : Type 0 where
  pub closings : ClosingsCame run f
  pub frames : NothingIsLeft run f
  pub replies : NoneIsDue run f
  pub offers : NoneWants run f
  pub ticks : AllCame run f
  pub sessions : AllLast run f
  pub watches : AllWatched run f
  pub sides : AllFramesWentOn run f

-- a history whose last turn may be a part of one: it shows the moments of a lawful run
pub record LegalSoFar (run : Run) (h : List Entry) : Type 0 where
  pub moments : List Moment
  pub shows : shown moments ≡ h
  pub lawful : AreLawful run moments

-- a history of whole turns
pub record Legal (run : Run) (h : List Entry) : Type 0 where
  pub moments : List Moment
  pub shows : shown moments ≡ h
  pub lawful : AreLawful run moments
  pub whole : HasEnded run moments

-- the sessions whose controller is not read, by rising number: their frames that lack their whole fate have 1048576 bytes
-- or more together
abbrev pub gated : Run → List Moment → List ℕ
gated run f = filter (λ s. nat_le 1048576 (held_bytes run (part run s f))) (open_ones run f)
