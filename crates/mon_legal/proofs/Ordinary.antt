-- The ordinary use is a legal history: all lines hold of it.
use Rattle.std.specs.Prelude.{refl}
use Rattle.std.proofs.Common.{arith}
use Rattle.mon_legal.specs.Moments.{shown}
use Rattle.mon_legal.specs.Legal.{Legal, AreLawful, HasEnded}
use Rattle.mon_legal.specs.Story.{run, the_ordinary_use}
use Rattle.mon_legal.proofs.Computed.{computed}
use Rattle.mon_legal.proofs.ProbesStand
use Rattle.mon_legal.proofs.TruthsStand
use Rattle.mon_legal.proofs.ReportsStand
use Rattle.mon_legal.proofs.ConfirmationsStand
use Rattle.mon_legal.proofs.Ignored.{stale-are-ignored}
use Rattle.mon_legal.proofs.OrderStands
use Rattle.mon_legal.proofs.Waiting.{replies-wait}
use Rattle.mon_legal.proofs.Offered.{jobs-are-offered}
use Rattle.mon_legal.proofs.TicksStand
use Rattle.mon_legal.proofs.SessionsStand
use Rattle.mon_legal.proofs.WatchesStand
use Rattle.mon_legal.proofs.Carrying.{frames-go-on, frames-went-on}

lawful : AreLawful run the_ordinary_use
lawful = record {
  probes = ProbesStand.stands;
  answers = TruthsStand.stands;
  unmonitorable = ReportsStand.stands;
  confirmations = ConfirmationsStand.stands;
  stale = stale-are-ignored run the_ordinary_use OrderStands.stands TruthsStand.stands;
  frames = OrderStands.stands;
  replies = replies-wait run the_ordinary_use OrderStands.stands;
  offers = jobs-are-offered run the_ordinary_use OrderStands.stands;
  ticks = TicksStand.stands;
  sessions = SessionsStand.stands;
  watches = WatchesStand.stands;
  sides = frames-go-on run the_ordinary_use OrderStands.stands ProbesStand.stands;
}

ended : HasEnded run the_ordinary_use
unfolding computed
ended = record {
  closings = (refl, (refl, (refl, tt)));
  frames = refl;
  replies = (λ armed. refl, (λ armed. refl, (λ armed. refl, tt)));
  offers = (refl, (refl, (refl, tt)));
  ticks = tt;
  sessions = record { losses = (refl, (refl, (refl, tt))); few = omega arith };
  watches = record { offers = (λ room. refl, (λ room. refl, (λ room. refl, tt))); missing = tt };
  sides = frames-went-on run the_ordinary_use OrderStands.stands ProbesStand.stands refl;
}

pub legal : Legal run (shown the_ordinary_use)
legal = record { moments = the_ordinary_use; shows = refl; lawful = lawful; whole = ended }
