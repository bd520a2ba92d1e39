use Rattle.std.proofs.Common.{◌-◌}
use Rattle.std.specs.Prelude.{option_copied}
use Rattle.mon_session.specs.Offering.{jobs_for, EditsAreThere}
use Rattle.mon_session.proofs.Offering.{SoFar}
use Rattle.mon_session.proofs.session.Session.offers.Given as goal

abbrev pub invariant-loop : goal.invariant-loop
invariant-loop l = record {
  there : EditsAreThere l.self.now;
  so_far : SoFar (option_copied l.around.view) (l.room - l.counter) l.fn.self l.self l.fn.numbers l.numbers l.fn.jobs l.jobs
      (jobs_for (option_copied l.around.view) l.room l.fn.self l.fn.numbers.job);
}
