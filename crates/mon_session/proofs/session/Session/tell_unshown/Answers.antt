use Rattle.std.proofs.Common.{ap, refl}
use Rattle.std.proofs.lemmas.Result.{on_ok_weaker}
use Rattle.mon_report.specs.declared.line.Line.TheVariants.{Fact}
use Rattle.mon_report.specs.declared.line.What.TheVariants.{Indistinguishable}
use Rattle.mon_legal.specs.Runs.{Run}
use Rattle.mon_legal.specs.Messages.{own_barrier}
use Rattle.mon_session.specs.Walks.{Known}
use Rattle.mon_session.proofs.Walking.{some_run}
use Rattle.mon_session.proofs.Returning.{reported_walk, reported_steps}
use Rattle.mon_session.proofs.session.Session.tell_unshown.Goals as goal

pub send_barrier-requires : goal.send_barrier-requires
send_barrier-requires c = record { none = ap (λ (x : Known). x.now.out) (c.in_ok-tell_barriered.ensures.walk some_run) }

pub returns-clause-walk : goal.returns-clause-walk
returns-clause-walk c =
    on_ok_weaker c.send_barrier.result
    (λ w (run : Run). reported_walk run c.args.self.now c.tell_barriered.new.self c.send_barrier.new.self (Fact c.args.self.now.number c.args.edit Indistinguishable)
    own_barrier refl (c.in_ok-tell_barriered.ensures.walk run) (w run))
    c.send_barrier.ensures.walk

pub returns-clause-outs : goal.returns-clause-outs
returns-clause-outs c =
    on_ok_weaker c.send_barrier.result
    (reported_steps c.args.self.now.number c.tell_barriered.new.self.number (Fact c.args.self.now.number c.args.edit Indistinguishable)
    own_barrier c.args.outs.now c.tell_barriered.new.outs c.send_barrier.new.outs
    (ap (λ (x : Known). x.number) (c.in_ok-tell_barriered.ensures.walk some_run)) refl c.in_ok-tell_barriered.ensures.outs)
    c.send_barrier.ensures.outs
