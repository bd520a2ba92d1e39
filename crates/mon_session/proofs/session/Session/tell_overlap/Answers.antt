use Rattle.std.proofs.Common.{ap}
use Rattle.mon_legal.specs.Runs.{Run}
use Rattle.mon_session.specs.Walks.{Known}
use Rattle.mon_session.proofs.Walking.{some_run}
use Rattle.mon_session.proofs.Told.{overlap_walk, overlap_steps}
use Rattle.mon_session.proofs.session.Session.tell_overlap.Goals as goal

pub returns-clause-walk : goal.returns-clause-walk
returns-clause-walk c =
    λ (run : Run). overlap_walk run c.args.self.now c.tell_barriered.new.self c.send_on.new.self c.args.edit c.in_ok-barrier.barrier c.in_ok-barrier.ensures
    (c.in_ok-tell_barriered.ensures.walk run) (c.in_ok-send_on.ensures.walk run)

pub returns-clause-outs : goal.returns-clause-outs
returns-clause-outs c =
    overlap_steps c.args.self.now.number c.tell_barriered.new.self.number c.args.edit c.in_ok-barrier.barrier c.args.outs.now c.tell_barriered.new.outs c.send_on.new.outs
    (ap (λ (x : Known). x.number) (c.in_ok-tell_barriered.ensures.walk some_run)) c.in_ok-barrier.ensures c.in_ok-tell_barriered.ensures.outs c.in_ok-send_on.ensures.outs
