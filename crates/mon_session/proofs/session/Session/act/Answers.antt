use Rattle.std.proofs.Common.{sym, ◌∙◌}
use Rattle.mon_legal.specs.Runs.{Run}
use Rattle.mon_session.specs.Runs.{run_of}
use Rattle.mon_session.proofs.Turning.{acted_all, acted_more}
use Rattle.mon_session.proofs.session.Session.act.Goals as goal

pub returns-then-not-branch-clause-acted : goal.returns-then-not-branch-clause-acted
returns-then-not-branch-clause-acted c =
    let run : Run = run_of c.args.around.now in
    (acted_all run c.args.self.now c.loop.self c.act_once.new.self c.args.outs.now c.loop.outs c.act_once.new.outs c.loop.invariant
    (sym c.in_ok-act_once.ensures.done ∙ c.if-not-branch.true) (c.in_ok-act_once.ensures.walk run) c.in_ok-act_once.ensures.outs).0

pub returns-then-not-branch-clause-done : goal.returns-then-not-branch-clause-done
returns-then-not-branch-clause-done c =
    let run : Run = run_of c.args.around.now in
    (acted_all run c.args.self.now c.loop.self c.act_once.new.self c.args.outs.now c.loop.outs c.act_once.new.outs c.loop.invariant
    (sym c.in_ok-act_once.ensures.done ∙ c.if-not-branch.true) (c.in_ok-act_once.ensures.walk run) c.in_ok-act_once.ensures.outs).1

pub loop-preserved : goal.loop-preserved
loop-preserved c =
    let run : Run = run_of c.args.around.now in
    acted_more run c.args.self.now c.loop.self c.act_once.new.self c.args.outs.now c.loop.outs c.act_once.new.outs c.loop.invariant
    (sym c.in_ok-act_once.ensures.done ∙ c.if-not-branch.false) (c.in_ok-act_once.ensures.walk run) c.in_ok-act_once.ensures.outs
