use Rattle.std.proofs.Common.{ap, ◌∙◌}
use Rattle.std.proofs.lemmas.Result.{on_ok_weaker}
use Rattle.mon_legal.specs.Runs.{Run}
use Rattle.mon_session.specs.Walks.{Known}
use Rattle.mon_session.proofs.Walking.{some_run}
use Rattle.mon_session.proofs.Erring.{rejection_walk, rejection_steps}
use Rattle.mon_session.proofs.session.Session.pass_rejection.Goals as goal

pub returns-clause-walk : goal.returns-clause-walk
returns-clause-walk c =
    let k : Known = c.args.self.now in
    on_ok_weaker c.tell.result
    (λ w (run : Run). rejection_walk run k c.send_back.new.self c.tell.new.self k.now.armed c.args.frame c.args.edit c.self.inside.number (ap (λ (x : Known). x.number) c.self.view_is)
    (c.in_ok-send_back.ensures.walk run) (w run))
    c.tell.ensures.walk

pub returns-clause-outs : goal.returns-clause-outs
returns-clause-outs c =
    let k : Known = c.args.self.now in
    on_ok_weaker c.tell.result
    (λ w. rejection_steps k.number c.self.inside.number c.args.edit k.now.armed c.args.frame c.args.outs.now c.send_back.new.outs c.tell.new.outs
    (ap (λ (x : Known). x.number) c.self.view_is ∙ ap (λ (x : Known). x.number) (c.in_ok-send_back.ensures.walk some_run)) c.in_ok-send_back.ensures.outs w)
    c.tell.ensures.outs
