use Rattle.std.proofs.lemmas.Result.{on_ok_weaker}
use Rattle.std.proofs.Common.{sym, ◌∙◌}
use Rattle.mon_session.specs.Runs.{run_of}
use Rattle.mon_session.proofs.Replying.{arm_at}
use Rattle.mon_session.proofs.session.Session.arm.Goals as goal

pub returns-clause-walk : goal.returns-clause-walk
returns-clause-walk c =
    on_ok_weaker c.tell.result
    (λ w. arm_at (run_of c.args.around.now) _ _ c.tell.new.self c.in-Some.datapath c.in-Some-tag_of.tag c.self.view_is c.in-Some.is (sym c.tag_of.ensures ∙ c.in-Some-tag_of.is) (w (run_of c.args.around.now)))
    c.tell.ensures.walk
