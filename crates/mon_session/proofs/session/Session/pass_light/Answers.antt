use Rattle.std.proofs.Common.{false, ap, sym, ◌∙◌}
use Rattle.std.proofs.lemmas.Result.{on_ok_weaker}
use Rattle.mon_world.specs.declared.event.Side.TheVariants.{Switch}
use Rattle.mon_legal.specs.Owns.Own.{Sends}
use Rattle.mon_session.specs.Walks.{Known, takes}
use Rattle.mon_session.proofs.Overtaking.{light_walk}
use Rattle.mon_session.proofs.session.Session.pass_light.Goals as goal

pub returns-clause-walk : goal.returns-clause-walk
returns-clause-walk c =
    on_ok_weaker c.send_on.result
    (λ w run. w run ∙ (ap (λ (k : Known). takes run k (Sends Switch c.args.frame false)) c.forget.ensures ∙ sym (light_walk run c.args.self.now c.args.frame c.requires.light)))
    c.send_on.ensures.walk
