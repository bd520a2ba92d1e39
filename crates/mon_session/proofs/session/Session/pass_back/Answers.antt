use Rattle.std.proofs.Common.{[], ◌∷◌, false, ap, sym, ◌∙◌}
use Rattle.std.proofs.lemmas.Result.{on_ok_weaker}
use Rattle.mon_world.specs.declared.event.Side.TheVariants.{Controller}
use Rattle.mon_legal.specs.Owns.Own.{Sends}
use Rattle.mon_session.specs.Now.{Now}
use Rattle.mon_session.specs.Walks.{Known, takes, walks}
use Rattle.mon_session.specs.Entries.{with_now}
use Rattle.mon_session.proofs.Framed.{as_other}
use Rattle.mon_session.proofs.session.Session.pass_back.Goals as goal

pub returns-clause-walk : goal.returns-clause-walk
returns-clause-walk c =
    on_ok_weaker c.send_back.result
    (λ w run others. w run ∙ (ap (λ (k : Known). takes run k (Sends Controller c.args.frame false)) c.greet.ensures
    ∙ ap (λ (n : Now). walks run (with_now c.args.self.now n) (Sends Controller c.args.frame false ∷ []))
    (sym (as_other run c.args.self.now.now c.args.frame others c.requires.reply c.requires.answer c.requires.error c.requires.removal))))
    c.send_back.ensures.walk
