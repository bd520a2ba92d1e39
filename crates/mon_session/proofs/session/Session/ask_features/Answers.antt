use Rattle.std.proofs.Common.{ℕ, Bool, List, [], false, ap, sym, ◌∙◌}
use Rattle.std.proofs.lemmas.Result.{on_ok_weaker}
use Rattle.mon_world.specs.declared.event.Side.TheVariants.{Switch}
use Rattle.mon_legal.specs.Owns.Own.{Sends}
use Rattle.mon_session.specs.Walks.{takes, walks}
use Rattle.mon_session.specs.Dues.{met, request_if}
use Rattle.mon_session.proofs.session.Session.ask_features.Goals as goal

pub returns-clause-walk : goal.returns-clause-walk
returns-clause-walk c =
    on_ok_weaker c.send_on.result
    (λ w run. w run ∙ (ap (λ (f : List ℕ). takes run c.args.self.now (Sends Switch f false)) c.in_ok-request.ensures
    ∙ ap (λ (b : Bool). walks run c.args.self.now (met (request_if b []))) (sym c.if-not-first.false)))
    c.send_on.ensures.walk
