use Rattle.std.proofs.Common.{List, ◌∷◌, ap, sym, ◌∙◌}
use Rattle.mon_legal.specs.Runs.{Run}
use Rattle.mon_legal.specs.Owns.Own.{From_controller}
use Rattle.mon_legal.specs.Directly.{Due}
use Rattle.mon_session.specs.Walks.{walks}
use Rattle.mon_session.specs.Dues.{met}
use Rattle.mon_session.proofs.Overtaking.{heavy_dues}
use Rattle.mon_session.proofs.session.Session.from_controller.Goals as goal

pub returns-clause-walk : goal.returns-clause-walk
returns-clause-walk c =
    λ (run : Run). c.in_ok-keep.ensures run
    ∙ ap (λ (ds : List Due). walks run c.args.self.now (From_controller c.args.frame ∷ met ds)) (sym (heavy_dues c.args.frame (sym c.is_light.ensures ∙ c.if-is_light.false)))
