use Rattle.std.proofs.Common.{ap, arith, sym, ◌∙◌}
use Rattle.std.specs.Prelude.{option_copied}
use Rattle.mon_legal.specs.Runs.{Run}
use Rattle.mon_session.specs.Walks.{Known}
use Rattle.mon_session.specs.Answering.{near_at}
use Rattle.mon_session.proofs.Shooting.{shot_entries}
use Rattle.mon_session.proofs.session.Session.shoot.Goals as goal

pub returns-clause-walk : goal.returns-clause-walk
returns-clause-walk c =
    λ (run : Run). shot_entries run c.args.self.now c.forget.new.self _ c.probe.new.self c.args.around.now.key (option_copied c.args.around.now.view) c.in-Some.view.now
    c.args.around.now.near.now c.in-Some-near_at.near c.args.numbers.now.serial c.in-Some-checked_add.serial c.args.job c.args.edit c.self.inside.version
    c.args.header.now c.args.emission c.observed.result c.in_ok-frame.frame
    (ap (λ (x : Known). x.now.watching.watch) (sym c.self.view_is))
    c.forget.ensures
    c.self-2.view_is
    (ap option_copied c.in-Some.is)
    (sym (ap (near_at c.args.header.now.in_port) c.items.ensures) ∙ (sym c.near_at.ensures ∙ c.in-Some-near_at.is))
    (omega arith)
    (ap (λ (x : Known). x.now.version) c.self.view_is)
    c.observed.ensures
    c.in_ok-frame.ensures
    c.in_ok-probe.ensures
