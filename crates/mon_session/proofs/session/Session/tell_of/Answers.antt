use Rattle.std.proofs.Common.{true, false, refl, ap, ◌∙◌}
use Rattle.mon_report.specs.declared.line.What.TheVariants.{NoChange}
use Rattle.mon_report.specs.declared.line.Line.TheVariants.{Fact}
use Rattle.mon_legal.specs.Runs.{Run}
use Rattle.mon_legal.specs.Owns.Own.{Reports}
use Rattle.mon_session.specs.Walks.{Known, takes}
use Rattle.mon_session.proofs.Told.{told_walk}
use Rattle.mon_session.proofs.session.Session.tell_of.Goals as goal

pub returns-then-nothing-clause-walk : goal.returns-then-nothing-clause-walk
returns-then-nothing-clause-walk c =
    λ (run : Run). told_walk run c.args.self.now c.tell.new.self c.args.edit c.args.nothing c.args.tied true c.args.tied c.if-nothing.true refl
    (c.in_ok-tell.ensures.walk run ∙ ap (λ (x : Known). takes run c.args.self.now (Reports (Fact x.number c.args.edit NoChange))) c.self.view_is)

pub returns-in_ok-tell_overlap-clause-walk : goal.returns-in_ok-tell_overlap-clause-walk
returns-in_ok-tell_overlap-clause-walk c =
    λ (run : Run). told_walk run c.args.self.now c.tell_overlap.new.self c.args.edit c.args.nothing c.args.tied false true c.if-nothing.false c.if-tied.true
    (c.in_ok-tell_overlap.ensures.walk run)
