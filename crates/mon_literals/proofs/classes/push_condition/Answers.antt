use Rattle.std.proofs.Common.{◌∙◌}
use Rattle.mon_literals.proofs.Reaching.{is_within, is_not_within}
use Rattle.mon_literals.proofs.classes.push_condition.Goals as goal

pub push_alone-requires : goal.push_alone-requires
push_alone-requires c =
    is_within c.args.f.now.vars c.args.condition c.in-Is.run' c.new-literals.result c.items.result.now c.requires.vars c.requires.within c.in-Is.is
    c.new-literals.ensures (c.items.ensures ∙ c.in_ok-push_run-in-Is.ensures)

pub push-requires : goal.push-requires
push-requires c =
    is_not_within c.args.f.now.vars c.args.condition c.in-IsNot.run' c.new-literals.result c.push_run-in-IsNot.new.literals c.requires.vars c.requires.within
    c.in-IsNot.is c.new-literals.ensures c.in_ok-push_run-in-IsNot.ensures
