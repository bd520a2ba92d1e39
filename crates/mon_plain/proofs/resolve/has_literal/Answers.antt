use Rattle.mon_plain.proofs.Joins.{has_at_parts, beq_true}
use Rattle.mon_plain.proofs.resolve.has_literal.Goals as goal

pub returns-then-other-literal-2 : goal.returns-then-other-literal-2
returns-then-other-literal-2 c = λ _. has_at_parts c.args.clause.now c.loop-other.other-index _ c.args.literal c.loop-other-test.true c.if-other-literal.true (beq_true _ _ c.if-other-literal-2.true)
