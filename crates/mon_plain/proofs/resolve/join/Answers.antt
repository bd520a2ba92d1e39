use Rattle.std.proofs.Common.{subst, sym, take, ◌+◌}
use Rattle.mon_plain.specs.Search.{Joined}
use Rattle.mon_plain.proofs.Joins.{joined_push, joined_skip, joined_had}
use Rattle.mon_plain.proofs.resolve.join.Goals as goal

pub loop-literal-preserved-then-literal-var : goal.loop-literal-preserved-then-literal-var
loop-literal-preserved-then-literal-var c = joined_skip c.args.out.now c.args.clause.now c.loop-literal.out c.args.var c.loop-literal.literal-index _ c.loop-literal-test.true (λ n. absurd (n c.if-literal-var.true)) c.loop-literal.invariant

pub loop-literal-preserved-then-has_literal : goal.loop-literal-preserved-then-has_literal
loop-literal-preserved-then-has_literal c = joined_had c.args.out.now c.args.clause.now c.loop-literal.out c.items.result.now c.args.var c.loop-literal.literal-index _ c.has_literal.result c.loop-literal-test.true c.items.ensures c.has_literal.ensures c.if-has_literal.true c.loop-literal.invariant

pub loop-literal-preserved : goal.loop-literal-preserved
loop-literal-preserved c = subst (λ n. Joined c.args.out.now (take (c.loop-literal.literal-index + 1) c.args.clause.now) c.args.var n) (sym c.in_ok-push.ensures.pushed) (joined_push c.args.out.now c.args.clause.now c.loop-literal.out c.args.var c.loop-literal.literal-index _ c.loop-literal-test.true c.if-literal-var.false c.loop-literal.invariant)
