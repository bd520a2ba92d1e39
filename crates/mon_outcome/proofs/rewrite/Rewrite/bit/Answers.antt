use Rattle.std.proofs.Common.{None, arith, sym, ◌∙◌}
use Rattle.mon_outcome.proofs.Bitwise.{walk-within, walk-beyond}
use Rattle.mon_outcome.proofs.rewrite.Rewrite.bit.Goals as goal

pub returns-then-left-count : goal.returns-then-left-count
returns-then-left-count c =
    c.field_bit.ensures
    ∙ (sym (walk-within c.laid-count-items.result c.loop-count.count-index c.loop-count.left (0, None) (omega arith) (omega arith))
    ∙ c.loop-count.invariant.1)

pub loop-count-preserved : goal.loop-count-preserved
loop-count-preserved c = (
  c.loop-count.invariant.0,
  sym (walk-beyond c.laid-count-items.result c.loop-count.count-index c.loop-count.left (0, None) (omega arith) (omega arith)) ∙ c.loop-count.invariant.1,
)
