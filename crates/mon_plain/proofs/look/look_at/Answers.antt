use Rattle.std.proofs.Common.{refl, ◌+◌}
use Rattle.mon_plain.proofs.Looks.{look_step, within_at, on_taken}
use Rattle.mon_plain.proofs.look.look_at.Goals as goal

pub loop-literal-preserved : goal.loop-literal-preserved
loop-literal-preserved c = look_step c.args.marks.now c.args.clause.now c.loop-literal.literal-index _ _ c.loop-literal.look c.look_more-look.result c.loop-literal-test.true (within_at _ c.args.clause.now c.loop-literal.literal-index _ c.requires c.loop-literal-test.true) refl c.loop-literal.invariant c.look_more-look.ensures

pub returns-in-On : goal.returns-in-On
returns-in-On c =
    on_taken c.args.marks.now c.args.clause.now (c.loop-literal.literal-index + 1) c.look_more-look.result c.in-On.is
    (look_step c.args.marks.now c.args.clause.now c.loop-literal.literal-index _ _ c.loop-literal.look c.look_more-look.result c.loop-literal-test.true (within_at _ c.args.clause.now c.loop-literal.literal-index _ c.requires c.loop-literal-test.true) refl c.loop-literal.invariant c.look_more-look.ensures)
