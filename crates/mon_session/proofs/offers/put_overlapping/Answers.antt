use Rattle.std.proofs.Common.{arith}
use Rattle.mon_session.proofs.Slices.{put_next}
use Rattle.mon_session.proofs.offers.put_overlapping.Goals as goal

pub loop-place-preserved : goal.loop-place-preserved
loop-place-preserved c =
    put_next c.args.m.now c.args.others.now c.loop-place.place c.rule.result.now c.loop-place.part c.put_if.new.part _
    c.loop-place.invariant (omega arith) c.rule.ensures c.in_ok-put_if.ensures
