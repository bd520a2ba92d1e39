use Rattle.std.proofs.Common.{arith, length, ◌<◌, ◌∙◌, ap}
use Rattle.mon_session.specs.Tracks.{answered_for}
use Rattle.mon_session.proofs.Maps.{mapped_more}
use Rattle.mon_session.proofs.tracks.answer_in.Goals as goal

pub loop-place-preserved : goal.loop-place-preserved
loop-place-preserved c =
    let less : c.loop-place.place < length c.args.tracks.now.items = omega arith in
    mapped_more (answered_for c.args.number) _ _ _ _ _ c.loop-place.invariant less (c.answer.ensures ∙ ap (answered_for c.args.number) c.index_mut.ensures.value)
