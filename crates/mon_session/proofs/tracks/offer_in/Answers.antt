use Rattle.std.proofs.Common.{arith, length, ◌<◌, ◌∙◌, ap}
use Rattle.mon_session.specs.Tracks.{offered}
use Rattle.mon_session.proofs.Maps.{mapped_more}
use Rattle.mon_session.proofs.tracks.offer_in.Goals as goal

pub loop-place-preserved : goal.loop-place-preserved
loop-place-preserved c =
    let less : c.loop-place.place < length c.args.tracks.now.items = omega arith in
    mapped_more (offered c.args.number) _ _ _ _ _ c.loop-place.invariant less (c.offer.ensures ∙ ap (offered c.args.number) c.index_mut.ensures.value)
