use Rattle.std.proofs.Common.{arith, ◌<◌, ◌∙◌, length, ap}
use Rattle.std.specs.List.{AllByRecursion}
use Rattle.mon_session.specs.Tracks.{Track as Tracked, sent_one, HasGone}
use Rattle.mon_session.proofs.Maps.{mapped_more, all_set}
use Rattle.mon_session.proofs.tracks.probe_in.Goals as goal

pub loop-place-preserved : goal.loop-place-preserved
loop-place-preserved c =
    let less : c.loop-place.place < length c.args.tracks.now.items = omega arith in
    record {
      later = mapped_more (sent_one c.args.near c.args.frame.now c.args.probe.now) _ _ _ _ _ c.loop-place.invariant.later less
          (c.in_ok-probe.ensures.probed ∙ ap (sent_one c.args.near c.args.frame.now c.args.probe.now) c.index_mut.ensures.value);
      gone = all_set (λ (t : Tracked). AllByRecursion HasGone t.live) _ _ _ c.loop-place.invariant.gone c.probe.ensures.gone;
    }
