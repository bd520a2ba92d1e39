use Rattle.std.proofs.Common.{arith, ◌<◌, ◌∙◌, length, ap}
use Rattle.mon_session.specs.Tracks.{a_tick_later, HasGone}
use Rattle.mon_session.proofs.Maps.{mapped_more, all_set}
use Rattle.mon_session.proofs.track.tick_all.Goals as goal

pub loop-place-preserved : goal.loop-place-preserved
loop-place-preserved c =
    let less : c.loop-place.place < length c.args.live.now.items = omega arith in
    record {
      later = mapped_more (a_tick_later c.args.retry c.args.reported) _ _ _ _ _ c.loop-place.invariant.later less
          (c.in_ok-tick.ensures.later ∙ ap (a_tick_later c.args.retry c.args.reported) c.index_mut.ensures.value);
      gone = all_set HasGone _ _ _ c.loop-place.invariant.gone c.tick.ensures.gone;
    }
