use Rattle.std.proofs.Common.{arith, ◌≡◌, ◌<◌, ◌∙◌, length, ap, sym, subst}
use Rattle.std.specs.List.{AllByRecursion}
use Rattle.mon_session.specs.Tracks.{Track as Tracked, ticked, HasGone}
use Rattle.mon_session.proofs.Maps.{mapped_more, as_long, all_at, all_set}
use Rattle.mon_session.proofs.tracks.tick_in.Goals as goal

pub tick-requires : goal.tick-requires
tick-requires c =
    let long : length c.loop-place.tracks.items ≡ length c.args.tracks.now.items =
    as_long (ticked c.args.retry c.args.version) c.loop-place.tracks.items c.args.tracks.now.items c.loop-place.place c.loop-place.invariant.later in
    let less : c.loop-place.place < length c.loop-place.tracks.items = omega arith in
    record {
      gone = subst (λ (t : Tracked). AllByRecursion HasGone t.live) (sym c.index_mut.ensures.value)
          (all_at (λ (t : Tracked). AllByRecursion HasGone t.live) c.loop-place.tracks.items c.loop-place.place c.index_mut.result.now c.loop-place.invariant.gone less);
    }

pub loop-place-preserved : goal.loop-place-preserved
loop-place-preserved c =
    let less : c.loop-place.place < length c.args.tracks.now.items = omega arith in
    record {
      later = mapped_more (ticked c.args.retry c.args.version) _ _ _ _ _ c.loop-place.invariant.later less
          (c.in_ok-tick.ensures.ticked ∙ ap (ticked c.args.retry c.args.version) c.index_mut.ensures.value);
      gone = all_set (λ (t : Tracked). AllByRecursion HasGone t.live) _ _ _ c.loop-place.invariant.gone c.tick.ensures.gone;
    }
