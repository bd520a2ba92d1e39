use Rattle.std.proofs.Common.{◌≡◌, ◌++◌, take, drop, map}
use Rattle.std.specs.List.{AllByRecursion}
use Rattle.mon_session.specs.Tracks.{a_tick_later, HasGone}
use Rattle.mon_session.proofs.track.tick_all.Given as goal

abbrev pub invariant-loop-place : goal.invariant-loop-place
invariant-loop-place l = record {
  later : l.live.items ≡ map (a_tick_later l.retry l.reported) (take l.place l.fn.live.items) ++ drop l.place l.fn.live.items;
  gone : AllByRecursion HasGone l.live.items;
}
