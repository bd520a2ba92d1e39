use Rattle.std.proofs.Common.{◌≡◌, ◌++◌, take, drop, map}
use Rattle.mon_session.specs.Tracks.{ticked, AllGone}
use Rattle.mon_session.proofs.tracks.tick_in.Given as goal

abbrev pub invariant-loop-place : goal.invariant-loop-place
invariant-loop-place l = record {
  later : l.tracks.items ≡ map (ticked l.retry l.version) (take l.place l.fn.tracks.items) ++ drop l.place l.fn.tracks.items;
  gone : AllGone l.tracks.items;
}
