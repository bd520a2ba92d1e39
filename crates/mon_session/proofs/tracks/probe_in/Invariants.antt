use Rattle.std.proofs.Common.{◌≡◌, ◌++◌, take, drop, map}
use Rattle.mon_session.specs.Tracks.{sent_one, AllGone}
use Rattle.mon_session.proofs.tracks.probe_in.Given as goal

abbrev pub invariant-loop-place : goal.invariant-loop-place
invariant-loop-place l = record {
  later : l.tracks.items ≡ map (sent_one l.near l.frame l.probe) (take l.place l.fn.tracks.items) ++ drop l.place l.fn.tracks.items;
  gone : AllGone l.tracks.items;
}
