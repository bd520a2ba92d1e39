use Rattle.std.proofs.Common.{◌≡◌, ◌++◌, take, drop, map}
use Rattle.mon_session.specs.Tracks.{answered_for}
use Rattle.mon_session.proofs.tracks.answer_in.Given as goal

abbrev pub invariant-loop-place : goal.invariant-loop-place
invariant-loop-place l = l.tracks.items ≡ map (answered_for l.number) (take l.place l.fn.tracks.items) ++ drop l.place l.fn.tracks.items
