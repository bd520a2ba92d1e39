use Rattle.std.proofs.Common.{◌≡◌, length}
use Rattle.of_frame.specs.Cut.{cut}
use Rattle.of_frame.proofs.Pieces.{with_front}
use Rattle.of_frame.proofs.cutter.Cutter.feed.Given as goal

abbrev pub invariant-loop-rest : goal.invariant-loop-rest
invariant-loop-rest l = with_front l.frames (cut l.self l.rest) ≡ cut l.fn.self l.piece

abbrev pub decreases-loop-rest : goal.decreases-loop-rest
decreases-loop-rest l = length l.rest
