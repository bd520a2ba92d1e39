use Rattle.mon_refute.specs.Reading.{LinesAt}
use Rattle.mon_refute.proofs.read.lines_at.Given as goal

abbrev pub invariant-loop : goal.invariant-loop
invariant-loop l = LinesAt l.bytes l.counter l.log l.rest
