use Rattle.std.proofs.Common.{◌≡◌, ◌++◌}
use Rattle.std.specs.Prelude.{replicate}
use Rattle.mon_packet.proofs.writing.pad.Given as goal

-- as many zeros so far as turns
abbrev pub invariant-loop : goal.invariant-loop
invariant-loop l = l.frame.items ≡ l.fn.frame.items ++ replicate l.counter 0
