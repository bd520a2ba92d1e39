use Rattle.std.proofs.Common.{◌≡◌, ◌++◌, length}
use Rattle.mon_text.specs.Parts.{run_in}
use Rattle.mon_text.proofs.hexadecimal.take_run.Given as goal

-- the bytes that were read, and those that still are
abbrev pub invariant-loop-rest : goal.invariant-loop-rest
invariant-loop-rest l = (l.bytes.items ++ (run_in l.rest).0, (run_in l.rest).1) ≡ run_in l.text

abbrev pub decreases-loop-rest : goal.decreases-loop-rest
decreases-loop-rest l = length l.rest
