use Rattle.std.proofs.Common.{◌≡◌, ◌+◌, ◌*◌, ◌≤◌, length}
use Rattle.mon_text.specs.Hex.{unhex}
use Rattle.mon_trace.specs.Reading.{onto}
use Rattle.mon_trace.proofs.hexadecimal.push_bytes.Given as goal

abbrev pub invariant-loop-rest : goal.invariant-loop-rest
invariant-loop-rest l =
    (onto l.out.items (unhex l.rest) ≡ onto l.fn.out.items (unhex l.digits))
    × (2 * length l.out.items + length l.rest ≡ 2 * length l.fn.out.items + length l.digits)
    × (length l.fn.out.items ≤ length l.out.items)

abbrev pub decreases-loop-rest : goal.decreases-loop-rest
decreases-loop-rest l = length l.rest
