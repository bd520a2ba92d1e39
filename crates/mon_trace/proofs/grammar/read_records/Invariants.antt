use Rattle.std.proofs.Common.{◌≡◌, ◌+◌, length}
use Rattle.mon_trace.specs.Grammar.{lines_of}
use Rattle.mon_trace.specs.Reading.{records_of}
use Rattle.mon_trace.specs.SoFar.{with_lines}
use Rattle.mon_trace.proofs.grammar.read_records.Given as goal

abbrev pub invariant-loop-rest : goal.invariant-loop-rest
invariant-loop-rest l =
    (with_lines l.reading (lines_of l.rest).ended (lines_of l.rest).rest ≡ records_of l.offset 0 0 l.text)
    × (l.reading.offset + length l.rest ≡ l.offset + length l.text)

abbrev pub decreases-loop-rest : goal.decreases-loop-rest
decreases-loop-rest l = length l.rest
