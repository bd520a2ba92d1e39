use Rattle.std.proofs.Common.{◌≡◌, ◌+◌, length, drop}
use Rattle.mon_table.specs.Chunks.{rules_of}
use Rattle.mon_table.proofs.lookups.count.Given as goal

abbrev pub invariant-loop-chunk : goal.invariant-loop-chunk
invariant-loop-chunk l = l.count + length (rules_of (drop l.chunk-index l.chunks)) ≡ length (rules_of l.chunks)
