use Rattle.std.proofs.Common.{◌≡◌, drop}
use Rattle.mon_table.specs.Chunks.{rules_of}
use Rattle.mon_table.specs.Places.{least_rank}
use Rattle.mon_table.proofs.lookups.least_rank.Given as goal

abbrev pub invariant-loop-chunk : goal.invariant-loop-chunk
invariant-loop-chunk l = least_rank l.h (rules_of (drop l.chunk-index l.chunks)) ≡ least_rank l.h (rules_of l.chunks)
