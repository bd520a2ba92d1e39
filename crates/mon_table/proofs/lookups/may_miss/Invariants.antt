use Rattle.std.proofs.Common.{◌≡◌, drop}
use Rattle.mon_table.specs.Chunks.{rules_of}
use Rattle.mon_table.specs.Winners.{may_miss}
use Rattle.mon_table.proofs.lookups.may_miss.Given as goal

abbrev pub invariant-loop-chunk : goal.invariant-loop-chunk
invariant-loop-chunk l = may_miss (rules_of (drop l.chunk-index l.chunks)) l.h ≡ may_miss (rules_of l.chunks) l.h
