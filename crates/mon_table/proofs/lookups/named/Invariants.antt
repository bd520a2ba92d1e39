use Rattle.std.proofs.Common.{◌≡◌, ◌+◌, ◌++◌, length, drop}
use Rattle.mon_table.specs.Chunks.{rules_of}
use Rattle.mon_table.specs.Tables.{places_from, places, is_named}
use Rattle.mon_table.proofs.lookups.named.Given as goal

abbrev pub invariant-loop-chunk : goal.invariant-loop-chunk
invariant-loop-chunk l = (l.named.items ++ places_from l.before (is_named l.m) (rules_of (drop l.chunk-index l.chunks)) ≡ places (is_named l.m) (rules_of l.chunks)) × (l.before + length (rules_of (drop l.chunk-index l.chunks)) ≡ length (rules_of l.chunks))
