use Rattle.std.proofs.Common.{◌≡◌, ◌+◌, ◌++◌, length, drop}
use Rattle.mon_table.specs.Chunks.{rules_of}
use Rattle.mon_table.specs.Tables.{places_from, places}
use Rattle.mon_table.specs.Places.{is_from_rank}
use Rattle.mon_table.proofs.lookups.places_from_rank.Given as goal

abbrev pub invariant-loop-chunk : goal.invariant-loop-chunk
invariant-loop-chunk l = (l.found.items ++ places_from l.before (is_from_rank l.h l.least) (rules_of (drop l.chunk-index l.chunks)) ≡ places (is_from_rank l.h l.least) (rules_of l.chunks)) × (l.before + length (rules_of (drop l.chunk-index l.chunks)) ≡ length (rules_of l.chunks))
