use Rattle.std.proofs.Common.{◌≡◌, ◌++◌, drop}
use Rattle.mon_table.specs.Chunks.{rules_of, NoneEmpty}
use Rattle.mon_table.specs.Tables.{slice}
use Rattle.mon_table.proofs.lookups.slice.Given as goal

abbrev pub invariant-loop-chunk : goal.invariant-loop-chunk
invariant-loop-chunk l = (rules_of l.parts.items ++ slice l.m (rules_of (drop l.chunk-index l.chunks)) ≡ slice l.m (rules_of l.chunks)) × NoneEmpty l.parts.items
