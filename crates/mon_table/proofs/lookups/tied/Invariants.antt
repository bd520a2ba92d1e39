use Rattle.std.proofs.Common.{◌≡◌, drop}
use Rattle.mon_table.specs.Chunks.{rules_of}
use Rattle.mon_table.specs.Tables.{tied}
use Rattle.mon_table.proofs.lookups.tied.Given as goal

abbrev pub invariant-loop-chunk : goal.invariant-loop-chunk
invariant-loop-chunk l = tied (rules_of (drop l.chunk-index l.chunks)) l.rule ≡ tied (rules_of l.chunks) l.rule
