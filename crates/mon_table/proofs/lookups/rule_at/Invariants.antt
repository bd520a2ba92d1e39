use Rattle.std.proofs.Common.{◌≡◌, ◌<◌, length, get_or, drop}
use Rattle.mon_table.specs.declared.rule.Rule.{Rule}
use Rattle.mon_table.specs.Chunks.{rules_of}
use Rattle.mon_table.proofs.lookups.rule_at.Given as goal

abbrev pub invariant-loop-chunk : goal.invariant-loop-chunk
invariant-loop-chunk l = (l.left < length (rules_of (drop l.chunk-index l.chunks))) × ((d : Rule) → get_or (rules_of (drop l.chunk-index l.chunks)) l.left d ≡ get_or (rules_of l.chunks) l.place d)
