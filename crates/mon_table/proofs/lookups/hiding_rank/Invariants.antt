use Rattle.std.proofs.Common.{◌≡◌, drop}
use Rattle.mon_table.specs.Chunks.{hiding_rank}
use Rattle.mon_table.proofs.lookups.hiding_rank.Given as goal

abbrev pub invariant-loop-rule : goal.invariant-loop-rule
invariant-loop-rule l = hiding_rank l.h (drop l.rule-index l.rules) ≡ hiding_rank l.h l.rules
