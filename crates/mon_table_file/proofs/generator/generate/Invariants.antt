use Rattle.std.proofs.Common.{◌≡◌}
use Rattle.mon_table_file.specs.Generator.{generated}
use Rattle.mon_table_file.proofs.generator.generate.Given as goal

abbrev pub invariant-loop-place : goal.invariant-loop-place
invariant-loop-place l = l.table ≡ generated l.seed l.place
