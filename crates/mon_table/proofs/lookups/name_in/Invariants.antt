use Rattle.std.proofs.Common.{◌≡◌, ◌+◌, ◌++◌, drop}
use Rattle.mon_table.specs.Tables.{places_from, is_named}
use Rattle.mon_table.proofs.lookups.name_in.Given as goal

abbrev pub invariant-loop-place : goal.invariant-loop-place
invariant-loop-place l = l.named.items ++ places_from (l.before + l.place) (is_named l.m) (drop l.place l.rules) ≡ l.initial.named.items ++ places_from l.before (is_named l.m) l.rules
