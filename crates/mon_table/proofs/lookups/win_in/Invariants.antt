use Rattle.std.proofs.Common.{◌≡◌, ◌+◌, ◌++◌, drop}
use Rattle.mon_table.specs.Tables.{places_from}
use Rattle.mon_table.specs.Places.{is_from_rank}
use Rattle.mon_table.proofs.lookups.win_in.Given as goal

abbrev pub invariant-loop-place : goal.invariant-loop-place
invariant-loop-place l = l.found.items ++ places_from (l.before + l.place) (is_from_rank l.h l.least) (drop l.place l.rules) ≡ l.initial.found.items ++ places_from l.before (is_from_rank l.h l.least) l.rules
