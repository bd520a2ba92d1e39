use Rattle.std.proofs.Common.{◌≡◌, ◌++◌, drop}
use Rattle.mon_cnf.specs.Written.{written}
use Rattle.mon_cnf.proofs.written.clause_of.Given as goal

-- the literals so far stand before those that are left
abbrev pub invariant-loop-number : goal.invariant-loop-number
invariant-loop-number l = l.clause ++ written l.vars (drop l.number-index l.numbers) ≡ written l.vars l.numbers
