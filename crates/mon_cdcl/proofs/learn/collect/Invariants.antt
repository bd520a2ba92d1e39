use Rattle.std.proofs.Common.{take}
use Rattle.mon_cdcl.specs.Back.{Collected}
use Rattle.mon_cdcl.proofs.learn.collect.Given as goal

abbrev pub invariant-loop-var : goal.invariant-loop-var
invariant-loop-var l = Collected l.marks l.seen.flags.items (take l.var-index l.seen.vars.items) l.clause
