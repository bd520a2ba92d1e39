use Rattle.std.proofs.Common.{take}
use Rattle.mon_plain.specs.Search.{Joined}
use Rattle.mon_plain.proofs.resolve.join.Given as goal

abbrev pub invariant-loop-literal : goal.invariant-loop-literal
invariant-loop-literal l = Joined l.fn.out (take l.literal-index l.clause) l.var l.out
