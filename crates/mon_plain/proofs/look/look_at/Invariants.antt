use Rattle.std.proofs.Common.{take}
use Rattle.mon_plain.specs.Marks.{Looked}
use Rattle.mon_plain.proofs.look.look_at.Given as goal

abbrev pub invariant-loop-literal : goal.invariant-loop-literal
invariant-loop-literal l = Looked l.marks (take l.literal-index l.clause) l.look
