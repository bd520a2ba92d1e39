use Rattle.std.proofs.Common.{take}
use Rattle.mon_trail.specs.Looks.{FirstOpen}
use Rattle.mon_trail.proofs.look.look_at.Given as goal

abbrev pub invariant-loop-literal : goal.invariant-loop-literal
invariant-loop-literal l = FirstOpen l.marks (take l.literal-index l.clause) l.first
