use Rattle.std.proofs.Common.{◌≡◌, List, drop}
use Rattle.mon_cnf.specs.declared.clause.Lit.{Lit}
use Rattle.mon_refute.specs.declared.marks.Reading.TheVariants.{Contradicts}
use Rattle.mon_refute.specs.Marks.{Shows, reads}
use Rattle.mon_refute.proofs.marks.read.Given as goal

abbrev pub invariant-loop-literal : goal.invariant-loop-literal
invariant-loop-literal l = (known : List Lit) → Shows l.marks known → reads known Contradicts l.clause ≡ reads known l.so_far (drop l.literal-index l.clause)
