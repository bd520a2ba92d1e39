use Rattle.std.proofs.Common.{subst}
use Rattle.mon_trail.specs.Picks.{Picked}
use Rattle.mon_cdcl.proofs.solver.decide.Goals as goal

pub returns-in-None : goal.returns-in-None
returns-in-None c = λ lines. subst (λ ms. Picked c.args.f.now.clauses lines ms c.pick_open.result) c.deref-in-None.ensures.value (c.pick_open.ensures lines)
