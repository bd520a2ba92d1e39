use Rattle.std.proofs.Common.{sym, ap, subst, arith}
use Rattle.mon_cnf.specs.Formulas.{Cnf}
use Rattle.mon_cnf.specs.Truth.{Within}
use Rattle.mon_encode.proofs.Pushing.{unmatched-fits}
use Rattle.mon_encode.proofs.winning.push_none.Goals as goal

pub push-requires : goal.push-requires
push-requires c =
    subst (Within c.loop-place.f.vars) (sym c.in_ok-unmatched.ensures)
    (unmatched-fits c.loop-place.f.vars c.rule.result (let v = ap (λ (f : Cnf). f.vars) c.loop-place.invariant in omega arith))
