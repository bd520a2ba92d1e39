use Rattle.std.proofs.Common.{sym, subst, arith}
use Rattle.mon_cnf.specs.Truth.{Within}
use Rattle.mon_encode.proofs.Pushing.{unmatched-fits}
use Rattle.mon_encode.proofs.winning.push_beaten.Goals as goal

pub push-requires : goal.push-requires
push-requires c =
    subst (Within c.loop-place.f.vars) (sym c.in_ok-unmatched.ensures)
    (unmatched-fits c.loop-place.f.vars c.rule-rule.result (let v = c.loop-place.invariant.vars in omega arith))
