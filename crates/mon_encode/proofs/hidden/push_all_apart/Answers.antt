use Rattle.std.proofs.Common.{ℕ, sym, ◌∙◌, ◌++◌, List, ap, subst, arith}
use Rattle.mon_cnf.specs.declared.clause.Lit.{Lit}
use Rattle.mon_cnf.specs.Truth.{Within}
use Rattle.mon_literals.proofs.Reaching.{both_within}
use Rattle.mon_encode.proofs.Pushing.{apart-fits}
use Rattle.mon_encode.proofs.hidden.push_all_apart.Goals as goal

pub push-requires : goal.push-requires
push-requires c =
    let v = c.loop-other.invariant.vars in
    subst (Within c.loop-other.f.vars) (sym (c.in_ok-joined.ensures ∙ ap (λ (ls : List Lit). c.args.base.now ++ ls) c.items.ensures))
    (both_within c.loop-other.f.vars c.args.base.now c.in-Some.difference
    (subst (λ (n : ℕ). Within n c.args.base.now) (sym v) c.requires.within)
    (apart-fits c.loop-other.f.vars c.args.shape _ c.in_ok-difference.field-0 c.in-Some.difference (omega arith) c.in_ok-difference.ensures c.in-Some.is))
