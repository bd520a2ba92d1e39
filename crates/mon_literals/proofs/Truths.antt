-- When clauses of literals are true.
use Rattle.std.proofs.Common.{◌≡◌, ℕ, Bool, true, false, not, cond, refl, ap, ◌∙◌, List, [], ◌∷◌}
use Rattle.std.specs.Prelude.{◌&&◌, ◌||◌}
use Rattle.std.specs.List.{list_all}
use Rattle.mon_cnf.specs.declared.clause.Lit.{Lit}
use Rattle.mon_cnf.specs.Truth.{lit_true, clause_true, formula_true}
use Rattle.mon_literals.specs.Clauses.{denied, alone}

turned : (p b : Bool) → cond (not p) b (not b) ≡ not (cond p b (not b))
turned true b = refl
turned false true = refl
turned false false = refl

pub not_and : (a b : Bool) → (not a || not b) ≡ not (a && b)
not_and true b = refl
not_and false b = refl

or_false : (a : Bool) → (a || false) ≡ a
or_false true = refl
or_false false = refl

-- a denial is true where not all of its literals were
pub denied_true : (v : ℕ → Bool) (ls : List Lit) → clause_true v (denied ls) ≡ not (list_all (lit_true v) ls)
denied_true v [] = refl
denied_true v (l ∷ ls) =
    ap (λ (b : Bool). b || clause_true v (denied ls)) (turned l.positive (v l.var))
    ∙ ap (λ (b : Bool). not (lit_true v l) || b) (denied_true v ls)
    ∙ not_and (lit_true v l) (list_all (lit_true v) ls)

-- clauses of one literal each are true where all the literals are
pub alone_true : (v : ℕ → Bool) (ls : List Lit) → formula_true v (alone ls) ≡ list_all (lit_true v) ls
alone_true v [] = refl
alone_true v (l ∷ ls) =
    ap (λ (b : Bool). b && formula_true v (alone ls)) (or_false (lit_true v l)) ∙ ap (λ (b : Bool). lit_true v l && b) (alone_true v ls)
