-- Which clause a number names, and which literal of it is of a variable.
use Rattle.std.proofs.Common.{◌≡◌, ℕ, true, refl, List, [], ◌∷◌, Some, ⊎_elim, inl, inr}
use Rattle.std.specs.Prelude.{◌==◌}
use Rattle.std.proofs.lemmas.Bool.{false≢true, eqb-true, or_cases}
use Rattle.mon_list.specs.Has.{Has}
use Rattle.mon_cnf.specs.declared.clause.Lit.{Lit}
use Rattle.mon_refute.specs.Follow.{mentions}

pub some_is : (a b : List Lit) → Some a ≡ Some b → a ≡ b
some_is a b e = cc

pub mentioned : (c : List Lit) (x : ℕ) → mentions x c ≡ true → (k : Lit) × Has c k × (k.var ≡ x)
mentioned [] x e = absurd (false≢true e)
mentioned (l ∷ ls) x e =
    ⊎_elim (λ (s : (l.var == x) ≡ true). (l, inl refl, eqb-true l.var x s)) (λ (s : mentions x ls ≡ true). let m = mentioned ls x s in (m.0, inr m.1, m.2)) (or_cases (l.var == x) _ e)
