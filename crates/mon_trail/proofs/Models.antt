-- A model is read from the marks.
use Rattle.std.proofs.Common.{◌≡◌, ℕ, Bool, true, false, not, cond, refl, sym, ap, ◌∙◌, subst, ⊎_elim, List, [], ◌∷◌, ◌++◌, length, map, zero, suc, replicate, take}
use Rattle.std.proofs.Math.Seq.{take-append_seam}
use Rattle.std.specs.List.{list_all}
use Rattle.std.proofs.lemmas.List.{length-map}
use Rattle.std.proofs.lemmas.Bool.{false≢true, and_parts, and_from, or_cases, or_left, or_right}
use Rattle.mon_cnf.specs.declared.clause.Lit.{Lit}
use Rattle.mon_cnf.specs.Formulas.{Cnf}
use Rattle.mon_cnf.specs.Truth.{lit_true, clause_true, formula_true, values_of}
use Rattle.mon_trail.specs.declared.look.Mark.{Mark}
use Rattle.mon_trail.specs.declared.look.Mark.TheVariants.{Free, Is}
use Rattle.mon_trail.specs.Marks.{mark_at, is_on, makes_on, any_on, value_of}
use Rattle.mon_trail.specs.Picks.{AllOn}

value_at : (marks : List Mark) (x : ℕ) → values_of (map value_of marks) x ≡ value_of (mark_at marks x)
value_at [] x = refl
value_at (m ∷ ms) zero = refl
value_at (m ∷ ms) (suc x) = value_at ms x

on_is_true : (m : Mark) (p : Bool) → makes_on m p ≡ true → cond p (value_of m) (not (value_of m)) ≡ true
on_is_true Free p e = absurd (false≢true e)
on_is_true (Is true) true e = refl
on_is_true (Is true) false e = absurd (false≢true e)
on_is_true (Is false) true e = absurd (false≢true e)
on_is_true (Is false) false e = refl

lit_on : (marks : List Mark) (l : Lit) → is_on marks l ≡ true → lit_true (values_of (map value_of marks)) l ≡ true
lit_on marks l e = ap (λ b. cond l.positive b (not b)) (value_at marks l.var) ∙ on_is_true (mark_at marks l.var) l.positive e

clause_on : (marks : List Mark) (c : List Lit) → any_on marks c ≡ true → clause_true (values_of (map value_of marks)) c ≡ true
clause_on marks [] e = absurd (false≢true e)
clause_on marks (l ∷ ls) e = ⊎_elim (λ a. or_left _ _ (lit_on marks l a)) (λ a. or_right _ _ (clause_on marks ls a)) (or_cases (is_on marks l) _ e)

formula_on : (marks : List Mark) (cs : List (List Lit)) → list_all (any_on marks) cs ≡ true → formula_true (values_of (map value_of marks)) cs ≡ true
formula_on marks [] e = refl
formula_on marks (c ∷ cs) e = let p = and_parts (any_on marks c) _ e in and_from _ _ (clause_on marks c p.0) (formula_on marks cs p.1)

pub model_true : (f : Cnf) (marks : List Mark) (v : List Bool) → v ≡ map value_of marks → (length marks ≡ f.vars) × AllOn marks f.clauses
    → (length v ≡ f.vars) × (formula_true (values_of v) f.clauses ≡ true)
model_true f marks v e h =
    (ap length e ∙ length-map marks value_of ∙ h.0, subst (λ w. formula_true (values_of w) f.clauses ≡ true) (sym e) (formula_on marks f.clauses h.1))

pub all_free : (n x : ℕ) → mark_at (replicate n Free) x ≡ Free
all_free zero x = refl
all_free (suc n) zero = refl
all_free (suc n) (suc x) = all_free n x

pub taken : (xs ys : List Mark) (n : ℕ) → length xs ≡ n → take n (xs ++ ys) ≡ xs
taken xs ys n e = ap (λ k. take k (xs ++ ys)) (sym e) ∙ take-append_seam xs ys
