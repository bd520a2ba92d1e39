-- A model is read from the marks, and a conflict with no literal closes the log.
use Rattle.std.proofs.Common.{◌≡◌, ℕ, Bool, true, false, not, cond, refl, sym, ap, ◌∙◌, subst, ⊎_elim, List, [], ◌∷◌, ◌++◌, length, map, Some, zero, suc, replicate, take}
use Rattle.std.proofs.Math.Seq.{take-append_seam}
use Rattle.std.specs.List.{list_all}
use Rattle.std.proofs.lemmas.List.{length-map}
use Rattle.std.proofs.lemmas.Bool.{false≢true, and_parts, and_from, or_cases, or_left, or_right}
use Rattle.mon_cnf.specs.declared.clause.Lit.{Lit}
use Rattle.mon_cnf.specs.Formulas.{Cnf}
use Rattle.mon_cnf.specs.Truth.{lit_true, clause_true, formula_true, values_of}
use Rattle.mon_refute.specs.declared.lines.LogLine.{LogLine}
use Rattle.mon_refute.specs.declared.marks.Reading.TheVariants.{Contradicts, Gives, Neither}
use Rattle.mon_refute.specs.Follow.{named, reading_of, by_hints, by_start, falsify, follows, all_follow, is_empty, is_accepted}
use Rattle.mon_refute.proofs.Growing.{follow_push}
use Rattle.mon_refute.proofs.Steps.{ends_push}
use Rattle.mon_plain.specs.declared.look.Mark.{Mark}
use Rattle.mon_plain.specs.declared.look.Mark.TheVariants.{Free, Is}
use Rattle.mon_plain.specs.Marks.{mark_at, is_on, is_off, makes_on, makes_off, all_off, any_on, value_of}
use Rattle.mon_plain.specs.Trail.{IsClosed, clauses_with}
use Rattle.mon_plain.specs.Search.{AllOn}

value_at : (marks : List Mark) (x : ℕ) → values_of (map value_of marks) x ≡ value_of (mark_at marks x)
value_at [] x = refl
value_at (m ∷ ms) zero = refl
value_at (m ∷ ms) (suc x) = value_at ms x

on_is_true : (m : Mark) (p : Bool) → makes_on m p ≡ true → cond p (value_of m) (not (value_of m)) ≡ true
on_is_true Free p e = absurd (false≢true e)
on_is_true (Is true) true e = refl
on_is_true (Is true) false e = absurd (false≢true e)
on_is_true (Is false) true e = absurd (false≢true e)
on_is_true (Is false) false e = refl

lit_on : (marks : List Mark) (l : Lit) → is_on marks l ≡ true → lit_true (values_of (map value_of marks)) l ≡ true
lit_on marks l e = ap (λ b. cond l.positive b (not b)) (value_at marks l.var) ∙ on_is_true (mark_at marks l.var) l.positive e

clause_on : (marks : List Mark) (c : List Lit) → any_on marks c ≡ true → clause_true (values_of (map value_of marks)) c ≡ true
clause_on marks [] e = absurd (false≢true e)
clause_on marks (l ∷ ls) e = ⊎_elim (λ a. or_left _ _ (lit_on marks l a)) (λ a. or_right _ _ (clause_on marks ls a)) (or_cases (is_on marks l) _ e)

formula_on : (marks : List Mark) (cs : List (List Lit)) → list_all (any_on marks) cs ≡ true → formula_true (values_of (map value_of marks)) cs ≡ true
formula_on marks [] e = refl
formula_on marks (c ∷ cs) e = let p = and_parts (any_on marks c) _ e in and_from _ _ (clause_on marks c p.0) (formula_on marks cs p.1)

pub model_true : (f : Cnf) (marks : List Mark) (v : List Bool) → v ≡ map value_of marks → (length marks ≡ f.vars) × AllOn marks f.clauses
    → (length v ≡ f.vars) × (formula_true (values_of v) f.clauses ≡ true)
model_true f marks v e h =
    (ap length e ∙ length-map marks value_of ∙ h.0, subst (λ w. formula_true (values_of w) f.clauses ≡ true) (sym e) (formula_on marks f.clauses h.1))

all_free : (n x : ℕ) → mark_at (replicate n Free) x ≡ Free
all_free zero x = refl
all_free (suc n) zero = refl
all_free (suc n) (suc x) = all_free n x

none_off : (n : ℕ) (c : List Lit) → all_off (replicate n Free) c ≡ true → c ≡ []
none_off n [] e = refl
none_off n (l ∷ ls) e = absurd (false≢true (ap (λ m. makes_off m l.positive) (sym (all_free n l.var)) ∙ (and_parts (is_off (replicate n Free) l) _ e).0))

close_with : (cs : List (List Lit)) (h : ℕ) → named cs h ≡ Some [] → by_hints cs [] (h ∷ []) ≡ true
close_with cs h e = ap (λ o. elim (reading_of [] o) as (λ _. Bool) [ Contradicts ↦ true | Gives l ↦ false | Neither ↦ false ]) e

pub log_refuted : (f : Cnf) (log new : List LogLine) (h : ℕ) (line : LogLine) → (all_follow f.vars f.clauses log ≡ true) × IsClosed (clauses_with f log) (replicate f.vars Free) h
    → new ≡ log ++ (line ∷ []) → line.literals ≡ [] → line.hints ≡ h ∷ [] → is_accepted f.vars f.clauses new ≡ true
log_refuted f log new h line k g e d =
    let cs = clauses_with f log in
    let c : k.1.clause ≡ [] = none_off f.vars k.1.clause k.1.off in
    let s : follows f.vars cs line ≡ true = ap (λ ls. by_start cs line.hints (falsify f.vars [] ls)) e ∙ ap (by_hints cs []) d ∙ close_with cs h (k.1.there ∙ ap Some c) in
    ap (is_accepted f.vars f.clauses) g ∙ and_from _ _ (follow_push f.vars f.clauses log line k.0 s) (ends_push log line ∙ ap is_empty e)

pub taken : (xs ys : List Mark) (n : ℕ) → length xs ≡ n → take n (xs ++ ys) ≡ xs
taken xs ys n e = ap (λ k. take k (xs ++ ys)) (sym e) ∙ take-append_seam xs ys
