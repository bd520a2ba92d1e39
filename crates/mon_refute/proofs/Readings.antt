-- What a clause says, told by the literals that it has. Solvers build their lines on this.
use Rattle.std.proofs.Common.{◌≡◌, ℕ, Bool, true, false, not, cond, refl, sym, ap, ◌∙◌, subst, List, [], ◌∷◌, ◌⊎◌, ⊎_elim, inl, inr}
use Rattle.std.specs.Prelude.{◌==◌}
use Rattle.std.specs.List.{list_all}
use Rattle.std.proofs.lemmas.Bool.{false≢true, and_parts, and_from, not_from_false, cond-true, eqb-true, eq-eqb, cases_Bool, or_left, or_right, or_cases, both_ways}
use Rattle.mon_list.specs.Has.{Has}
use Rattle.mon_cnf.specs.declared.clause.Lit.{Lit}
use Rattle.mon_refute.specs.declared.marks.Reading.{Reading}
use Rattle.mon_refute.specs.declared.marks.Reading.TheVariants.{Contradicts, Gives, Neither}
use Rattle.mon_refute.specs.Follow.{same, opposite, is_true, is_false, rest, reading, reading_of, named, by_hints}

pub lit_parts : (x y : ℕ) (p q : Bool) → x ≡ y → p ≡ q → (let l : Lit = record { var = x; positive = p } in l) ≡ record { var = y; positive = q }
lit_parts x y p q e f = cc

pub lit_is : (a b : Lit) → a.var ≡ b.var → a.positive ≡ b.positive → a ≡ b
lit_is a b e f = lit_parts a.var b.var a.positive b.positive e f

pub all_has : (p : Lit → Bool) (c : List Lit) (k : Lit) → list_all p c ≡ true → Has c k → p k ≡ true
all_has p [] k a h = absurd h
all_has p (x ∷ xs) k a h = ⊎_elim (λ e. ap p e ∙ (and_parts (p x) _ a).0) (λ i. all_has p xs k (and_parts (p x) _ a).1 i) h

pub has_all : (p : Lit → Bool) (c : List Lit) → ((k : Lit) → Has c k → p k ≡ true) → list_all p c ≡ true
has_all p [] f = refl
has_all p (x ∷ xs) f = and_from _ _ (f x (inl refl)) (has_all p xs (λ k h. f k (inr h)))

pub same_sign : (a b : Bool) → cond a b (not b) ≡ true → a ≡ b
same_sign true true e = refl
same_sign true false e = absurd (false≢true e)
same_sign false true e = absurd (false≢true e)
same_sign false false e = refl

sign_same : (a : Bool) → cond a a (not a) ≡ true
sign_same true = refl
sign_same false = refl

pub same_is : (a b : Lit) → same a b ≡ true → a ≡ b
same_is a b e = let p = and_parts (a.var == b.var) _ e in lit_is a b (eqb-true a.var b.var p.0) (same_sign a.positive b.positive p.1)

pub is_same : (a b : Lit) → a ≡ b → same a b ≡ true
is_same a b e = subst (λ k. same a k ≡ true) e (and_from _ _ (eq-eqb a.var a.var refl) (sign_same a.positive))

pub true_has : (known : List Lit) (l : Lit) → is_true known l ≡ true → Has known l
true_has [] l e = absurd (false≢true e)
true_has (k ∷ ks) l e = ⊎_elim (λ s. inl (sym (same_is k l s))) (λ s. inr (true_has ks l s)) (or_cases (same k l) _ e)

pub has_true : (known : List Lit) (l : Lit) → Has known l → is_true known l ≡ true
has_true [] l h = absurd h
has_true (k ∷ ks) l h = ⊎_elim (λ e. or_left _ _ (is_same k l (sym e))) (λ i. or_right _ _ (has_true ks l i)) h

drop_false : (x : Lit) (xs ys : List Lit) (b : Bool) → b ≡ true → xs ≡ ys → cond (not b) (x ∷ xs) xs ≡ ys
drop_false x xs ys true b e = e
drop_false x xs ys false b e = absurd (false≢true b)

keep_open : (x : Lit) (xs : List Lit) (b : Bool) → b ≡ false → cond (not b) (x ∷ xs) xs ≡ x ∷ xs
keep_open x xs true b = absurd (false≢true (sym b))
keep_open x xs false b = refl

rest_none : (known c : List Lit) → ((k : Lit) → Has c k → is_false known k ≡ true) → rest known c ≡ []
rest_none known [] f = refl
rest_none known (x ∷ xs) f = drop_false x _ _ (is_false known x) (f x (inl refl)) (rest_none known xs (λ k h. f k (inr h)))

-- a clause whose literals are all false
pub reading_none : (known c : List Lit) → ((k : Lit) → Has c k → is_false known k ≡ true) → reading known (rest known c) ≡ Contradicts
reading_none known c f = ap (reading known) (rest_none known c f)

cond_all : (known : List Lit) (x : Lit) (xs : List Lit) (l : Lit) (b : Bool) → is_false known x ≡ b → (is_false known x ≡ true) ⊎ (x ≡ l) → list_all (same l) (rest known xs) ≡ true → list_all (same l) (cond (not b) (x ∷ rest known xs) (rest known xs)) ≡ true
cond_all known x xs l true e d r = r
cond_all known x xs l false e d r = and_from _ _ (⊎_elim (λ t. absurd (both_ways (is_false known x) e t)) (λ (m : x ≡ l). is_same l x (sym m)) d) r

rest_same : (known c : List Lit) (l : Lit) → ((k : Lit) → Has c k → (is_false known k ≡ true) ⊎ (k ≡ l)) → list_all (same l) (rest known c) ≡ true
rest_same known [] l f = refl
rest_same known (x ∷ xs) l f = cond_all known x xs l (is_false known x) refl (f x (inl refl)) (rest_same known xs l (λ k h. f k (inr h)))

rest_unit : (known c : List Lit) (l : Lit) → is_false known l ≡ false → ((k : Lit) → Has c k → (is_false known k ≡ true) ⊎ (k ≡ l)) → Has c l → (ls : List Lit) × (rest known c ≡ l ∷ ls) × (list_all (same l) ls ≡ true)
rest_unit known [] l o f h = absurd h
rest_unit known (x ∷ xs) l o f h =
    ⊎_elim
    (λ (b : is_false known x ≡ true).
    let i : Has xs l = ⊎_elim (λ (e : l ≡ x). absurd (both_ways (is_false known x) (ap (is_false known) (sym e) ∙ o) b)) (λ (i : Has xs l). i) h in
    let r = rest_unit known xs l o (λ k h. f k (inr h)) i in
    (r.0, drop_false x _ _ (is_false known x) b r.1, r.2))
    (λ (b : is_false known x ≡ false).
    let e : x ≡ l = ⊎_elim (λ (t : is_false known x ≡ true). absurd (both_ways (is_false known x) b t)) (λ (e : x ≡ l). e) (f x (inl refl)) in
    (rest known xs, keep_open x _ (is_false known x) b ∙ ap (λ y. y ∷ rest known xs) e, rest_same known xs l (λ k h. f k (inr h))))
    (cases_Bool (is_false known x))

-- a clause with one undecided literal, however often it stands there
pub reading_unit : (known c : List Lit) (l : Lit) → is_false known l ≡ false → is_true known l ≡ false → ((k : Lit) → Has c k → (is_false known k ≡ true) ⊎ (k ≡ l)) → Has c l → reading known (rest known c) ≡ Gives l
reading_unit known c l o t f h =
    let r = rest_unit known c l o f h in
    ap (reading known) r.1 ∙ cond-true _ _ Neither (and_from _ _ (not_from_false _ t) r.2)

pub not_not : (b : Bool) → not (not b) ≡ b
not_not true = refl
not_not false = refl

pub opposite_opposite : (l : Lit) → opposite (opposite l) ≡ l
opposite_opposite l = lit_is (opposite (opposite l)) l refl (not_not l.positive)

-- one hint more
pub hint_then : (cs : List (List Lit)) (known : List Lit) (h : ℕ) (hs : List ℕ) (r : Reading) → reading_of known (named cs h) ≡ r
    → by_hints cs known (h ∷ hs) ≡ elim r as (λ _. Bool) [ Contradicts ↦ true | Gives l ↦ by_hints cs (l ∷ known) hs | Neither ↦ false ]
hint_then cs known h hs r e = ap (λ r. elim r as (λ _. Bool) [ Contradicts ↦ true | Gives l ↦ by_hints cs (l ∷ known) hs | Neither ↦ false ]) e

-- a reading that gives a literal
pub gives_cond : (b : Bool) (k l : Lit) → cond b (Gives k) Neither ≡ Gives l → k ≡ l
gives_cond true k l e = cc
gives_cond false k l e = cc
