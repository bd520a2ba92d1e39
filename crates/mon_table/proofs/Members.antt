-- Tables by their members.
use Rattle.std.proofs.Common.{◌≡◌, ◌↔◌, ◌⊎◌, ℕ, suc, ◌<◌, Bool, true, false, not, cond, List, [], ◌∷◌, map, length, get_or, refl, sym, ap, subst, ◌∙◌, arith, inl, inr, ⊎_elim}
use Rattle.std.proofs.Common.{ap₂}
use Rattle.std.specs.List.{filter, AllByRecursion}
use Rattle.std.proofs.lemmas.Bool.{not-true, not_from_false, false≢true}
use Rattle.mon_list.specs.Has.{Has}
use Rattle.mon_header.specs.Matching.{IsNormal}
use Rattle.mon_table.specs.declared.rule.Rule.{Rule}
use Rattle.mon_table.specs.declared.edit.Edit.{Edit}
use Rattle.mon_table.specs.declared.edit.Edit.TheVariants.{Put, Cut}
use Rattle.mon_table.specs.Rules.{Identity, identity_of, same_identity, comes_before}
use Rattle.mon_table.specs.Tables.{InOrder, IsTable, without, placed, places_from, places}
use Rattle.mon_table.specs.Edits.{edited, after}
use Rattle.mon_table.specs.Laws.{IsPut, IsLeft}
use Rattle.mon_table.proofs.Identities.{same-is, same-self, comes_before-self, comes_before-more}
use Rattle.mon_table.proofs.Keeping.{table-with, table-without}
use Rattle.mon_table.proofs.Listing.{has-all}

pub has-filter : (p : Rule → Bool) (t : List Rule) (r : Rule) → Has (filter p t) r → Has t r × (p r ≡ true)
has-filter p [] r i = absurd i
has-filter p (s ∷ t) r i =
    elim (p s) as (λ b. p s ≡ b → Has (cond b (s ∷ filter p t) (filter p t)) r → Has (s ∷ t) r × (p r ≡ true)) [
      | true ↦ λ e j. ⊎_elim (λ (same : r ≡ s). (inl same, ap p same ∙ e)) (λ k. let f = has-filter p t r k in (inr f.0, f.1)) j
      | false ↦ λ e j. let f = has-filter p t r j in (inr f.0, f.1)
    ] refl i

pub filter-has : (p : Rule → Bool) (t : List Rule) (r : Rule) → Has t r → p r ≡ true → Has (filter p t) r
filter-has p [] r i e = absurd i
filter-has p (s ∷ t) r i e =
    elim (p s) as (λ b. p s ≡ b → Has (cond b (s ∷ filter p t) (filter p t)) r) [
      | true ↦ λ y. ⊎_elim (λ (same : r ≡ s). inl same) (λ k. inr (filter-has p t r k e)) i
      | false ↦ λ n. ⊎_elim (λ (same : r ≡ s). absurd (false≢true (sym n ∙ (ap p (sym same) ∙ e)))) (λ k. filter-has p t r k e) i
    ] refl

has-placed : (s : Rule) (t : List Rule) (r : Rule) → Has (placed s t) r → (r ≡ s) ⊎ Has t r
has-placed s [] r i = i
has-placed s (x ∷ t) r i =
    elim (comes_before (identity_of x) (identity_of s)) as (λ b. Has (cond b (x ∷ placed s t) (s ∷ x ∷ t)) r → (r ≡ s) ⊎ Has (x ∷ t) r) [
      | true ↦ λ j. ⊎_elim (λ (e : r ≡ x). inr (inl e)) (λ k. ⊎_elim (λ (e : r ≡ s). inl e) (λ l. inr (inr l)) (has-placed s t r k)) j
      | false ↦ λ j. j
    ] i

placed-has : (s : Rule) (t : List Rule) (r : Rule) → (r ≡ s) ⊎ Has t r → Has (placed s t) r
placed-has s [] r i = i
placed-has s (x ∷ t) r i =
    elim (comes_before (identity_of x) (identity_of s)) as (λ b. Has (cond b (x ∷ placed s t) (s ∷ x ∷ t)) r) [
      | true ↦ ⊎_elim (λ (e : r ≡ s). inr (placed-has s t r (inl e))) (λ k. ⊎_elim (λ (e : r ≡ x). inl e) (λ l. inr (placed-has s t r (inr l))) k) i
      | false ↦ i
    ]

-- what a table has after an edit
has-without : (i : Identity) (t : List Rule) (r : Rule) → Has (without i t) r → Has t r × (same_identity (identity_of r) i ≡ false)
has-without i t r h = let f = has-filter (λ x. not (same_identity (identity_of x) i)) t r h in (f.0, not-true _ f.1)

without-has : (i : Identity) (t : List Rule) (r : Rule) → Has t r → same_identity (identity_of r) i ≡ false → Has (without i t) r
without-has i t r h e = filter-has (λ x. not (same_identity (identity_of x) i)) t r h (not_from_false _ e)

pub after-members : (t : List Rule) (x : Edit) (r : Rule) → Has (after t x) r → IsPut x r ⊎ IsLeft t x r
unfolding after
after-members t (Put s old) r h = ⊎_elim (λ (e : r ≡ s). inl e) (λ k. inr (has-without (identity_of s) t r k)) (has-placed s (without (identity_of s) t) r h)
after-members t (Cut s) r h = inr (has-without (identity_of s) t r h)

pub members-after : (t : List Rule) (x : Edit) (r : Rule) → IsPut x r ⊎ IsLeft t x r → Has (after t x) r
unfolding after
members-after t (Put s old) r h = ⊎_elim
    (λ (e : r ≡ s). placed-has s (without (identity_of s) t) r (inl e))
    (λ l. placed-has s (without (identity_of s) t) r (inr (without-has (identity_of s) t r l.0 l.1)))
    h
members-after t (Cut s) r h = ⊎_elim (λ n. absurd n) (λ l. without-has (identity_of s) t r l.0 l.1) h

pub members-law : (t : List Rule) (x : Edit) (r : Rule) → Has (after t x) r ↔ (IsPut x r ⊎ IsLeft t x r)
members-law t x r = (after-members t x r, members-after t x r)

pub after-table : (t : List Rule) (x : Edit) → IsTable t → IsNormal (edited x).matching → IsTable (after t x)
unfolding after
after-table t (Put s old) table m = table-with s t m table
after-table t (Cut s) table m = table-without (identity_of s) t table

-- no rule stands before itself
itself : (r s : Rule) → r ≡ s → comes_before (identity_of r) (identity_of s) ≡ true → ⊥
itself r s e b = false≢true (sym (comes_before-self (identity_of r)) ∙ subst (λ (x : Rule). comes_before (identity_of r) (identity_of x) ≡ true) (sym e) b)

after-itself : (r s : Rule) → identity_of r ≡ identity_of s → comes_before (identity_of r) (identity_of s) ≡ true → ⊥
after-itself r s e b = false≢true (sym (comes_before-self (identity_of r)) ∙ subst (λ (x : Identity). comes_before (identity_of r) x ≡ true) (sym e) b)

never-both : (r s : Rule) → comes_before (identity_of r) (identity_of s) ≡ true → comes_before (identity_of s) (identity_of r) ≡ true → ⊥
never-both r s d e = false≢true (sym (comes_before-self (identity_of r)) ∙ comes_before-more (identity_of r) (identity_of s) (identity_of r) d e)

-- a table has one rule of an identity
pub one-rule : (t : List Rule) (r s : Rule) → InOrder t → Has t r → Has t s → same_identity (identity_of r) (identity_of s) ≡ true → r ≡ s
one-rule [] r s o i j e = absurd i
one-rule (x ∷ t) r s o i j e =
    let same : identity_of r ≡ identity_of s = same-is (identity_of r) (identity_of s) e in
    ⊎_elim
    (λ (f : r ≡ x). ⊎_elim
    (λ (g : s ≡ x). f ∙ sym g)
    (λ k. absurd (after-itself x s (sym (ap identity_of f) ∙ same) (has-all (λ y. comes_before (identity_of x) (identity_of y) ≡ true) t s o.0 k)))
    j)
    (λ k. ⊎_elim
    (λ (g : s ≡ x). absurd (after-itself x r (sym (ap identity_of g) ∙ sym same) (has-all (λ y. comes_before (identity_of x) (identity_of y) ≡ true) t r o.0 k)))
    (λ l. one-rule t r s o.1 k l e)
    j)
    i

tail-has : (x z : Rule) (t u : List Rule) → AllByRecursion (λ y. comes_before (identity_of x) (identity_of y) ≡ true) t → Has t z → Has (x ∷ u) z → Has u z
tail-has x z t u a i j = ⊎_elim (λ (e : z ≡ x). absurd (itself x z (sym e) (has-all (λ y. comes_before (identity_of x) (identity_of y) ≡ true) t z a i))) (λ k. k) j

-- tables in order with the same rules are one list
pub one-list : (t u : List Rule) → InOrder t → InOrder u → ((r : Rule) → Has t r → Has u r) → ((r : Rule) → Has u r → Has t r) → t ≡ u
one-list [] [] a b f g = refl
one-list [] (y ∷ ys) a b f g = absurd (g y (inl refl))
one-list (x ∷ xs) [] a b f g = absurd (f x (inl refl))
one-list (x ∷ xs) (y ∷ ys) a b f g =
    let same : x ≡ y = ⊎_elim (λ (e : x ≡ y). e)
    (λ i. ⊎_elim (λ (e : y ≡ x). sym e) (λ j. absurd (never-both x y
    (has-all (λ z. comes_before (identity_of x) (identity_of z) ≡ true) xs y a.0 j)
    (has-all (λ z. comes_before (identity_of y) (identity_of z) ≡ true) ys x b.0 i))) (g y (inl refl)))
    (f x (inl refl)) in
    let after_x : AllByRecursion (λ z. comes_before (identity_of x) (identity_of z) ≡ true) ys = subst (λ (w : Rule). AllByRecursion (λ z. comes_before (identity_of w) (identity_of z) ≡ true) ys) (sym same) b.0 in
    let rest : xs ≡ ys = one-list xs ys a.1 b.1
    (λ z i. tail-has x z xs ys a.0 i (subst (λ (w : Rule). Has (w ∷ ys) z) (sym same) (f z (inr i))))
    (λ z i. tail-has x z ys xs after_x i (g z (subst (λ (w : Rule). Has (w ∷ ys) z) refl (inr i)))) in
    ap₂ (λ (w : Rule) (ws : List Rule). w ∷ ws) same rest

pub one-list-law : (t u : List Rule) → InOrder t → InOrder u → ((r : Rule) → Has t r ↔ Has u r) → t ≡ u
one-list-law t u a b f = one-list t u a b (λ r. (f r).0) (λ r. (f r).1)

pub identity-law : (a b : Identity) → (same_identity a b ≡ true) ↔ (a ≡ b)
identity-law a b = (same-is a b, λ e. subst (λ (x : Identity). same_identity a x ≡ true) e (same-self a))

-- places show rules
places-further : (n : ℕ) (test : Rule → Bool) (t : List Rule) → places_from (suc n) test t ≡ map suc (places_from n test t)
places-further n test [] = refl
places-further n test (r ∷ t) =
    elim (test r) as (λ b. cond b (suc n ∷ places_from (suc (suc n)) test t) (places_from (suc (suc n)) test t) ≡ map suc (cond b (n ∷ places_from (suc n) test t) (places_from (suc n) test t))) [
      | true ↦ ap (λ (ks : List ℕ). suc n ∷ ks) (places-further (suc n) test t)
      | false ↦ places-further (suc n) test t
    ]

map-further : (r d : Rule) (t : List Rule) (ks : List ℕ) → map (λ k. get_or (r ∷ t) k d) (map suc ks) ≡ map (λ k. get_or t k d) ks
map-further r d t [] = refl
map-further r d t (k ∷ ks) = ap (λ (rs : List Rule). get_or t k d ∷ rs) (map-further r d t ks)

pub places-shown : (test : Rule → Bool) (t : List Rule) (d : Rule) → map (λ k. get_or t k d) (places test t) ≡ filter test t
places-shown test [] d = refl
places-shown test (r ∷ t) d =
    let rest : map (λ k. get_or (r ∷ t) k d) (places_from 1 test t) ≡ filter test t =
    ap (map (λ k. get_or (r ∷ t) k d)) (places-further 0 test t) ∙ (map-further r d t (places test t) ∙ places-shown test t d) in
    elim (test r) as (λ b. map (λ k. get_or (r ∷ t) k d) (cond b (0 ∷ places_from 1 test t) (places_from 1 test t)) ≡ cond b (r ∷ filter test t) (filter test t)) [
      | true ↦ ap (λ (rs : List Rule). r ∷ rs) rest
      | false ↦ rest
    ]

all-further : (n : ℕ) (ks : List ℕ) → AllByRecursion (λ k. k < n) ks → AllByRecursion (λ k. k < suc n) (map suc ks)
all-further n [] a = tt
all-further n (k ∷ ks) a = (omega arith, all-further n ks a.1)

pub places-within : (test : Rule → Bool) (t : List Rule) → AllByRecursion (λ k. k < length t) (places test t)
places-within test [] = tt
places-within test (r ∷ t) =
    let rest : AllByRecursion (λ k. k < suc (length t)) (places_from 1 test t) =
    subst (AllByRecursion (λ k. k < suc (length t))) (sym (places-further 0 test t)) (all-further (length t) (places test t) (places-within test t)) in
    elim (test r) as (λ b. AllByRecursion (λ k. k < suc (length t)) (cond b (0 ∷ places_from 1 test t) (places_from 1 test t))) [
      | true ↦ (omega arith, rest)
      | false ↦ rest
    ]
