-- Winners by their places in a table.
use Rattle.std.proofs.Common.{◌≡◌, ℕ, zero, suc, ◌+◌, ◌<◌, ◌≤◌, Bool, true, false, not, ◌||◌, List, [], ◌∷◌, Some, refl, sym, ap, subst, ◌∙◌, arith, ⊎_elim}
use Rattle.std.specs.Prelude.{◌==◌, nat_lt, nat_le}
use Rattle.std.specs.List.{filter, slice_get, list_all}
use Rattle.std.proofs.lemmas.Bool.{cases_Bool, and_parts, and_from, and_left, or_left, or_right, or_cases, not_from_false, not-true, both_ways, false≢true, eq-eqb, ne_eqb, leb-true, le-leb, lt-ltb, le-ltb, ltb-true, cases_lt, false_from_ne_true}
use Rattle.mon_header.specs.declared.header.Header.{Header}
use Rattle.mon_header.specs.Matching.{matches}
use Rattle.mon_table.specs.declared.rule.Rule.{Rule}
use Rattle.mon_table.specs.Rules.{rank}
use Rattle.mon_table.specs.Tables.{InOrder}
use Rattle.mon_table.specs.Winners.{is_highest, wins, winners, may_miss}
use Rattle.mon_table.proofs.Listing.{has-list_all, list_all-has}
use Rattle.mon_table.proofs.Members.{filter-has}
use Rattle.mon_table.proofs.Vanishing.{Hider, misses-or-hides, hider-wins, no-winner}
use Rattle.mon_list.specs.Has.{Has}
use Rattle.mon_shows.proofs.Looking.{filter-in, filter-out}
use Rattle.mon_encode.proofs.Truth.{all_lose}

-- what wins of the highest effective priority does so of any that is as high
all-below : (h : Header) (low high : ℕ) (t : List Rule) → low ≤ high → list_all (λ s. not (matches s.matching h) || (s.unsure || nat_le (rank s) low)) t ≡ true
    → list_all (λ s. not (matches s.matching h) || (s.unsure || nat_le (rank s) high)) t ≡ true
all-below h low high [] le a = refl
all-below h low high (s ∷ t) le a =
    let p = and_parts (not (matches s.matching h) || (s.unsure || nat_le (rank s) low)) _ a in
    and_from _ _
    (⊎_elim
    (λ (m : not (matches s.matching h) ≡ true). or_left _ _ m)
    (λ (m : (s.unsure || nat_le (rank s) low) ≡ true).
    let x : (s.unsure || nat_le (rank s) high) ≡ true = ⊎_elim
    (λ (u : s.unsure ≡ true). or_left s.unsure (nat_le (rank s) high) u)
    (λ (k : nat_le (rank s) low ≡ true). let l : rank s ≤ low = leb-true (rank s) low k in or_right s.unsure (nat_le (rank s) high) (le-leb (rank s) high (omega arith)))
    (or_cases s.unsure _ m) in
    or_right _ _ x)
    (or_cases (not (matches s.matching h)) _ p.0))
    (all-below h low high t le p.1)

pub highest-more : (t : List Rule) (h : Header) (r s : Rule) → rank r ≤ rank s → is_highest t h r ≡ true → is_highest t h s ≡ true
unfolding is_highest
highest-more t h r s le a = all-below h (rank r) (rank s) t le a

-- a rule that neither is of a lower effective priority than a winner nor fails to match wins too
pub loses : (t : List Rule) (h : Header) (w r : Rule) → wins t h w ≡ true → wins t h r ≡ false → (nat_lt (rank r) (rank w) || not (matches r.matching h)) ≡ true
loses t h w r a b =
    ⊎_elim
    (λ (lt : rank r < rank w). or_left _ _ (lt-ltb (rank r) (rank w) lt))
    (λ (le : rank w ≤ rank r).
    or_right _ _ (not_from_false _ (false_from_ne_true _ (λ m. both_ways (wins t h r) b (and_from _ _ m (highest-more t h w r le (and_parts (matches w.matching h) _ a).1))))))
    (cases_lt (rank r) (rank w))

-- a rule that loses at another place than the winner's isn't one of those that neither are low nor fail to match
out-elsewhere : (p : Rule → Bool) (h : Header) (winner least place : ℕ) (r : Rule) → (p r ≡ true → (nat_lt (rank r) least ≡ false) × (matches r.matching h ≡ true))
    → (place ≡ winner → ⊥) → (((place == winner) || nat_lt (rank r) least) || not (matches r.matching h)) ≡ true → p r ≡ false
out-elsewhere p h winner least place r f ne lost =
    let elsewhere : (place == winner) ≡ false = ne_eqb place winner ne in
    false_from_ne_true (p r) (λ y.
    let g = f y in
    let n : (((place == winner) || nat_lt (rank r) least) || not (matches r.matching h)) ≡ false = rw (elsewhere, g.0, g.1) refl in
    both_ways _ n lost)

-- where all other rules lose, the one at the winner's place is the only winner
none-behind : (p : Rule → Bool) (h : Header) (winner least place : ℕ) (t : List Rule) → ((r : Rule) → p r ≡ true → (nat_lt (rank r) least ≡ false) × (matches r.matching h ≡ true))
    → winner < place → all_lose h winner least place t ≡ true → filter p t ≡ []
none-behind p h winner least place [] f lt a = refl
none-behind p h winner least place (r ∷ t) f lt a =
    let q = and_parts ((((place == winner) || nat_lt (rank r) least) || not (matches r.matching h))) _ a in
    filter-out p r t (out-elsewhere p h winner least place r (f r) (λ here. omega arith) q.0) ∙ none-behind p h winner least (suc place) t f (omega arith) q.1

only-there : (p : Rule → Bool) (h : Header) (winner least place at : ℕ) (w : Rule) (t : List Rule) → ((r : Rule) → p r ≡ true → (nat_lt (rank r) least ≡ false) × (matches r.matching h ≡ true))
    → winner ≡ place + at → slice_get t at ≡ Some w → p w ≡ true → all_lose h winner least place t ≡ true → filter p t ≡ w ∷ []
only-there p h winner least place at w [] f e g y a = absurd (let z : ⊥ = cc in z)
only-there p h winner least place zero w (r ∷ t) f e g y a =
    let same : r ≡ w = cc in
    let q = and_parts ((((place == winner) || nat_lt (rank r) least) || not (matches r.matching h))) _ a in
    filter-in p r t (ap p same ∙ y)
    ∙ (ap (λ (xs : List Rule). r ∷ xs) (none-behind p h winner least (suc place) t f (omega arith) q.1) ∙ ap (λ (x : Rule). x ∷ []) same)
only-there p h winner least place (suc at) w (r ∷ t) f e g y a =
    let q = and_parts ((((place == winner) || nat_lt (rank r) least) || not (matches r.matching h))) _ a in
    filter-out p r t (out-elsewhere p h winner least place r (f r) (λ here. omega arith) q.0) ∙ only-there p h winner least (suc place) at w t f (omega arith) g y q.1

lost-low : (h : Header) (winner place : ℕ) (w r : Rule) → (place ≡ winner → ⊥) → (((place == winner) || nat_lt (rank r) (rank w)) || not (matches r.matching h)) ≡ true
    → (not (matches r.matching h) || (r.unsure || nat_le (rank r) (rank w))) ≡ true
lost-low h winner place w r ne a =
    let elsewhere : (place == winner) ≡ false = ne_eqb place winner ne in
    let b : (nat_lt (rank r) (rank w) || not (matches r.matching h)) ≡ true = rw elsewhere at a in
    ⊎_elim
    (λ (l : nat_lt (rank r) (rank w) ≡ true). let k : rank r < rank w = ltb-true (rank r) (rank w) l in or_right _ _ (or_right _ _ (le-leb (rank r) (rank w) (omega arith))))
    (λ (m : not (matches r.matching h) ≡ true). or_left _ _ m)
    (or_cases (nat_lt (rank r) (rank w)) _ b)

high-behind : (h : Header) (winner place : ℕ) (w : Rule) (t : List Rule) → winner < place → all_lose h winner (rank w) place t ≡ true
    → list_all (λ s. not (matches s.matching h) || (s.unsure || nat_le (rank s) (rank w))) t ≡ true
high-behind h winner place w [] lt a = refl
high-behind h winner place w (r ∷ t) lt a =
    let q = and_parts ((((place == winner) || nat_lt (rank r) (rank w)) || not (matches r.matching h))) _ a in
    and_from _ _ (lost-low h winner place w r (λ k. omega arith) q.0) (high-behind h winner (suc place) w t (omega arith) q.1)

-- the rule at the place is as high as all that match
highest-from : (h : Header) (winner place at : ℕ) (w : Rule) (t : List Rule) → winner ≡ place + at → slice_get t at ≡ Some w → all_lose h winner (rank w) place t ≡ true
    → list_all (λ s. not (matches s.matching h) || (s.unsure || nat_le (rank s) (rank w))) t ≡ true
highest-from h winner place at w [] e g a = refl
highest-from h winner place zero w (r ∷ t) e g a =
    let same : r ≡ w = cc in
    let q = and_parts ((((place == winner) || nat_lt (rank r) (rank w)) || not (matches r.matching h))) _ a in
    and_from _ _ (or_right _ _ (or_right _ _ (le-leb (rank r) (rank w) (let k : rank r ≡ rank w = ap rank same in omega arith)))) (high-behind h winner (suc place) w t (omega arith) q.1)
highest-from h winner place (suc at) w (r ∷ t) e g a =
    let q = and_parts ((((place == winner) || nat_lt (rank r) (rank w)) || not (matches r.matching h))) _ a in
    and_from _ _ (lost-low h winner place w r (λ k. omega arith) q.0) (highest-from h winner (suc place) at w t (omega arith) g q.1)

-- what holds of all rules holds of the one at a place
pub at-place : (p : Rule → Bool) (t : List Rule) (place : ℕ) (w : Rule) → slice_get t place ≡ Some w → list_all p t ≡ true → p w ≡ true
at-place p [] place w g a = absurd (let z : ⊥ = cc in z)
at-place p (r ∷ t) zero w g a = let same : r ≡ w = cc in sym (ap p same) ∙ (and_parts (p r) _ a).0
at-place p (r ∷ t) (suc place) w g a = at-place p t place w g (and_parts (p r) _ a).1

not-lower : (t : List Rule) (h : Header) (winner : ℕ) (w r : Rule) → slice_get t winner ≡ Some w → w.unsure ≡ false → matches w.matching h ≡ true → is_highest t h r ≡ true → nat_lt (rank r) (rank w) ≡ false
unfolding is_highest
not-lower t h winner w r g u m a =
    let b : (not (matches w.matching h) || (w.unsure || nat_le (rank w) (rank r))) ≡ true = at-place (λ s. not (matches s.matching h) || (s.unsure || nat_le (rank s) (rank r))) t winner w g a in
    let c : nat_le (rank w) (rank r) ≡ true = rw (m, u) at b in
    let d : rank w ≤ rank r = leb-true (rank w) (rank r) c in
    le-ltb (rank r) (rank w) d

pub winner-there : (h : Header) (winner : ℕ) (w : Rule) (t : List Rule) → slice_get t winner ≡ Some w → w.unsure ≡ false → matches w.matching h ≡ true → all_lose h winner (rank w) 0 t ≡ true
    → winners t h ≡ w ∷ []
unfolding is_highest
winner-there h winner w t g u m a =
    let high : is_highest t h w ≡ true = highest-from h winner 0 winner w t (omega arith) g a in
    let win : wins t h w ≡ true = and_from _ _ m high in
    only-there (wins t h) h winner (rank w) 0 winner w t
    (λ r y. let q = and_parts (matches r.matching h) _ y in (not-lower t h winner w r g u m q.1, q.0))
    (omega arith) g win a

-- where the one at the winner's place is the only winner, all others lose
none-out : (p : Rule → Bool) (r : Rule) (t : List Rule) → filter p (r ∷ t) ≡ [] → (p r ≡ false) × (filter p t ≡ [])
none-out p r t e = ⊎_elim
    (λ y. absurd (let z : r ∷ filter p t ≡ [] = sym (filter-in p r t y) ∙ e in let f : ⊥ = cc in f))
    (λ y. (y, sym (filter-out p r t y) ∙ e))
    (cases_Bool (p r))

lost-at : (h : Header) (winner least place : ℕ) (r : Rule) → (nat_lt (rank r) least || not (matches r.matching h)) ≡ true
    → (((place == winner) || nat_lt (rank r) least) || not (matches r.matching h)) ≡ true
lost-at h winner least place r e = ⊎_elim
    (λ (l : nat_lt (rank r) least ≡ true). or_left _ _ (or_right _ _ l))
    (λ (m : not (matches r.matching h) ≡ true). or_right _ _ m)
    (or_cases (nat_lt (rank r) least) _ e)

all-out : (p : Rule → Bool) (h : Header) (winner least place : ℕ) (t : List Rule) → ((r : Rule) → p r ≡ false → (nat_lt (rank r) least || not (matches r.matching h)) ≡ true)
    → filter p t ≡ [] → all_lose h winner least place t ≡ true
all-out p h winner least place [] f e = refl
all-out p h winner least place (r ∷ t) f e =
    let n = none-out p r t e in
    and_from _ _ (lost-at h winner least place r (f r n.0)) (all-out p h winner least (suc place) t f n.1)

kept-out : (p : Rule → Bool) (w : Rule) (t : List Rule) (at : ℕ) → slice_get t at ≡ Some w → p w ≡ true → filter p t ≡ [] → ⊥
kept-out p w [] at g y e = let z : ⊥ = cc in z
kept-out p w (r ∷ t) zero g y e = let same : r ≡ w = cc in false≢true (sym (none-out p r t e).0 ∙ (ap p same ∙ y))
kept-out p w (r ∷ t) (suc at) g y e = kept-out p w t at g y (none-out p r t e).1

only-back : (p : Rule → Bool) (h : Header) (winner least place at : ℕ) (w : Rule) (t : List Rule) → ((r : Rule) → p r ≡ false → (nat_lt (rank r) least || not (matches r.matching h)) ≡ true)
    → winner ≡ place + at → slice_get t at ≡ Some w → p w ≡ true → filter p t ≡ w ∷ [] → all_lose h winner least place t ≡ true
only-back p h winner least place at w [] f e g y k = refl
only-back p h winner least place zero w (r ∷ t) f e g y k =
    let same : r ≡ w = cc in
    let here : (place == winner) ≡ true = eq-eqb place winner (omega arith) in
    let rest : filter p t ≡ [] = let z : r ∷ filter p t ≡ w ∷ [] = sym (filter-in p r t (ap p same ∙ y)) ∙ k in cc in
    and_from _ _ (or_left _ _ (or_left _ _ here)) (all-out p h winner least (suc place) t f rest)
only-back p h winner least place (suc at) w (r ∷ t) f e g y k = ⊎_elim
    (λ b.
    let rest : filter p t ≡ [] = let z : r ∷ filter p t ≡ w ∷ [] = sym (filter-in p r t b) ∙ k in cc in
    absurd (kept-out p w t at g y rest))
    (λ b.
    and_from _ _ (lost-at h winner least place r (f r b)) (only-back p h winner least (suc place) at w t f (omega arith) g y (sym (filter-out p r t b) ∙ k)))
    (cases_Bool (p r))

-- what is kept by a filter passes its test
first-kept : (p : Rule → Bool) (w : Rule) (rest t : List Rule) → filter p t ≡ w ∷ rest → p w ≡ true
first-kept p w rest [] e = absurd (let z : ⊥ = cc in z)
first-kept p w rest (r ∷ t) e = ⊎_elim
    (λ y. let z : r ∷ filter p t ≡ w ∷ rest = sym (filter-in p r t y) ∙ e in let same : r ≡ w = cc in sym (ap p same) ∙ y)
    (λ y. first-kept p w rest t (sym (filter-out p r t y) ∙ e))
    (cases_Bool (p r))

pub winner-back : (h : Header) (winner : ℕ) (w : Rule) (t : List Rule) → slice_get t winner ≡ Some w → winners t h ≡ w ∷ []
    → (matches w.matching h ≡ true) × (all_lose h winner (rank w) 0 t ≡ true)
winner-back h winner w t g e =
    let win : wins t h w ≡ true = first-kept (wins t h) w [] t e in (
      (and_parts (matches w.matching h) _ win).0,
      only-back (wins t h) h winner (rank w) 0 winner w t (λ r b. loses t h w r win b) (omega arith) g win e,
    )

-- none wins exactly where no rule matches
lose-all : (h : Header) (u t : List Rule) → list_all (λ r. not (matches r.matching h)) t ≡ true → filter (wins u h) t ≡ []
lose-all h u [] a = refl
lose-all h u (r ∷ t) a =
    let p = and_parts (not (matches r.matching h)) _ a in
    filter-out (wins u h) r t (and_left _ _ (not-true _ p.0)) ∙ lose-all h u t p.1

pub miss-there : (h : Header) (t : List Rule) → list_all (λ r. not (matches r.matching h)) t ≡ true → winners t h ≡ []
miss-there h t a = lose-all h t t a

missed-highest : (h : Header) (t : List Rule) (r : Rule) → may_miss t h ≡ true → is_highest t h r ≡ true
unfolding is_highest
missed-highest h t r e =
    list_all-has (λ s. not (matches s.matching h) || (s.unsure || nat_le (rank s) (rank r))) t (λ s i. ⊎_elim
    (λ (n : not (matches s.matching h) ≡ true). or_left _ _ n)
    (λ (u : s.unsure ≡ true). or_right _ _ (or_left _ _ u))
    (or_cases (not (matches s.matching h)) s.unsure (has-list_all (λ s. not (matches s.matching h) || s.unsure) t s e i)))

pub miss-back : (h : Header) (t : List Rule) → InOrder t → winners t h ≡ [] → list_all (λ r. not (matches r.matching h)) t ≡ true
miss-back h t order k =
    let e = no-winner t h order k in
    list_all-has (λ r. not (matches r.matching h)) t (λ r i. not_from_false _ (false_from_ne_true (matches r.matching h) (λ m.
    subst (λ (ws : List Rule). Has ws r) k (filter-has (wins t h) t r i (and_from _ _ m (missed-highest h t r e))))))

-- where a sure rule that matches stands the packet cannot miss
pub place-no-miss : (t : List Rule) (h : Header) (place : ℕ) (w : Rule) → slice_get t place ≡ Some w → w.unsure ≡ false → matches w.matching h ≡ true → may_miss t h ≡ false
place-no-miss t h place w g u m = false_from_ne_true (may_miss t h) (λ e.
    let b : (not (matches w.matching h) || w.unsure) ≡ true = at-place (λ s. not (matches s.matching h) || s.unsure) t place w g e in
    let bad : false ≡ true = rw (m, u) at b in
    false≢true bad)

-- the only winner is sure where the packet cannot miss
pub lone-sure : (t : List Rule) (h : Header) (w : Rule) → InOrder t → winners t h ≡ w ∷ [] → may_miss t h ≡ false → w.unsure ≡ false
lone-sure t h w order k n = ⊎_elim
    (λ (e : may_miss t h ≡ true). absurd (both_ways (may_miss t h) n e))
    (λ (x : Hider h t). ⊎_elim
    (λ (same : x.rule ≡ w). subst (λ (r : Rule). r.unsure ≡ false) same (not-true _ (and_parts (not x.rule.unsure) _ x.hidden).0))
    (λ none. absurd none)
    (subst (λ (ws : List Rule). Has ws x.rule) k (hider-wins t h order x)))
    (misses-or-hides h t)
