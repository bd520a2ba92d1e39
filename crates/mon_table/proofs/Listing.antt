-- Places that pass a test, and which of them win for a header.
use Rattle.std.proofs.Common.{◌≡◌, ℕ, zero, suc, ◌+◌, ◌<◌, ◌≤◌, Bool, true, false, cond, not, ◌&&◌, ◌||◌, List, [], ◌∷◌, ◌++◌, length, get_or, drop, refl, sym, ap, subst, ◌∙◌, arith, inl, inr, ⊎_elim, append_assoc, add-one, drop-cons}
use Rattle.std.specs.Prelude.{nat_le}
use Rattle.std.specs.List.{list_all, AllByRecursion}
use Rattle.std.proofs.lemmas.List.{append-nil, drop_all}
use Rattle.std.proofs.lemmas.Bool.{and_parts, and_from, and_left, and_right, or_right, cases_Bool, false≢true, le-leb, lt-leb, leb-true}
use Rattle.mon_list.specs.Has.{Has}
use Rattle.mon_header.specs.declared.header.Header.{Header}
use Rattle.mon_header.specs.Matching.{matches}
use Rattle.mon_table.specs.declared.rule.Rule.{Rule}
use Rattle.mon_table.specs.Rules.{identity_of, rank, comes_before}
use Rattle.mon_table.specs.Tables.{InOrder, places_from, places}
use Rattle.mon_table.specs.Winners.{is_highest, wins}
use Rattle.mon_table.specs.Places.{hides, least_rank, is_from_rank}
use Rattle.mon_table.proofs.Identities.{comes_before-falls}
use Rattle.std.specs.Cmp.{both_ways}

-- one place more of a loop that lists places
pub places-push : (test : Rule → Bool) (t : List Rule) (found all : List ℕ) (n : ℕ) (r : Rule) → n < length t → r ≡ get_or t n r → test r ≡ true
    → found ++ places_from n test (drop n t) ≡ all → (found ++ n ∷ []) ++ places_from (n + 1) test (drop (n + 1) t) ≡ all
places-push test t found all n r lt e p h =
    let rest : drop n t ≡ r ∷ drop (suc n) t = drop-cons t n r lt ∙ ap (λ (s : Rule). s ∷ drop (suc n) t) (sym e) in
    let more : found ++ places_from n test (r ∷ drop (suc n) t) ≡ all = subst (λ (s : List Rule). found ++ places_from n test s ≡ all) rest h in
    let step : found ++ (n ∷ places_from (suc n) test (drop (suc n) t)) ≡ all = rw p at more in
    rw (add-one n) (append_assoc found (n ∷ []) (places_from (suc n) test (drop (suc n) t)) ∙ step)

pub places-skip : (test : Rule → Bool) (t : List Rule) (found all : List ℕ) (n : ℕ) (r : Rule) → n < length t → r ≡ get_or t n r → test r ≡ false
    → found ++ places_from n test (drop n t) ≡ all → found ++ places_from (n + 1) test (drop (n + 1) t) ≡ all
places-skip test t found all n r lt e p h =
    let rest : drop n t ≡ r ∷ drop (suc n) t = drop-cons t n r lt ∙ ap (λ (s : Rule). s ∷ drop (suc n) t) (sym e) in
    let more : found ++ places_from n test (r ∷ drop (suc n) t) ≡ all = subst (λ (s : List Rule). found ++ places_from n test s ≡ all) rest h in
    let step : found ++ places_from (suc n) test (drop (suc n) t) ≡ all = rw p at more in
    rw (add-one n) step

pub places-none : (test : Rule → Bool) (n : ℕ) (t : List Rule) → AllByRecursion (λ r. test r ≡ false) t → places_from n test t ≡ []
places-none test n [] a = refl
places-none test n (r ∷ t) a = rw a.0 (places-none test (suc n) t a.1)

pub places-same : (p q : Rule → Bool) (n : ℕ) (t : List Rule) → AllByRecursion (λ r. p r ≡ q r) t → places_from n p t ≡ places_from n q t
places-same p q n [] a = refl
places-same p q n (r ∷ t) a =
    ap (λ (b : Bool). cond b (n ∷ places_from (suc n) p t) (places_from (suc n) p t)) a.0
    ∙ ap (λ (s : List ℕ). cond (q r) (n ∷ s) s) (places-same p q (suc n) t a.1)

pub places-end : (test : Rule → Bool) (t : List Rule) (found all : List ℕ) (n : ℕ) → length t ≤ n → found ++ places_from n test (drop n t) ≡ all → found ≡ all
places-end test t found all n le h =
    let none : drop n t ≡ [] = drop_all n t le in
    let step : found ++ [] ≡ all = subst (λ (s : List Rule). found ++ places_from n test s ≡ all) none h in
    sym (append-nil found) ∙ step

-- ranks fall
pub order-drop : (t : List Rule) (n : ℕ) → InOrder t → InOrder (drop n t)
order-drop [] zero o = o
order-drop [] (suc n) o = o
order-drop (r ∷ t) zero o = o
order-drop (r ∷ t) (suc n) o = order-drop t n o.1

pub low-rest : (h : Header) (least : ℕ) (r : Rule) (t : List Rule) → rank r < least → AllByRecursion (λ s. comes_before (identity_of r) (identity_of s) ≡ true) t
    → AllByRecursion (λ s. is_from_rank h least s ≡ false) t
low-rest h least r [] low a = tt
low-rest h least r (s ∷ t) low a =
    let falls : rank s ≤ rank r = comes_before-falls (identity_of r) (identity_of s) a.0 in
    (and_left _ _ (lt-leb least (rank s) (omega arith)), low-rest h least r t low a.1)

pub places-stop : (h : Header) (least : ℕ) (t : List Rule) (found all : List ℕ) (n : ℕ) (r : Rule) → n < length t → r ≡ get_or t n r → InOrder t → rank r < least
    → found ++ places_from n (is_from_rank h least) (drop n t) ≡ all → found ≡ all
places-stop h least t found all n r lt e o low p =
    let rest : drop n t ≡ r ∷ drop (suc n) t = drop-cons t n r lt ∙ ap (λ (s : Rule). s ∷ drop (suc n) t) (sym e) in
    let order : InOrder (r ∷ drop (suc n) t) = subst InOrder rest (order-drop t n o) in
    let none : AllByRecursion (λ s. is_from_rank h least s ≡ false) (r ∷ drop (suc n) t) =
    (and_left _ _ (lt-leb least (rank r) low), low-rest h least r (drop (suc n) t) low order.0) in
    let step : found ++ places_from n (is_from_rank h least) (r ∷ drop (suc n) t) ≡ all = subst (λ (s : List Rule). found ++ places_from n (is_from_rank h least) s ≡ all) rest p in
    sym (append-nil found) ∙ (ap (λ (s : List ℕ). found ++ s) (sym (places-none (is_from_rank h least) n (r ∷ drop (suc n) t) none)) ∙ step)

-- members
pub all-has : (P : Rule → Type 0) (t : List Rule) → ((r : Rule) → Has t r → P r) → AllByRecursion P t
all-has P [] f = tt
all-has P (r ∷ t) f = (f r (inl refl), all-has P t (λ s i. f s (inr i)))

pub has-all : (P : Rule → Type 0) (t : List Rule) (r : Rule) → AllByRecursion P t → Has t r → P r
has-all P [] r a i = absurd i
has-all P (s ∷ t) r a i = ⊎_elim (λ e. subst P (sym e) a.0) (λ j. has-all P t r a.1 j) i

pub has-list_all : (p : Rule → Bool) (t : List Rule) (r : Rule) → list_all p t ≡ true → Has t r → p r ≡ true
has-list_all p [] r a i = absurd i
has-list_all p (s ∷ t) r a i = ⊎_elim (λ e. ap p e ∙ (and_parts (p s) _ a).0) (λ j. has-list_all p t r (and_parts (p s) _ a).1 j) i

pub list_all-has : (p : Rule → Bool) (t : List Rule) → ((r : Rule) → Has t r → p r ≡ true) → list_all p t ≡ true
list_all-has p [] f = refl
list_all-has p (r ∷ t) f = and_from _ _ (f r (inl refl)) (list_all-has p t (λ s i. f s (inr i)))

-- from the least rank that may win on, no sure rule that matches is higher
abbrev is_low : Header → ℕ → Rule → Bool
is_low h n s = not (matches s.matching h) || (s.unsure || nat_le (rank s) n)

low-behind : (h : Header) (n : ℕ) (r : Rule) (t : List Rule) → rank r ≤ n → AllByRecursion (λ s. comes_before (identity_of r) (identity_of s) ≡ true) t
    → list_all (is_low h n) t ≡ true
low-behind h n r [] le a = refl
low-behind h n r (s ∷ t) le a =
    let falls : rank s ≤ rank r = comes_before-falls (identity_of r) (identity_of s) a.0 in
    and_from (is_low h n s) (list_all (is_low h n) t) (or_right (not (matches s.matching h)) (s.unsure || nat_le (rank s) n) (or_right s.unsure (nat_le (rank s) n) (le-leb (rank s) n (omega arith)))) (low-behind h n r t le a.1)

least-hidden : (h : Header) (r : Rule) (t : List Rule) → hides h r ≡ true → least_rank h (r ∷ t) ≡ rank r
least-hidden h r t y = rw y refl

least-passed : (h : Header) (r : Rule) (t : List Rule) → hides h r ≡ false → least_rank h (r ∷ t) ≡ least_rank h t
least-passed h r t n = rw n refl

low-hidden : (m u low : Bool) → (not u && m) ≡ true → (not m || (u || low)) ≡ low
low-hidden true true low y = absurd (false≢true y)
low-hidden true false low y = refl
low-hidden false u low y = absurd (false≢true (sym (and_right (not u) false refl) ∙ y))

low-passed : (m u low : Bool) → (not u && m) ≡ false → (not m || (u || low)) ≡ true
low-passed true true low n = refl
low-passed true false low n = absurd (false≢true (sym n))
low-passed false u low n = refl

least-low : (h : Header) (n : ℕ) (t : List Rule) → InOrder t → nat_le (least_rank h t) n ≡ list_all (is_low h n) t
least-low h n [] o = le-leb 0 n (omega arith)
least-low h n (r ∷ t) o = ⊎_elim
    (λ y.
    ap (λ (k : ℕ). nat_le k n) (least-hidden h r t y)
    ∙ (both_ways (nat_le (rank r) n) (nat_le (rank r) n && list_all (is_low h n) t)
    (λ f. and_from _ _ f (low-behind h n r t (leb-true (rank r) n f) o.0))
    (λ f. (and_parts (nat_le (rank r) n) _ f).0)
    ∙ ap (λ (b : Bool). b && list_all (is_low h n) t) (sym (low-hidden (matches r.matching h) r.unsure (nat_le (rank r) n) y))))
    (λ z.
    ap (λ (k : ℕ). nat_le k n) (least-passed h r t z)
    ∙ (least-low h n t o.1
    ∙ ap (λ (b : Bool). b && list_all (is_low h n) t) (sym (low-passed (matches r.matching h) r.unsure (nat_le (rank r) n) z))))
    (cases_Bool (hides h r))

swapped : (a b m : Bool) → a ≡ b → (a && m) ≡ (m && b)
swapped true b true e = e
swapped false b true e = e
swapped true b false e = refl
swapped false b false e = refl

pub wins-from : (h : Header) (t : List Rule) (r : Rule) → InOrder t → is_from_rank h (least_rank h t) r ≡ wins t h r
unfolding is_highest
wins-from h t r o = swapped (nat_le (least_rank h t) (rank r)) (is_highest t h r) (matches r.matching h) (least-low h (rank r) t o)

pub places-win : (h : Header) (t : List Rule) → InOrder t → places (is_from_rank h (least_rank h t)) t ≡ places (wins t h) t
places-win h t o = places-same (is_from_rank h (least_rank h t)) (wins t h) 0 t (all-has (λ r. is_from_rank h (least_rank h t) r ≡ wins t h r) t (λ r i. wins-from h t r o))

pub winners-from : (h : Header) (n : ℕ) (t s u : List Rule) → InOrder t → s ≡ t → u ≡ t → n ≡ least_rank h s → places (is_from_rank h n) u ≡ places (wins t h) t
winners-from h n t s u o e f g =
    ap (places (is_from_rank h n)) f ∙ (ap (λ (k : ℕ). places (is_from_rank h k) t) (g ∙ ap (least_rank h) e) ∙ places-win h t o)
