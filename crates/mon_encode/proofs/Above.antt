-- The literal that says that a rule of a higher effective priority matches, as rules are gone through in table order.
use Rattle.std.proofs.Common.{◌≡◌, ℕ, zero, suc, ◌+◌, ◌-◌, ◌*◌, ◌<◌, ◌≤◌, Bool, true, false, cond, not, List, [], ◌∷◌, ◌++◌, length, take, drop, get_or, Option, refl, sym, ap, ap₂, subst, ◌∙◌, arith, ⊎_elim, drop-cons, length-append}
use Rattle.std.specs.Prelude.{nat_lt}
use Rattle.std.specs.List.{AllByRecursion}
use Rattle.std.proofs.lemmas.Bool.{lt-ltb, le-ltb, cases_lt}
use Rattle.std.proofs.lemmas.List.{take_more, take-append-drop, append-nil}
use Rattle.mon_table.proofs.Listing.{order-drop}
use Rattle.mon_cnf.specs.declared.clause.Lit.{Lit}
use Rattle.mon_cnf.specs.Truth.{Within}
use Rattle.mon_table.specs.declared.rule.Rule.{Rule}
use Rattle.mon_table.specs.Rules.{identity_of, rank, comes_before}
use Rattle.mon_table.specs.Tables.{InOrder}
use Rattle.mon_table.proofs.Identities.{comes_before-falls}
use Rattle.mon_encode.specs.Clauses.{true_at, sures, above, matched, listed}

-- what is behind rules that are as high says no more
above-front : (k : ℕ) (earlier : List Lit) (m : ℕ) (front back : List Rule) → AllByRecursion (λ s. rank s ≤ m) back → above k earlier m (front ++ back) ≡ above k earlier m front
above-front k earlier m [] [] a = refl
above-front k earlier m [] (r ∷ back) a = rw (le-ltb m (rank r) a.0) refl
above-front k earlier m (x ∷ front) back a =
    ap (λ (ls : List Lit). cond (nat_lt m (rank x)) ls earlier) (above-front (k + 2) (true_at (k + 1) ∷ []) m front back a)

-- the second helper of the last rule, where all are higher
above-all : (k : ℕ) (earlier : List Lit) (m : ℕ) (front : List Rule) (r : Rule) → AllByRecursion (λ s. m < rank s) front → m < rank r
    → above k earlier m (front ++ (r ∷ [])) ≡ true_at (k + 2 * length front + 1) ∷ []
above-all k earlier m [] r a lt =
    let n : k + 1 ≡ k + 2 * 0 + 1 = omega arith in
    rw (lt-ltb m (rank r) lt) (ap (λ (i : ℕ). true_at i ∷ []) n)
above-all k earlier m (x ∷ front) r a lt =
    let n : k + 2 + 2 * length front + 1 ≡ k + 2 * suc (length front) + 1 = omega arith in
    rw (lt-ltb m (rank x) a.0) (above-all (k + 2) (true_at (k + 1) ∷ []) m front r a.1 lt ∙ ap (λ (i : ℕ). true_at i ∷ []) n)

-- what stands once these sure rules are done: of the last one its effective priority, what says that one above it matches,
-- and its own second helper. So it is known what says that one above any lower priority matches
abbrev pub Told : List Rule → ℕ → List Lit → List Lit → Type 0
Told front before high last = (m : ℕ) → AllByRecursion (λ s. m ≤ rank s) front → above 264 [] m front ≡ cond (nat_lt m before) last high

pub told-none : Told [] 0 [] []
told-none m a = rw (le-ltb m 0 (omega arith)) refl

weaker : (m n : ℕ) (front : List Rule) → m < n → AllByRecursion (λ s. n ≤ rank s) front → AllByRecursion (λ s. m < rank s) front
weaker m n [] lt a = tt
weaker m n (x ∷ front) lt a = (omega (arith, a.0), weaker m n front lt a.1)

front-of : (m : ℕ) (front : List Rule) (r : Rule) → AllByRecursion (λ s. m ≤ rank s) (front ++ (r ∷ [])) → AllByRecursion (λ s. m ≤ rank s) front × (m ≤ rank r)
front-of m [] r a = (tt, a.0)
front-of m (x ∷ front) r a = let f = front-of m front r a.1 in ((a.0, f.0), f.1)

pub chosen : (b : Bool) (x y : Option Lit) → listed (cond b x y) ≡ cond b (listed x) (listed y)
chosen true x y = refl
chosen false x y = refl

-- one sure rule more
pub told-more : (front : List Rule) (before : ℕ) (high last : List Lit) (r : Rule) (l : Lit) → Told front before high last → AllByRecursion (λ s. rank r ≤ rank s) front
    → l ≡ true_at (264 + 2 * length front + 1) → Told (front ++ (r ∷ [])) (rank r) (cond (nat_lt (rank r) before) last high) (l ∷ [])
told-more front before high last r l t falls e m a =
    let f = front-of m front r a in
    ⊎_elim
    (λ (lt : m < rank r).
    rw (lt-ltb m (rank r) lt) (above-all 264 [] m front r (weaker m (rank r) front lt falls) lt ∙ ap (λ (x : Lit). x ∷ []) (sym e)))
    (λ (le : rank r ≤ m).
    let same : m ≡ rank r = let g = f.1 in omega arith in
    rw (le-ltb m (rank r) le) (above-front 264 [] m front (r ∷ []) (le, tt) ∙ (ap (λ (n : ℕ). above 264 [] n front) same ∙ t (rank r) falls)))
    (cases_lt m (rank r))

-- what the code chooses
pub higher-is : (front back : List Rule) (before own : ℕ) (high last picked : Option Lit) (r : Rule) → Told front before (listed high) (listed last)
    → AllByRecursion (λ s. rank r ≤ rank s) front → AllByRecursion (λ s. rank s ≤ rank r) back → own ≡ rank r → picked ≡ cond (nat_lt own before) last high
    → above 264 [] (rank r) (front ++ back) ≡ listed picked
higher-is front back before own high last picked r t falls low e f =
    above-front 264 [] (rank r) front back low
    ∙ (t (rank r) falls
    ∙ (sym (chosen (nat_lt (rank r) before) last high)
    ∙ (ap (λ (n : ℕ). listed (cond (nat_lt n before) last high)) (sym e) ∙ ap listed (sym f))))

-- sure rules before a place and from it on
sures-append : (a b : List Rule) → sures (a ++ b) ≡ sures a ++ sures b
sures-append [] b = refl
sures-append (r ∷ a) b =
    elim r.unsure as (λ u. cond (not u) (r ∷ sures (a ++ b)) (sures (a ++ b)) ≡ cond (not u) (r ∷ sures a) (sures a) ++ sures b) [
      | true ↦ sures-append a b
      | false ↦ ap (λ (t : List Rule). r ∷ t) (sures-append a b)
    ]

pub sures-parts : (t : List Rule) (n : ℕ) → sures t ≡ sures (take n t) ++ sures (drop n t)
sures-parts t n = ap sures (sym (take-append-drop n t)) ∙ sures-append (take n t) (drop n t)

taken : (t : List Rule) (n : ℕ) (r : Rule) → n < length t → r ≡ get_or t n r → take (n + 1) t ≡ take n t ++ (r ∷ [])
taken t n r lt e = take_more t n r lt ∙ ap (λ (s : Rule). take n t ++ (s ∷ [])) (sym e)

pub sures-grown : (t : List Rule) (n : ℕ) (r : Rule) → n < length t → r ≡ get_or t n r → r.unsure ≡ false → sures (take (n + 1) t) ≡ sures (take n t) ++ (r ∷ [])
sures-grown t n r lt e u =
    let own : sures (r ∷ []) ≡ r ∷ [] = rw u refl in
    ap sures (taken t n r lt e) ∙ (sures-append (take n t) (r ∷ []) ∙ ap (λ (s : List Rule). sures (take n t) ++ s) own)

pub sures-same : (t : List Rule) (n : ℕ) (r : Rule) → n < length t → r ≡ get_or t n r → r.unsure ≡ true → sures (take (n + 1) t) ≡ sures (take n t)
sures-same t n r lt e u =
    let own : sures (r ∷ []) ≡ [] = rw u refl in
    ap sures (taken t n r lt e) ∙ (sures-append (take n t) (r ∷ []) ∙ (ap (λ (s : List Rule). sures (take n t) ++ s) own ∙ append-nil (sures (take n t))))

-- a sure rule at a place has room for its helpers
pub sures-room : (t : List Rule) (n : ℕ) (r : Rule) → n < length t → r ≡ get_or t n r → r.unsure ≡ false → length (sures (take n t)) + 1 ≤ length (sures t)
sures-room t n r lt e u =
    let p = ap length (sures-parts t (n + 1)) ∙ length-append (sures (take (n + 1) t)) (sures (drop (n + 1) t)) in
    let q = ap length (sures-grown t n r lt e u) ∙ length-append (sures (take n t)) (r ∷ []) in
    omega arith

all-sures : (P : Rule → Type 0) (t : List Rule) → AllByRecursion P t → AllByRecursion P (sures t)
all-sures P [] a = a
all-sures P (r ∷ t) a =
    elim r.unsure as (λ u. AllByRecursion P (cond (not u) (r ∷ sures t) (sures t))) [
      | true ↦ all-sures P t a.1
      | false ↦ (a.0, all-sures P t a.1)
    ]

at-all : (P : Rule → Type 0) (t : List Rule) (n : ℕ) (r : Rule) → AllByRecursion P t → n < length t → r ≡ get_or t n r → P r
at-all P [] n r a lt e = absurd (omega arith)
at-all P (x ∷ t) zero r a lt e = subst P (sym e) a.0
at-all P (x ∷ t) (suc n) r a lt e = at-all P t n r a.1 (omega arith) e

front-high : (t : List Rule) (n : ℕ) (r : Rule) → InOrder t → n < length t → r ≡ get_or t n r → AllByRecursion (λ s. rank r ≤ rank s) (take n t)
front-high [] n r o lt e = absurd (omega arith)
front-high (x ∷ t) zero r o lt e = tt
front-high (x ∷ t) (suc n) r o lt e = (
  comes_before-falls (identity_of x) (identity_of r) (at-all (λ s. comes_before (identity_of x) (identity_of s) ≡ true) t n r o.0 (omega arith) e),
  front-high t n r o.1 (omega arith) e,
)

behind-low : (r : Rule) (t : List Rule) → AllByRecursion (λ s. comes_before (identity_of r) (identity_of s) ≡ true) t → AllByRecursion (λ s. rank s ≤ rank r) t
behind-low r [] a = tt
behind-low r (x ∷ t) a = (comes_before-falls (identity_of r) (identity_of x) a.0, behind-low r t a.1)

back-low : (t : List Rule) (n : ℕ) (r : Rule) → InOrder t → n < length t → r ≡ get_or t n r → AllByRecursion (λ s. rank s ≤ rank r) (drop n t)
back-low t n r o lt e =
    let rest : drop n t ≡ r ∷ drop (suc n) t = drop-cons t n r lt ∙ ap (λ (s : Rule). s ∷ drop (suc n) t) (sym e) in
    let order : InOrder (r ∷ drop (suc n) t) = subst InOrder rest (order-drop t n o) in
    subst (AllByRecursion (λ s. rank s ≤ rank r)) (sym rest) (omega arith, behind-low r (drop (suc n) t) order.0)

-- what says that a sure rule above the one at a place matches
pub place-above : (t : List Rule) (n before own : ℕ) (high last picked : Option Lit) (r : Rule) → InOrder t → n < length t → r ≡ get_or t n r
    → Told (sures (take n t)) before (listed high) (listed last) → own ≡ rank r → picked ≡ cond (nat_lt own before) last high → above 264 [] (rank r) (sures t) ≡ listed picked
place-above t n before own high last picked r o lt e told f g =
    ap (above 264 [] (rank r)) (sures-parts t n)
    ∙ higher-is (sures (take n t)) (sures (drop n t)) before own high last picked r told
    (all-sures (λ s. rank r ≤ rank s) (take n t) (front-high t n r o lt e)) (all-sures (λ s. rank s ≤ rank r) (drop n t) (back-low t n r o lt e)) f g

pub told-next : (t : List Rule) (n before own : ℕ) (high last picked : Option Lit) (r : Rule) (l : Lit) → InOrder t → n < length t → r ≡ get_or t n r → r.unsure ≡ false
    → Told (sures (take n t)) before (listed high) (listed last) → own ≡ rank r → picked ≡ cond (nat_lt own before) last high → l ≡ true_at (264 + 2 * length (sures (take n t)) + 1)
    → Told (sures (take (n + 1) t)) own (listed picked) (l ∷ [])
told-next t n before own high last picked r l o lt e u told f g k m a =
    let grown = sures-grown t n r lt e u in
    let next = told-more (sures (take n t)) before (listed high) (listed last) r l told (all-sures (λ s. rank r ≤ rank s) (take n t) (front-high t n r o lt e)) k in
    let list : listed picked ≡ cond (nat_lt (rank r) before) (listed last) (listed high) =
    ap listed g ∙ (chosen (nat_lt own before) last high ∙ ap (λ (i : ℕ). cond (nat_lt i before) (listed last) (listed high)) f) in
    ap (above 264 [] m) grown
    ∙ (next m (subst (AllByRecursion (λ s. m ≤ rank s)) grown a)
    ∙ ap₂ (λ (i : ℕ) (ls : List Lit). cond (nat_lt m i) (l ∷ []) ls) (sym f) (sym list))

-- it is of the formula's variables
pub above-fits : (vars k : ℕ) (earlier : List Lit) (n : ℕ) (t : List Rule) → Within vars earlier → k + 2 * length t ≤ vars → Within vars (above k earlier n t)
above-fits vars k earlier n [] w le = w
above-fits vars k earlier n (r ∷ t) w le =
    elim (nat_lt n (rank r)) as (λ b. Within vars (cond b (above (k + 2) (true_at (k + 1) ∷ []) n t) earlier)) [
      | true ↦ above-fits vars (k + 2) (true_at (k + 1) ∷ []) n t (omega arith, tt) (omega arith)
      | false ↦ w
    ]

-- the literal that says that some rule matches
matched-last : (k : ℕ) (earlier : List Lit) (r : Rule) (t : List Rule) → matched k earlier (r ∷ t) ≡ true_at (k + 2 * length t + 1) ∷ []
matched-last k earlier r [] = let m : k + 1 ≡ k + 2 * 0 + 1 = omega arith in ap (λ (i : ℕ). true_at i ∷ []) m
matched-last k earlier r (s ∷ t) =
    let m : k + 2 + 2 * length t + 1 ≡ k + 2 * suc (length t) + 1 = omega arith in
    matched-last (k + 2) (true_at (k + 1) ∷ []) s t ∙ ap (λ (i : ℕ). true_at i ∷ []) m

pub matched-none : (vars : ℕ) (t : List Rule) → vars ≡ 264 + 2 * length t → vars ≤ 264 → [] ≡ matched 264 [] t
matched-none vars [] e le = refl
matched-none vars (r ∷ t) e le = absurd (omega arith)

pub matched-some : (vars : ℕ) (t : List Rule) (l : Lit) → vars ≡ 264 + 2 * length t → 264 < vars → l ≡ true_at (vars - 1) → l ∷ [] ≡ matched 264 [] t
matched-some vars [] l e lt f = absurd (omega arith)
matched-some vars (r ∷ t) l e lt f =
    let m : vars - 1 ≡ 264 + 2 * length t + 1 = omega arith in
    ap (λ (x : Lit). x ∷ []) f ∙ (ap (λ (i : ℕ). true_at i ∷ []) m ∙ sym (matched-last 264 [] r t))
