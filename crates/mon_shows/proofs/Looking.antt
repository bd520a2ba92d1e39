-- What a table must and may show, by going through it in order.
use Rattle.std.proofs.Common.{◌≡◌, ℕ, suc, ◌<◌, ◌≤◌, Bool, true, false, not, cond, ◌&&◌, ◌||◌, List, [], ◌∷◌, length, get_or, drop, refl, sym, ap, ap₂, subst, ◌∙◌, arith, ⊎_elim, drop-cons}
use Rattle.std.specs.List.{filter, list_any, AllByRecursion}
use Rattle.std.proofs.lemmas.Bool.{cases_Bool, and_left, and_right, and_from, or_right, false≢true, le-leb, lt-leb}
use Rattle.mon_header.specs.declared.header.Header.{Header}
use Rattle.mon_header.specs.Matching.{matches}
use Rattle.mon_table.specs.declared.rule.Rule.{Rule}
use Rattle.mon_table.specs.Rules.{identity_of, rank, comes_before}
use Rattle.mon_table.specs.Tables.{InOrder}
use Rattle.mon_table.specs.Winners.{wins, winners, may_miss}
use Rattle.mon_table.specs.Places.{hides, least_rank, is_from_rank}
use Rattle.mon_table.proofs.Identities.{comes_before-falls}
use Rattle.mon_table.proofs.Listing.{order-drop, all-has, wins-from}
use Rattle.mon_table.proofs.Vanishing.{filter-same, no-winner}
use Rattle.mon_outcome.specs.declared.emission.Emission.{Emission}
use Rattle.mon_outcome.specs.Emitting.{must, may}
use Rattle.mon_shows.specs.Separation.{is_miss, is_certain, must_show, may_show}
use Rattle.mon_shows.specs.Scanning.{any_at, must_show_in, any_may_at, may_show_in}

-- the rules from a place on
pub rest-is : (t : List Rule) (n : ℕ) (r : Rule) → n < length t → r ≡ get_or t n r → drop n t ≡ r ∷ drop (suc n) t
rest-is t n r lt e = drop-cons t n r lt ∙ ap (λ (s : Rule). s ∷ drop (suc n) t) (sym e)

-- a filter at its first rule
pub filter-in : (p : Rule → Bool) (r : Rule) (t : List Rule) → p r ≡ true → filter p (r ∷ t) ≡ r ∷ filter p t
filter-in p r t e = rw e refl

pub filter-out : (p : Rule → Bool) (r : Rule) (t : List Rule) → p r ≡ false → filter p (r ∷ t) ≡ filter p t
filter-out p r t e = rw e refl

-- the rules that match, from the least effective priority that may win on
abbrev pub tops : Header → List Rule → List Rule
tops h t = filter (is_from_rank h (least_rank h t)) t

pub winners-tops : (h : Header) (t : List Rule) → InOrder t → winners t h ≡ tops h t
winners-tops h t o =
    filter-same (wins t h) (is_from_rank h (least_rank h t)) t
    (all-has (λ r. wins t h r ≡ is_from_rank h (least_rank h t) r) t (λ r i. sym (wins-from h t r o)))

-- what the first rule changes of them
least-first : (h : Header) (r : Rule) (t : List Rule) → hides h r ≡ true → least_rank h (r ∷ t) ≡ rank r
least-first h r t y = rw y refl

least-passed : (h : Header) (r : Rule) (t : List Rule) → hides h r ≡ false → least_rank h (r ∷ t) ≡ least_rank h t
least-passed h r t n = rw n refl

least-below : (h : Header) (r : Rule) (t : List Rule) → AllByRecursion (λ s. comes_before (identity_of r) (identity_of s) ≡ true) t → least_rank h t ≤ rank r
least-below h r [] a = omega arith
least-below h r (s ∷ t) a =
    let falls : rank s ≤ rank r = comes_before-falls (identity_of r) (identity_of s) a.0 in
    ⊎_elim (λ y. rw y falls) (λ n. rw n (least-below h r t a.1)) (cases_Bool (hides h s))

pub tops-unmatched : (h : Header) (r : Rule) (t : List Rule) → matches r.matching h ≡ false → tops h (r ∷ t) ≡ tops h t
tops-unmatched h r t m =
    ap (λ (n : ℕ). filter (is_from_rank h n) (r ∷ t)) (least-passed h r t (and_right (not r.unsure) _ m))
    ∙ filter-out (is_from_rank h (least_rank h t)) r t (and_right _ _ m)

pub miss-unmatched : (h : Header) (r : Rule) (t : List Rule) → matches r.matching h ≡ false → may_miss (r ∷ t) h ≡ may_miss t h
miss-unmatched h r t m = ap (λ (b : Bool). (not b || r.unsure) && may_miss t h) m

pub tops-unsure : (h : Header) (r : Rule) (t : List Rule) → AllByRecursion (λ s. comes_before (identity_of r) (identity_of s) ≡ true) t
    → matches r.matching h ≡ true → r.unsure ≡ true → tops h (r ∷ t) ≡ r ∷ tops h t
tops-unsure h r t a m u =
    ap (λ (n : ℕ). filter (is_from_rank h n) (r ∷ t)) (least-passed h r t (and_left (not r.unsure) (matches r.matching h) (ap not u)))
    ∙ filter-in (is_from_rank h (least_rank h t)) r t (and_from _ _ (le-leb (least_rank h t) (rank r) (least-below h r t a)) m)

pub miss-unsure : (h : Header) (r : Rule) (t : List Rule) → r.unsure ≡ true → may_miss (r ∷ t) h ≡ may_miss t h
miss-unsure h r t u = ap (λ (b : Bool). b && may_miss t h) (or_right (not (matches r.matching h)) r.unsure u)

pub tops-sure : (h : Header) (r : Rule) (t : List Rule) → matches r.matching h ≡ true → r.unsure ≡ false → tops h (r ∷ t) ≡ r ∷ filter (is_from_rank h (rank r)) t
tops-sure h r t m u =
    ap (λ (n : ℕ). filter (is_from_rank h n) (r ∷ t)) (least-first h r t (and_from _ _ (ap not u) m))
    ∙ filter-in (is_from_rank h (rank r)) r t (and_from _ _ (le-leb (rank r) (rank r) (omega arith)) m)

neither : (m u : Bool) → m ≡ true → u ≡ false → (not m || u) ≡ false
neither true false a b = refl
neither true true a b = absurd (false≢true (sym b))
neither false u a b = absurd (false≢true a)

pub miss-sure : (h : Header) (r : Rule) (t : List Rule) → matches r.matching h ≡ true → r.unsure ≡ false → may_miss (r ∷ t) h ≡ false
miss-sure h r t m u = and_left _ _ (neither (matches r.matching h) r.unsure m u)

-- what the table must show
must-matched : (h : Header) (e : Emission) (r : Rule) (t : List Rule) → matches r.matching h ≡ true
    → must_show_in (r ∷ t) h e ≡ (not r.unsure && (not (any_at h (rank r) t) && must r.actions h e))
must-matched h e r t m = rw m refl

must-passed : (h : Header) (e : Emission) (r : Rule) (t : List Rule) → matches r.matching h ≡ false → must_show_in (r ∷ t) h e ≡ must_show_in t h e
must-passed h e r t m = rw m refl

certain-first : (p : Rule → Bool) (r : Rule) (t : List Rule) (h : Header) (e : Emission) → is_certain (r ∷ filter p t) false h e ≡ (not (list_any p t) && must r.actions h e)
certain-first p r [] h e = refl
certain-first p r (s ∷ t) h e =
    elim (p s) as (λ b. is_certain (r ∷ cond b (s ∷ filter p t) (filter p t)) false h e ≡ (not (b || list_any p t) && must r.actions h e)) [
      | true ↦ refl
      | false ↦ certain-first p r t h e
    ]

certain-unsure : (r : Rule) (ws : List Rule) (misses : Bool) (h : Header) (e : Emission) → (ws ≡ [] → misses ≡ true) → is_certain (r ∷ ws) misses h e ≡ false
certain-unsure r [] misses h e f = ap (λ (b : Bool). not b && must r.actions h e) (f refl)
certain-unsure r (s ∷ ws) misses h e f = refl

must-by : (h : Header) (e : Emission) (t : List Rule) → InOrder t → must_show_in t h e ≡ is_certain (tops h t) (may_miss t h) h e
must-by h e [] o = refl
must-by h e (r ∷ t) o = ⊎_elim
    (λ m. ⊎_elim
    (λ u.
    must-matched h e r t m
    ∙ and_left (not r.unsure) _ (ap not u)
    ∙ sym (ap₂ (λ (ws : List Rule) (b : Bool). is_certain ws b h e) (tops-unsure h r t o.0 m u) (miss-unsure h r t u)
    ∙ certain-unsure r (tops h t) (may_miss t h) h e (λ none. no-winner t h o.1 (winners-tops h t o.1 ∙ none))))
    (λ u.
    must-matched h e r t m
    ∙ ap (λ (b : Bool). not b && (not (any_at h (rank r) t) && must r.actions h e)) u
    ∙ sym (ap₂ (λ (ws : List Rule) (b : Bool). is_certain ws b h e) (tops-sure h r t m u) (miss-sure h r t m u)
    ∙ certain-first (is_from_rank h (rank r)) r t h e))
    (cases_Bool r.unsure))
    (λ m.
    must-passed h e r t m
    ∙ must-by h e t o.1
    ∙ sym (ap₂ (λ (ws : List Rule) (b : Bool). is_certain ws b h e) (tops-unmatched h r t m) (miss-unmatched h r t m)))
    (cases_Bool (matches r.matching h))

pub must-is : (h : Header) (e : Emission) (t : List Rule) → InOrder t → must_show_in t h e ≡ must_show t h e
must-is h e t o = must-by h e t o ∙ ap (λ (ws : List Rule). is_certain ws (may_miss t h) h e) (sym (winners-tops h t o))

-- what it may show
pub any-filter : (p q : Rule → Bool) (t : List Rule) → list_any q (filter p t) ≡ list_any (λ r. p r && q r) t
any-filter p q [] = refl
any-filter p q (r ∷ t) =
    elim (p r) as (λ b. list_any q (cond b (r ∷ filter p t) (filter p t)) ≡ ((b && q r) || list_any (λ r. p r && q r) t)) [
      | true ↦ ap (λ (b : Bool). q r || b) (any-filter p q t)
      | false ↦ any-filter p q t
    ]

may-matched : (h : Header) (e : Emission) (r : Rule) (t : List Rule) → matches r.matching h ≡ true
    → may_show_in (r ∷ t) h e ≡ (may r.actions h e || cond r.unsure (may_show_in t h e) (any_may_at h (rank r) e t))
may-matched h e r t m = rw m refl

may-passed : (h : Header) (e : Emission) (r : Rule) (t : List Rule) → matches r.matching h ≡ false → may_show_in (r ∷ t) h e ≡ may_show_in t h e
may-passed h e r t m = rw m refl

or-turned : (a b c : Bool) → (a || (b || c)) ≡ ((a || b) || c)
or-turned true b c = refl
or-turned false b c = refl

or-none : (a b : Bool) → a ≡ ((a || false) || (false && b))
or-none true b = refl
or-none false b = refl

or-last : (a b c : Bool) → (a || b) ≡ ((a || b) || (false && c))
or-last true b c = refl
or-last false true c = refl
or-last false false c = refl

may-by : (h : Header) (e : Emission) (t : List Rule) → InOrder t
    → may_show_in t h e ≡ (list_any (λ s. may s.actions h e) (tops h t) || (may_miss t h && is_miss h e))
may-by h e [] o = refl
may-by h e (r ∷ t) o = ⊎_elim
    (λ m. ⊎_elim
    (λ u.
    may-matched h e r t m
    ∙ ap (λ (b : Bool). may r.actions h e || cond b (may_show_in t h e) (any_may_at h (rank r) e t)) u
    ∙ ap (λ (b : Bool). may r.actions h e || b) (may-by h e t o.1)
    ∙ or-turned (may r.actions h e) (list_any (λ s. may s.actions h e) (tops h t)) (may_miss t h && is_miss h e)
    ∙ sym (ap₂ (λ (ws : List Rule) (b : Bool). list_any (λ s. may s.actions h e) ws || (b && is_miss h e)) (tops-unsure h r t o.0 m u) (miss-unsure h r t u)))
    (λ u.
    may-matched h e r t m
    ∙ ap (λ (b : Bool). may r.actions h e || cond b (may_show_in t h e) (any_may_at h (rank r) e t)) u
    ∙ ap (λ (b : Bool). may r.actions h e || b) (sym (any-filter (is_from_rank h (rank r)) (λ s. may s.actions h e) t))
    ∙ or-last (may r.actions h e) (list_any (λ s. may s.actions h e) (filter (is_from_rank h (rank r)) t)) (is_miss h e)
    ∙ sym (ap₂ (λ (ws : List Rule) (b : Bool). list_any (λ s. may s.actions h e) ws || (b && is_miss h e)) (tops-sure h r t m u) (miss-sure h r t m u)))
    (cases_Bool r.unsure))
    (λ m.
    may-passed h e r t m
    ∙ may-by h e t o.1
    ∙ sym (ap₂ (λ (ws : List Rule) (b : Bool). list_any (λ s. may s.actions h e) ws || (b && is_miss h e)) (tops-unmatched h r t m) (miss-unmatched h r t m)))
    (cases_Bool (matches r.matching h))

pub may-is : (h : Header) (e : Emission) (t : List Rule) → InOrder t → may_show_in t h e ≡ may_show t h e
may-is h e t o = may-by h e t o ∙ ap (λ (ws : List Rule). list_any (λ s. may s.actions h e) ws || (may_miss t h && is_miss h e)) (sym (winners-tops h t o))

-- behind a rule of a lower effective priority none of a higher one stands
below : (h : Header) (n : ℕ) (r : Rule) (t : List Rule) → rank r < n → AllByRecursion (λ s. comes_before (identity_of r) (identity_of s) ≡ true) t → any_at h n t ≡ false
below h n r [] low a = refl
below h n r (s ∷ t) low a =
    let falls : rank s ≤ rank r = comes_before-falls (identity_of r) (identity_of s) a.0 in
    let out : is_from_rank h n s ≡ false = and_left _ _ (lt-leb n (rank s) (omega arith)) in
    rw out (below h n r t low a.1)

pub none-below : (h : Header) (n : ℕ) (t : List Rule) (k : ℕ) (r : Rule) → k < length t → r ≡ get_or t k r → InOrder t → rank r < n → any_at h n (drop k t) ≡ false
none-below h n t k r lt e o low =
    let rest : drop k t ≡ r ∷ drop (suc k) t = rest-is t k r lt e in
    let order : InOrder (r ∷ drop (suc k) t) = subst InOrder rest (order-drop t k o) in
    let out : is_from_rank h n r ≡ false = and_left _ _ (lt-leb n (rank r) low) in
    subst (λ (u : List Rule). any_at h n u ≡ false) (sym rest) (rw out (below h n r (drop (suc k) t) low order.0))

-- nor does one that may emit something
fewer : (h : Header) (n : ℕ) (e : Emission) (t : List Rule) → any_at h n t ≡ false → any_may_at h n e t ≡ false
fewer h n e [] f = refl
fewer h n e (r ∷ t) f =
    elim (is_from_rank h n r) as (λ b. (b || any_at h n t) ≡ false → ((b && may r.actions h e) || any_may_at h n e t) ≡ false) [
      | true ↦ λ g. absurd (false≢true (sym g))
      | false ↦ λ g. fewer h n e t g
    ] f

pub none-may-below : (h : Header) (n : ℕ) (e : Emission) (t : List Rule) (k : ℕ) (r : Rule) → k < length t → r ≡ get_or t k r → InOrder t → rank r < n → any_may_at h n e (drop k t) ≡ false
none-may-below h n e t k r lt is o low = fewer h n e (drop k t) (none-below h n t k r lt is o low)
