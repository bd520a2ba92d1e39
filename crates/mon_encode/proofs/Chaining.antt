-- What the helper variables say.
use Rattle.std.proofs.Common.{◌≡◌, ℕ, ◌+◌, ◌≤◌, Bool, true, false, not, ◌&&◌, ◌||◌, cond, refl, sym, ap, ◌∙◌, List, [], ◌∷◌, map, ◌⊎◌, ⊎_elim, arith}
use Rattle.std.specs.Prelude.{nat_lt}
use Rattle.std.specs.List.{list_any, list_all, AllByRecursion}
use Rattle.std.proofs.lemmas.List.Folds.{list_all-append}
use Rattle.std.proofs.lemmas.Bool.{false≢true, and_parts, and_from, or_cases, or_left, or_right, both_ways, le-ltb, ltb-false, and_left, or_from}
use Rattle.mon_cnf.specs.declared.clause.Lit.{Lit}
use Rattle.mon_cnf.specs.Truth.{lit_true, clause_true, formula_true}
use Rattle.mon_table.specs.declared.rule.Rule.{Rule}
use Rattle.mon_table.specs.Rules.{rank}
use Rattle.mon_literals.specs.Patterns.{pattern_of}
use Rattle.mon_encode.specs.Clauses.{true_at, false_at, chain, above, matched}
use Rattle.mon_encode.proofs.Truth.{fits}

-- a rule of a higher effective priority whose literals are true
abbrev pub is_above : (ℕ → Bool) → ℕ → Rule → Bool
is_above v n r = nat_lt n (rank r) && fits v r

-- no rule is of a higher effective priority than one before it
abbrev pub Falls : List Rule → Type 0
Falls [] = Unit {0}
Falls (r ∷ t) = AllByRecursion (λ s. nat_lt (rank r) (rank s) ≡ false) t × Falls t

-- the helpers from variable k on are as they should be, where a rule before matches as the flag says
abbrev pub Helped : (ℕ → Bool) → ℕ → Bool → List Rule → Type 0
Helped v k seen [] = Unit {0}
Helped v k seen (r ∷ t) = (v k ≡ fits v r) × (v (k + 1) ≡ (seen || fits v r)) × Helped v (k + 2) (seen || fits v r) t

implied : (x y : Bool) → x ≡ true → (not x || (y || false)) ≡ true → y ≡ true
implied true true t e = refl
implied true false t e = e
implied false y t e = absurd (false≢true t)

-- where the first helper is true, the rule matches
told : (v : ℕ → Bool) (k : ℕ) (p : List Lit) → formula_true v (map (λ l. false_at k ∷ l ∷ []) p) ≡ true → v k ≡ true → list_all (lit_true v) p ≡ true
told v k [] f t = refl
told v k (l ∷ ls) f t =
    let p = and_parts (clause_true v (false_at k ∷ l ∷ [])) _ f in
    and_from _ _ (implied (v k) (lit_true v l) t p.0) (told v k ls p.1 t)

one_of : (x y z : Bool) → x ≡ true → (not x || (y || z)) ≡ true → (y ≡ true) ⊎ (z ≡ true)
one_of true y z t e = or_cases y z e
one_of false y z t e = absurd (false≢true t)

first_or : (x : Bool) → (x || false) ≡ true → x ≡ true
first_or true e = refl
first_or false e = e

or_first : (x : Bool) → x ≡ true → (x || false) ≡ true
or_first true e = refl
or_first false e = e

shift_in : (seen f a b : Bool) → b ≡ true → ((seen || f) || a) ≡ true → (seen || ((b && f) || a)) ≡ true
shift_in true f a b t e = refl
shift_in false f a true t e = e
shift_in false f a false t e = absurd (false≢true t)

shift_out : (seen f a b : Bool) → b ≡ true → (seen || ((b && f) || a)) ≡ true → ((seen || f) || a) ≡ true
shift_out true f a b t e = refl
shift_out false f a true t e = e
shift_out false f a false t e = absurd (false≢true t)

-- the parts of a chain that is true
record Link (v : ℕ → Bool) (k : ℕ) (earlier : List Lit) (r : Rule) (t : List Rule) : Type 0 where
  fit : v k ≡ true → fits v r ≡ true
  next : v (k + 1) ≡ true → (v k ≡ true) ⊎ (clause_true v earlier ≡ true)
  rest : formula_true v (chain (k + 2) (true_at (k + 1) ∷ []) t) ≡ true

link : (v : ℕ → Bool) (k : ℕ) (earlier : List Lit) (r : Rule) (t : List Rule) → formula_true v (chain k earlier (r ∷ t)) ≡ true → Link v k earlier r t
link v k earlier r t f =
    let p = and_parts (formula_true v (map (λ l. false_at k ∷ l ∷ []) (pattern_of r.matching))) _
    (sym (list_all-append (clause_true v) (map (λ l. false_at k ∷ l ∷ []) (pattern_of r.matching)) _) ∙ f) in
    let q = and_parts (clause_true v (false_at (k + 1) ∷ true_at k ∷ earlier)) _ p.1 in
    record { fit = told v k (pattern_of r.matching) p.0; next = λ e. one_of (v (k + 1)) (v k) (clause_true v earlier) e q.0; rest = q.1 }

seen_next : (v : ℕ → Bool) (k : ℕ) (earlier : List Lit) (r : Rule) (t : List Rule) (seen : Bool) → Link v k earlier r t → (clause_true v earlier ≡ true → seen ≡ true)
    → clause_true v (true_at (k + 1) ∷ []) ≡ true → (seen || fits v r) ≡ true
seen_next v k earlier r t seen l s e =
    ⊎_elim (λ (a : v k ≡ true). or_right _ _ (l.fit a)) (λ (a : clause_true v earlier ≡ true). or_left _ _ (s a)) (l.next (first_or (v (k + 1)) e))

above_step : (v : ℕ → Bool) (seen f a b : Bool) (next earlier : List Lit) → (clause_true v next ≡ true → ((seen || f) || a) ≡ true) → (clause_true v earlier ≡ true → seen ≡ true)
    → clause_true v (cond b next earlier) ≡ true → (seen || ((b && f) || a)) ≡ true
above_step v seen f a true next earlier g s e = shift_in seen f a true refl (g e)
above_step v seen f a false next earlier g s e = or_left _ _ (s e)

-- helpers that satisfy the chain say no more than is so
pub above_there : (v : ℕ → Bool) (k : ℕ) (earlier : List Lit) (n : ℕ) (t : List Rule) (seen : Bool) → formula_true v (chain k earlier t) ≡ true → (clause_true v earlier ≡ true → seen ≡ true)
    → clause_true v (above k earlier n t) ≡ true → (seen || list_any (is_above v n) t) ≡ true
above_there v k earlier n [] seen f s e = or_left _ _ (s e)
above_there v k earlier n (r ∷ t) seen f s e =
    let l = link v k earlier r t f in
    above_step v seen (fits v r) (list_any (is_above v n) t) (nat_lt n (rank r)) _ earlier
    (λ x. above_there v (k + 2) (true_at (k + 1) ∷ []) n t (seen || fits v r) l.rest (seen_next v k earlier r t seen l s) x) s e

pub matched_there : (v : ℕ → Bool) (k : ℕ) (earlier : List Lit) (t : List Rule) (seen : Bool) → formula_true v (chain k earlier t) ≡ true → (clause_true v earlier ≡ true → seen ≡ true)
    → clause_true v (matched k earlier t) ≡ true → (seen || list_any (fits v) t) ≡ true
matched_there v k earlier [] seen f s e = or_left _ _ (s e)
matched_there v k earlier (r ∷ t) seen f s e =
    let l = link v k earlier r t f in
    shift_in seen (fits v r) (list_any (fits v) t) true refl (matched_there v (k + 2) (true_at (k + 1) ∷ []) t (seen || fits v r) l.rest (seen_next v k earlier r t seen l s) e)

-- helpers that are as they should be satisfy the chain, and say all that is so
tell_one : (x y : Bool) → (x ≡ true → y ≡ true) → (not x || (y || false)) ≡ true
tell_one true y f = or_first y (f refl)
tell_one false y f = refl

tell : (v : ℕ → Bool) (k : ℕ) (p : List Lit) → (v k ≡ true → list_all (lit_true v) p ≡ true) → formula_true v (map (λ l. false_at k ∷ l ∷ []) p) ≡ true
tell v k [] f = refl
tell v k (l ∷ ls) f = and_from _ _ (tell_one (v k) (lit_true v l) (λ t. (and_parts (lit_true v l) _ (f t)).0)) (tell v k ls (λ t. (and_parts (lit_true v l) _ (f t)).1))

join : (x y z s f : Bool) → y ≡ f → x ≡ (s || f) → (s ≡ true → z ≡ true) → (not x || (y || z)) ≡ true
join x y z true f e g h = or_right _ _ (or_right _ _ (h refl))
join x y z false true e g h = or_right _ _ (or_left _ _ e)
join x y z false false e g h = or_left _ _ (ap not g)

last_seen : (v : ℕ → Bool) (k : ℕ) (s : Bool) → v k ≡ s → s ≡ true → clause_true v (true_at k ∷ []) ≡ true
last_seen v k s e t = or_first (v k) (e ∙ t)

pub chain_back : (v : ℕ → Bool) (k : ℕ) (earlier : List Lit) (t : List Rule) (seen : Bool) → Helped v k seen t → (seen ≡ true → clause_true v earlier ≡ true) → formula_true v (chain k earlier t) ≡ true
chain_back v k earlier [] seen h s = refl
chain_back v k earlier (r ∷ t) seen h s =
    list_all-append (clause_true v) (map (λ l. false_at k ∷ l ∷ []) (pattern_of r.matching)) _
    ∙ and_from _ _ (tell v k (pattern_of r.matching) (λ e. sym h.0 ∙ e))
    (and_from _ _ (join (v (k + 1)) (v k) (clause_true v earlier) seen (fits v r) h.0 h.1 s)
    (chain_back v (k + 2) (true_at (k + 1) ∷ []) t (seen || fits v r) h.2 (λ e. last_seen v (k + 1) _ h.1 e)))

below : (x y z : ℕ) → y ≤ x → z ≤ y → z ≤ x
below x y z p q = omega arith

none_above : (v : ℕ → Bool) (n : ℕ) (r : Rule) (t : List Rule) → nat_lt n (rank r) ≡ false → AllByRecursion (λ s. nat_lt (rank r) (rank s) ≡ false) t → list_any (is_above v n) t ≡ false
none_above v n r [] e a = refl
none_above v n r (s ∷ t) e a =
    or_from _ _ (and_left _ _ (le-ltb n (rank s) (below n (rank r) (rank s) (ltb-false n (rank r) e) (ltb-false (rank r) (rank s) a.0)))) (none_above v n r t e a.1)

back_step : (v : ℕ → Bool) (seen f a b : Bool) (next earlier : List Lit) → (((seen || f) || a) ≡ true → clause_true v next ≡ true) → (seen ≡ true → clause_true v earlier ≡ true) → (b ≡ false → a ≡ false)
    → (seen || ((b && f) || a)) ≡ true → clause_true v (cond b next earlier) ≡ true
back_step v seen f a true next earlier g s n e = g (shift_out seen f a true refl e)
back_step v true f a false next earlier g s n e = s refl
back_step v false f a false next earlier g s n e = absurd (both_ways a (n refl) e)

pub above_back : (v : ℕ → Bool) (k : ℕ) (earlier : List Lit) (n : ℕ) (t : List Rule) (seen : Bool) → Helped v k seen t → Falls t → (seen ≡ true → clause_true v earlier ≡ true)
    → (seen || list_any (is_above v n) t) ≡ true → clause_true v (above k earlier n t) ≡ true
above_back v k earlier n [] seen h a s e = s (first_or seen e)
above_back v k earlier n (r ∷ t) seen h a s e =
    back_step v seen (fits v r) (list_any (is_above v n) t) (nat_lt n (rank r)) _ earlier
    (λ x. above_back v (k + 2) (true_at (k + 1) ∷ []) n t (seen || fits v r) h.2 a.1 (λ e. last_seen v (k + 1) _ h.1 e) x) s (λ b. none_above v n r t b a.0) e

pub matched_back : (v : ℕ → Bool) (k : ℕ) (earlier : List Lit) (t : List Rule) (seen : Bool) → Helped v k seen t → (seen ≡ true → clause_true v earlier ≡ true)
    → (seen || list_any (fits v) t) ≡ true → clause_true v (matched k earlier t) ≡ true
matched_back v k earlier [] seen h s e = s (first_or seen e)
matched_back v k earlier (r ∷ t) seen h s e =
    matched_back v (k + 2) (true_at (k + 1) ∷ []) t (seen || fits v r) h.2 (λ e. last_seen v (k + 1) _ h.1 e) (shift_out seen (fits v r) (list_any (fits v) t) true refl e)
