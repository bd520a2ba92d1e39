-- Where an identity stands, or would stand, among the rules of chunks.
use Rattle.std.proofs.Common.{◌≡◌, ℕ, zero, suc, ◌+◌, ◌<◌, ◌≤◌, Bool, true, false, IsTrue, append_assoc, cond, List, [], ◌∷◌, ◌++◌, length, get_or, take, drop, refl, sym, ap, subst, ◌∙◌, arith, inl, inr, ⊎_elim}
use Rattle.std.specs.List.{AllByRecursion}
use Rattle.std.specs.List.Sorted.{IsPartitionedBy, IsPartitionPoint}
use Rattle.std.proofs.lemmas.Bool.{cases_Bool}
use Rattle.std.specs.Arc.{arc_value}
use Rattle.mon_list.specs.Has.{Has}
use Rattle.mon_header.specs.Matching.{IsNormal}
use Rattle.mon_table.specs.declared.rule.Rule.{Rule}
use Rattle.mon_table.specs.Rules.{Identity, identity_of, same_identity, comes_before}
use Rattle.mon_table.specs.Tables.{InOrder, AllNormal, IsTable}
use Rattle.mon_table.specs.Places.{place_of, stands_at}
use Rattle.mon_table.specs.Chunks.{Shared, rules_of, chunk_at, NoneEmpty, ends_before, AllBefore, AllBehind, IsAround, IsSpot}
use Rattle.mon_table.proofs.Identities.{same-is, comes_before-more, before-once, other-behind}
use Rattle.mon_table.proofs.Placing.{not-behind}
use Rattle.mon_table.proofs.Listing.{has-all}

-- what holds of each rule of two lists
pub all-front : (P : Rule → Type 0) (t u : List Rule) → AllByRecursion P (t ++ u) → AllByRecursion P t
all-front P [] u a = tt
all-front P (r ∷ t) u a = (a.0, all-front P t u a.1)

pub all-back : (P : Rule → Type 0) (t u : List Rule) → AllByRecursion P (t ++ u) → AllByRecursion P u
all-back P [] u a = a
all-back P (r ∷ t) u a = all-back P t u a.1

pub all-both : (P : Rule → Type 0) (t u : List Rule) → AllByRecursion P t → AllByRecursion P u → AllByRecursion P (t ++ u)
all-both P [] u a b = b
all-both P (r ∷ t) u a b = (a.0, all-both P t u a.1 b)

pub order-front : (t u : List Rule) → InOrder (t ++ u) → InOrder t
order-front [] u o = tt
order-front (r ∷ t) u o = (all-front (λ s. comes_before (identity_of r) (identity_of s) ≡ true) t u o.0, order-front t u o.1)

pub order-back : (t u : List Rule) → InOrder (t ++ u) → InOrder u
order-back [] u o = o
order-back (r ∷ t) u o = order-back t u o.1

has-back : (t u : List Rule) (r : Rule) → Has u r → Has (t ++ u) r
has-back [] u r h = h
has-back (s ∷ t) u r h = inr (has-back t u r h)

has-front : (t u : List Rule) (r : Rule) → Has t r → Has (t ++ u) r
has-front [] u r h = absurd h
has-front (s ∷ t) u r h = ⊎_elim (λ (e : r ≡ s). inl e) (λ k. inr (has-front t u r k)) h

-- the last rule of a list in order tells of all
ends-all : (i : Identity) (t : List Rule) → InOrder t → ends_before i t ≡ true → AllBefore i t
ends-all i [] o e = tt
ends-all i (r ∷ []) o e = (e, tt)
ends-all i (r ∷ s ∷ t) o e =
    let rest : AllBefore i (s ∷ t) = ends-all i (s ∷ t) o.1 e in
    (comes_before-more (identity_of r) (identity_of s) i o.0.0 rest.0, rest)

all-ends : (i : Identity) (t : List Rule) → AllBefore i t → ends_before i t ≡ true
all-ends i [] a = refl
all-ends i (r ∷ []) a = a.0
all-ends i (r ∷ s ∷ t) a = all-ends i (s ∷ t) a.1

record Before (i : Identity) (t : List Rule) : Type 0 where
  rule : Rule
  has : Has t rule
  before : comes_before (identity_of rule) i ≡ true

last-before : (i : Identity) (t : List Rule) → 0 < length t → ends_before i t ≡ true → Before i t
last-before i [] lt e = absurd (omega arith)
last-before i (r ∷ []) lt e = record { rule = r; has = inl refl; before = e }
last-before i (r ∷ s ∷ t) lt e =
    let b = last-before i (s ∷ t) (omega arith) e in
    record { rule = b.rule; has = inr b.has; before = b.before }

-- what stands before a rule that stands before the identity
across : (i : Identity) (t u : List Rule) (r : Rule) → InOrder (t ++ u) → Has u r → comes_before (identity_of r) i ≡ true → AllBefore i t
across i [] u r o h e = tt
across i (s ∷ t) u r o h e =
    let first : comes_before (identity_of s) (identity_of r) ≡ true = has-all (λ x. comes_before (identity_of s) (identity_of x) ≡ true) (t ++ u) r o.0 (has-back t u r h) in
    (comes_before-more (identity_of s) (identity_of r) i first e, across i t u r o.1 h e)

has-chunk : (cs : List Shared) (n : ℕ) (d : Shared) (r : Rule) → n < length cs → Has (arc_value (get_or cs n d)) r → Has (rules_of cs) r
has-chunk [] n d r lt h = absurd (omega arith)
has-chunk (c ∷ cs) zero d r lt h = has-front (arc_value c) (rules_of cs) r h
has-chunk (c ∷ cs) (suc n) d r lt h = has-back (arc_value c) (rules_of cs) r (has-chunk cs n d r (omega arith) h)

some-chunk : (cs : List Shared) (n : ℕ) (d : Shared) → n < length cs → NoneEmpty cs → 0 < length (arc_value (get_or cs n d))
some-chunk [] n d lt a = absurd (omega arith)
some-chunk (c ∷ cs) zero d lt a = a.0
some-chunk (c ∷ cs) (suc n) d lt a = some-chunk cs n d (omega arith) a.1

-- a search by halves may ask which chunks end before the identity
pub chunks-partitioned : (i : Identity) (cs : List Shared) → InOrder (rules_of cs) → NoneEmpty cs → IsPartitionedBy (λ c. ends_before i (arc_value c)) cs
chunks-partitioned i [] o a m n d le lt e = absurd (omega arith)
chunks-partitioned i (c ∷ cs) o a zero zero d le lt e = e
chunks-partitioned i (c ∷ cs) o a zero (suc n) d le lt e =
    let b = last-before i (arc_value (get_or cs n d)) (some-chunk cs n d (omega arith) a.1) e in
    all-ends i (arc_value c) (across i (arc_value c) (rules_of cs) b.rule o (has-chunk cs n d b.rule (omega arith) b.has) b.before)
chunks-partitioned i (c ∷ cs) o a (suc m) zero d le lt e = absurd (omega arith)
chunks-partitioned i (c ∷ cs) o a (suc m) (suc n) d le lt e = chunks-partitioned i cs (order-back (arc_value c) (rules_of cs) o) a.1 m n d (omega arith) (omega arith) e

-- the chunks before the one that is found
front-before : (i : Identity) (cs : List Shared) (n : ℕ) → InOrder (rules_of cs)
    → ((k : ℕ) (d : Shared) → k < n → k < length cs → ends_before i (arc_value (get_or cs k d)) ≡ true) → AllBefore i (rules_of (take n cs))
front-before i [] zero o f = tt
front-before i [] (suc n) o f = tt
front-before i (c ∷ cs) zero o f = tt
front-before i (c ∷ cs) (suc n) o f =
    all-both (λ r. comes_before (identity_of r) i ≡ true) (arc_value c) (rules_of (take n cs))
    (ends-all i (arc_value c) (order-front (arc_value c) (rules_of cs) o) (f 0 c (omega arith) (omega arith)))
    (front-before i cs n (order-back (arc_value c) (rules_of cs) o) (λ k d a b. f (suc k) d (omega arith) (omega arith)))

-- the chunks behind it
behind-one : (i : Identity) (r : Rule) (t : List Rule) → IsNormal i.matching → IsNormal r.matching → comes_before (identity_of r) i ≡ false
    → AllBehind (identity_of r) t → AllBehind i t
behind-one i r [] m n e a = tt
behind-one i r (s ∷ t) m n e a = (
  ⊎_elim
      (λ same. subst (λ (j : Identity). comes_before j (identity_of s) ≡ true) (same-is (identity_of r) i same) a.0)
      (λ other. comes_before-more i (identity_of r) (identity_of s) (other-behind (identity_of r) i n m e other) a.0)
      (cases_Bool (same_identity (identity_of r) i)),
  behind-one i r t m n e a.1,
)

last-behind : (i : Identity) (t u : List Rule) → IsNormal i.matching → AllNormal (t ++ u) → InOrder (t ++ u) → 0 < length t → ends_before i t ≡ false → AllBehind i u
last-behind i [] u m n o lt e = absurd (omega arith)
last-behind i (r ∷ []) u m n o lt e = behind-one i r u m n.0 e o.0
last-behind i (r ∷ s ∷ t) u m n o lt e = last-behind i (s ∷ t) u m n.1 o.1 (omega arith) e

rest-behind : (i : Identity) (cs : List Shared) (n : ℕ) (d : Shared) → IsNormal i.matching → AllNormal (rules_of cs) → InOrder (rules_of cs) → NoneEmpty cs → n < length cs
    → ends_before i (arc_value (get_or cs n d)) ≡ false → AllBehind i (rules_of (drop (suc n) cs))
rest-behind i [] n d m a o some lt e = absurd (omega arith)
rest-behind i (c ∷ cs) zero d m a o some lt e = last-behind i (arc_value c) (rules_of cs) m a o some.0 e
rest-behind i (c ∷ cs) (suc n) d m a o some lt e =
    rest-behind i cs n d m (all-back (λ r. IsNormal r.matching) (arc_value c) (rules_of cs) a) (order-back (arc_value c) (rules_of cs) o) some.1 (omega arith) e

none-behind : (i : Identity) (cs : List Shared) (n : ℕ) → length cs ≤ n → AllBehind i (rules_of (drop n cs))
none-behind i [] zero le = tt
none-behind i [] (suc n) le = tt
none-behind i (c ∷ cs) zero le = absurd (omega arith)
none-behind i (c ∷ cs) (suc n) le = none-behind i cs n (omega arith)

-- what a search by halves over the chunks finds
abbrev pub Ended : Identity → List Shared → ℕ → Type 0
Ended i cs n = IsPartitionPoint (λ c. ends_before i (arc_value c) ≡ true) (λ c. ends_before i (arc_value c) ≡ false) cs n

pub around-found : (i : Identity) (cs : List Shared) (n : ℕ) → IsNormal i.matching → IsTable (rules_of cs) → NoneEmpty cs → n < length cs → Ended i cs n → IsAround i cs n
around-found i [] n m table some lt h = absurd (omega arith)
around-found i (c ∷ cs) n m table some lt h = record {
  within = lt;
  before = front-before i (c ∷ cs) n table.order (λ k d a b. h.0 k d (omega arith) a);
  behind = rest-behind i (c ∷ cs) n c m table.normal table.order some lt (h.1 n c (omega arith) lt);
}

pub around-last : (i : Identity) (cs : List Shared) (n : ℕ) → IsTable (rules_of cs) → 0 < length cs → length cs ≤ n → n ≤ length cs → Ended i cs n → (m : ℕ) → m + 1 ≡ n → IsAround i cs m
around-last i cs n table lt le ge h m e = record {
  within = omega arith;
  before = front-before i cs m table.order (λ k d a b. h.0 k d (omega arith) (omega arith));
  behind = none-behind i cs (suc m) (omega arith);
}

-- the rules of chunks, parted round one of them
pub parted : (cs : List Shared) (n : ℕ) → rules_of cs ≡ rules_of (take n cs) ++ (chunk_at cs n ++ rules_of (drop (suc n) cs))
parted [] zero = refl
parted [] (suc n) = refl
parted (c ∷ cs) zero = refl
parted (c ∷ cs) (suc n) =
    ap (λ (t : List Rule). arc_value c ++ t) (parted cs n) ∙ sym (append_assoc (arc_value c) (rules_of (take n cs)) (chunk_at cs n ++ rules_of (drop (suc n) cs)))

pub chunk-read : (cs : List Shared) (n : ℕ) (d : Shared) → n < length cs → chunk_at cs n ≡ arc_value (get_or cs n d)
chunk-read [] n d lt = absurd (omega arith)
chunk-read (c ∷ cs) zero d lt = refl
chunk-read (c ∷ cs) (suc n) d lt = chunk-read cs n d (omega arith)

-- the place among all rules
place-before : (i : Identity) (f t : List Rule) → AllBefore i f → place_of i (f ++ t) ≡ length f + place_of i t
place-before i [] t a = omega arith
place-before i (r ∷ f) t a = rw a.0 (let e = place-before i f t a.1 in omega arith)

place-none : (i : Identity) (b : List Rule) → AllBehind i b → place_of i b ≡ 0
place-none i [] a = refl
place-none i (r ∷ b) a = rw (before-once i (identity_of r) a.0) refl

place-behind : (i : Identity) (t b : List Rule) → AllBehind i b → place_of i (t ++ b) ≡ place_of i t
place-behind i [] b a = place-none i b a
place-behind i (r ∷ t) b a = ap (λ (n : ℕ). cond (comes_before (identity_of r) i) (suc n) 0) (place-behind i t b a)

stands-before : (i : Identity) (f t : List Rule) (n : ℕ) → stands_at i (length f + n) (f ++ t) ≡ stands_at i n t
stands-before i [] t n = let e : length {A = Rule} [] + n ≡ n = omega arith in ap (λ (k : ℕ). stands_at i k t) e
stands-before i (r ∷ f) t n =
    let e : length (r ∷ f) + n ≡ suc (length f + n) = omega arith in
    ap (λ (k : ℕ). stands_at i k (r ∷ (f ++ t))) e ∙ stands-before i f t n

stands-none : (i : Identity) (b : List Rule) (n : ℕ) → AllBehind i b → stands_at i n b ≡ false
stands-none i [] n a = refl
stands-none i (r ∷ b) zero a = not-behind i r a.0
stands-none i (r ∷ b) (suc n) a = stands-none i b n a.1

stands-behind : (i : Identity) (t b : List Rule) (n : ℕ) → AllBehind i b → stands_at i n (t ++ b) ≡ stands_at i n t
stands-behind i [] b n a = stands-none i b n a
stands-behind i (r ∷ t) b zero a = refl
stands-behind i (r ∷ t) b (suc n) a = stands-behind i t b n a

pub around-place : (i : Identity) (cs : List Shared) (at : ℕ) → IsAround i cs at → place_of i (rules_of cs) ≡ length (rules_of (take at cs)) + place_of i (chunk_at cs at)
around-place i cs at a =
    ap (place_of i) (parted cs at)
    ∙ (place-before i (rules_of (take at cs)) (chunk_at cs at ++ rules_of (drop (suc at) cs)) a.before
    ∙ ap (λ (n : ℕ). length (rules_of (take at cs)) + n) (place-behind i (chunk_at cs at) (rules_of (drop (suc at) cs)) a.behind))

pub around-stands : (i : Identity) (cs : List Shared) (at n : ℕ) → IsAround i cs at → stands_at i (length (rules_of (take at cs)) + n) (rules_of cs) ≡ stands_at i n (chunk_at cs at)
around-stands i cs at n a =
    ap (stands_at i (length (rules_of (take at cs)) + n)) (parted cs at)
    ∙ (stands-before i (rules_of (take at cs)) (chunk_at cs at ++ rules_of (drop (suc at) cs)) n
    ∙ stands-behind i (chunk_at cs at) (rules_of (drop (suc at) cs)) n a.behind)

pub order-chunk : (cs : List Shared) (n : ℕ) → InOrder (rules_of cs) → InOrder (chunk_at cs n)
order-chunk [] n o = tt
order-chunk (c ∷ cs) zero o = order-front (arc_value c) (rules_of cs) o
order-chunk (c ∷ cs) (suc n) o = order-chunk cs n (order-back (arc_value c) (rules_of cs) o)

-- what a search in the chunk and a look at the place that it gives say of all rules
pub spot-is : (i : Identity) (cs : List Shared) (at n : ℕ) (t : List Rule) (found : Bool) → IsAround i cs at → chunk_at cs at ≡ t → n ≡ place_of i t → n ≤ length t
    → found ≡ stands_at i n t → (IsTrue found → n < length t) → IsSpot i cs at n found
spot-is i cs at n t found a e p le s lt =
    let place : length (rules_of (take at cs)) + n ≡ place_of i (rules_of cs) =
    ap (λ (k : ℕ). length (rules_of (take at cs)) + k) (p ∙ ap (place_of i) (sym e)) ∙ sym (around-place i cs at a) in
    record {
      chunk = a.within;
      within = subst (λ (u : List Rule). n ≤ length u) (sym e) le;
      place = place;
      stands = s ∙ (ap (stands_at i n) (sym e) ∙ (sym (around-stands i cs at n a) ∙ ap (λ (k : ℕ). stands_at i k (rules_of cs)) place));
      there = λ y. subst (λ (u : List Rule). n < length u) (sym e) (lt y);
    }

pub none-at-all : (cs : List Shared) → length cs ≡ 0 → rules_of cs ≡ []
none-at-all [] e = refl
none-at-all (c ∷ cs) e = absurd (omega arith)

-- the chunk that is read at a place
pub read-chunk : (cs : List Shared) (n : ℕ) (c : Shared) (t : List Rule) → n < length cs → c ≡ get_or cs n c → t ≡ arc_value c → chunk_at cs n ≡ t
read-chunk cs n c t lt e f = chunk-read cs n c lt ∙ (ap arc_value (sym e) ∙ sym f)

pub read-order : (cs : List Shared) (n : ℕ) (c : Shared) (t : List Rule) → InOrder (rules_of cs) → n < length cs → c ≡ get_or cs n c → t ≡ arc_value c → InOrder t
read-order cs n c t o lt e f = subst InOrder (read-chunk cs n c t lt e f) (order-chunk cs n o)
