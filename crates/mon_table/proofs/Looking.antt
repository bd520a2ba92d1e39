-- Lookups chunk by chunk: what one chunk says, and what is left.
use Rattle.std.proofs.Common.{◌≡◌, ℕ, zero, suc, ◌+◌, ◌<◌, ◌≤◌, Bool, true, false, cond, not, List, [], ◌∷◌, ◌++◌, length, get_or, take, drop, drop-cons, append_assoc, add-one, Some, None, refl, sym, ap, subst, ◌∙◌, arith}
use Rattle.std.specs.Prelude.{Option}
use Rattle.std.specs.List.{AllByRecursion}
use Rattle.std.specs.Arc.{arc_value}
use Rattle.std.proofs.lemmas.List.{append-nil, length-append}
use Rattle.std.proofs.lemmas.List.Elements.{filter-append}
use Rattle.std.proofs.lemmas.Bool.{and_left, and_right, lt-leb, false_from_ne_true, false≢true}
use Rattle.mon_header.specs.declared.header.Header.{Header}
use Rattle.mon_header.specs.Matching.{Matching, IsNormal, matches, overlaps}
use Rattle.mon_header.proofs.Sharing.{overlap-law, both-taken}
use Rattle.mon_table.specs.declared.rule.Rule.{Rule}
use Rattle.mon_table.specs.Rules.{rank}
use Rattle.mon_table.specs.Tables.{InOrder, AllNormal, places_from, slice}
use Rattle.mon_table.specs.Winners.{may_miss}
use Rattle.mon_table.specs.Places.{hides, least_rank, is_from_rank}
use Rattle.mon_table.specs.Covers.{IsCover}
use Rattle.mon_table.specs.Chunks.{Shared, rules_of, chunk_at, NoneEmpty, hiding_rank}
use Rattle.mon_table.proofs.Listing.{places-none, low-rest}
use Rattle.mon_table.proofs.Seeking.{parted, all-front, all-back, order-back}
use Rattle.mon_table.proofs.Parting.{rules-append}

-- the rules from a chunk on
pub rest-read : (cs : List Shared) (n : ℕ) (c : Shared) (t : List Rule) → n < length cs → c ≡ get_or cs n c → t ≡ arc_value c → rules_of (drop n cs) ≡ t ++ rules_of (drop (n + 1) cs)
rest-read cs n c t lt e f =
    ap rules_of (drop-cons cs n c lt ∙ ap (λ (s : Shared). s ∷ drop (suc n) cs) (sym e))
    ∙ (ap (λ (u : List Rule). u ++ rules_of (drop (suc n) cs)) (sym f) ∙ ap (λ (k : ℕ). t ++ rules_of (drop k cs)) (sym (add-one n)))

normal-dropped : (cs : List Shared) (n : ℕ) → AllNormal (rules_of cs) → AllNormal (rules_of (drop n cs))
normal-dropped [] zero a = a
normal-dropped [] (suc n) a = a
normal-dropped (c ∷ cs) zero a = a
normal-dropped (c ∷ cs) (suc n) a = normal-dropped cs n (all-back (λ r. IsNormal r.matching) (arc_value c) (rules_of cs) a)

pub normal-read : (cs : List Shared) (n : ℕ) (c : Shared) → n < length cs → c ≡ get_or cs n c → AllNormal (rules_of cs) → AllNormal (arc_value c)
normal-read cs n c lt e a =
    all-front (λ r. IsNormal r.matching) (arc_value c) (rules_of (drop (n + 1) cs)) (subst AllNormal (rest-read cs n c (arc_value c) lt e refl) (normal-dropped cs n a))

order-dropped : (cs : List Shared) (n : ℕ) → InOrder (rules_of cs) → InOrder (rules_of (drop n cs))
order-dropped [] zero o = o
order-dropped [] (suc n) o = o
order-dropped (c ∷ cs) zero o = o
order-dropped (c ∷ cs) (suc n) o = order-dropped cs n (order-back (arc_value c) (rules_of cs) o)

-- one more chunk of a count
pub counted : (cs : List Shared) (n k : ℕ) (c : Shared) (t : List Rule) → n < length cs → c ≡ get_or cs n c → t ≡ arc_value c → k + length (rules_of (drop n cs)) ≡ length (rules_of cs)
    → (k + length t) + length (rules_of (drop (n + 1) cs)) ≡ length (rules_of cs)
counted cs n k c t lt e f inv =
    let g : length (rules_of (drop n cs)) ≡ length (t ++ rules_of (drop (n + 1) cs)) = ap length (rest-read cs n c t lt e f) in
    let h = length-append t (rules_of (drop (n + 1) cs)) in
    omega arith

pub place-few : (cs : List Shared) (at n : ℕ) → n ≤ length (chunk_at cs at) → length (rules_of (take at cs)) + n ≤ length (rules_of cs)
place-few cs at n le =
    let f = rules_of (take at cs) in
    let g : length (rules_of cs) ≡ length (f ++ (chunk_at cs at ++ rules_of (drop (suc at) cs))) = ap length (parted cs at) in
    let h = length-append f (chunk_at cs at ++ rules_of (drop (suc at) cs)) in
    let k = length-append (chunk_at cs at) (rules_of (drop (suc at) cs)) in
    omega arith

-- where the cover does not take the header
unmatched : (k : Matching) (h : Header) (t : List Rule) → IsCover k t → matches k h ≡ false → AllByRecursion (λ r. matches r.matching h ≡ false) t
unmatched k h [] a n = tt
unmatched k h (r ∷ t) a n = (false_from_ne_true _ (λ e. false≢true (sym n ∙ a.0 h e)), unmatched k h t a.1 n)

none-hide : (h : Header) (t : List Rule) → AllByRecursion (λ r. matches r.matching h ≡ false) t → None ≡ hiding_rank h t
none-hide h [] a = refl
none-hide h (r ∷ t) a = let e : hides h r ≡ false = and_right _ _ a.0 in rw e (none-hide h t a.1)

pub cover-hides : (k : Matching) (h : Header) (t : List Rule) (b : Bool) → IsCover k t → b ≡ matches k h → b ≡ false → None ≡ hiding_rank h t
cover-hides k h t b a e f = none-hide h t (unmatched k h t a (sym e ∙ f))

all-missed : (h : Header) (t : List Rule) → AllByRecursion (λ r. matches r.matching h ≡ false) t → true ≡ may_miss t h
all-missed h [] a = refl
all-missed h (r ∷ t) a = rw a.0 (all-missed h t a.1)

pub cover-misses : (k : Matching) (h : Header) (t : List Rule) (b : Bool) → IsCover k t → b ≡ matches k h → b ≡ false → true ≡ may_miss t h
cover-misses k h t b a e f = all-missed h t (unmatched k h t a (sym e ∙ f))

none-from : (h : Header) (least : ℕ) (t : List Rule) → AllByRecursion (λ r. matches r.matching h ≡ false) t → AllByRecursion (λ r. is_from_rank h least r ≡ false) t
none-from h least [] a = tt
none-from h least (r ∷ t) a = (and_right _ _ a.0, none-from h least t a.1)

pub cover-wins : (k : Matching) (h : Header) (least n : ℕ) (t : List Rule) (found : List ℕ) (b : Bool) → IsCover k t → b ≡ matches k h → b ≡ false
    → found ≡ found ++ places_from n (is_from_rank h least) t
cover-wins k h least n t found b a e f =
    sym (append-nil found) ∙ ap (λ (s : List ℕ). found ++ s) (sym (places-none (is_from_rank h least) n t (none-from h least t (unmatched k h t a (sym e ∙ f)))))

-- where the cover does not overlap
none-overlap : (k m : Matching) (t : List Rule) → IsNormal m → IsNormal k → AllNormal t → IsCover k t → overlaps m k ≡ false → [] ≡ slice m t
none-overlap k m [] p q n a e = refl
none-overlap k m (r ∷ t) p q n a e =
    let apart : overlaps m r.matching ≡ false = false_from_ne_true _ (λ o.
    let s = (overlap-law m r.matching p n.0).0 o in
    false≢true (sym e ∙ both-taken m k s.0 s.2 (a.0 s.0 s.3))) in
    rw apart (none-overlap k m t p q n.1 a.1 e)

-- the first sure rule that matches
hiding-some : (h : Header) (n : ℕ) (t u : List Rule) → hiding_rank h t ≡ Some n → n ≡ least_rank h (t ++ u)
hiding-some h n [] u e = absurd (let f : ⊥ = cc in f)
hiding-some h n (r ∷ t) u e =
    elim (hides h r) as (λ b. cond b (Some (rank r)) (hiding_rank h t) ≡ Some n → n ≡ cond b (rank r) (least_rank h (t ++ u))) [
      | true ↦ λ f. let g : rank r ≡ n = cc in sym g
      | false ↦ λ f. hiding-some h n t u f
    ] e

hiding-none : (h : Header) (t u : List Rule) → hiding_rank h t ≡ None → least_rank h (t ++ u) ≡ least_rank h u
hiding-none h [] u e = refl
hiding-none h (r ∷ t) u e =
    elim (hides h r) as (λ b. cond b (Some (rank r)) (hiding_rank h t) ≡ None → cond b (rank r) (least_rank h (t ++ u)) ≡ least_rank h u) [
      | true ↦ λ f. absurd (let g : ⊥ = cc in g)
      | false ↦ λ f. hiding-none h t u f
    ] e

none-of : (o : Option ℕ) → ((x : ℕ) → o ≡ Some x → ⊥) → o ≡ None
none-of None f = refl
none-of (Some x) f = absurd (f x refl)

pub none-hides : (h : Header) (t : List Rule) (o : Option ℕ) → o ≡ hiding_rank h t → ((x : ℕ) → o ≡ Some x → ⊥) → None ≡ hiding_rank h t
none-hides h t o e f = sym (none-of o f) ∙ e

pub least-there : (h : Header) (k : ℕ) (cs : List Shared) (n : ℕ) (c : Shared) (t : List Rule) → n < length cs → c ≡ get_or cs n c → t ≡ arc_value c → Some k ≡ hiding_rank h t
    → least_rank h (rules_of (drop n cs)) ≡ least_rank h (rules_of cs) → k ≡ least_rank h (rules_of cs)
least-there h k cs n c t lt e f some inv =
    hiding-some h k t (rules_of (drop (n + 1) cs)) (sym some) ∙ (ap (least_rank h) (sym (rest-read cs n c t lt e f)) ∙ inv)

pub least-on : (h : Header) (cs : List Shared) (n : ℕ) (c : Shared) (t : List Rule) → n < length cs → c ≡ get_or cs n c → t ≡ arc_value c → None ≡ hiding_rank h t
    → least_rank h (rules_of (drop n cs)) ≡ least_rank h (rules_of cs) → least_rank h (rules_of (drop (n + 1) cs)) ≡ least_rank h (rules_of cs)
least-on h cs n c t lt e f none inv =
    sym (hiding-none h t (rules_of (drop (n + 1) cs)) (sym none)) ∙ (ap (least_rank h) (sym (rest-read cs n c t lt e f)) ∙ inv)

-- places
places-append : (n : ℕ) (p : Rule → Bool) (t u : List Rule) → places_from n p (t ++ u) ≡ places_from n p t ++ places_from (n + length t) p u
places-append n p [] u = let e : n ≡ n + length {A = Rule} [] = omega arith in ap (λ (k : ℕ). places_from k p u) e
places-append n p (r ∷ t) u =
    let e : suc n + length t ≡ n + length (r ∷ t) = omega arith in
    let rest : places_from (suc n) p (t ++ u) ≡ places_from (suc n) p t ++ places_from (n + length (r ∷ t)) p u =
    places-append (suc n) p t u ∙ ap (λ (k : ℕ). places_from (suc n) p t ++ places_from k p u) e in
    elim (p r) as (λ b. cond b (n ∷ places_from (suc n) p (t ++ u)) (places_from (suc n) p (t ++ u))
    ≡ cond b (n ∷ places_from (suc n) p t) (places_from (suc n) p t) ++ places_from (n + length (r ∷ t)) p u) [
      | true ↦ ap (λ (ks : List ℕ). n ∷ ks) rest
      | false ↦ rest
    ]

pub places-on : (p : Rule → Bool) (cs : List Shared) (n k : ℕ) (c : Shared) (t : List Rule) (found new all : List ℕ) → n < length cs → c ≡ get_or cs n c → t ≡ arc_value c
    → new ≡ found ++ places_from k p t → found ++ places_from k p (rules_of (drop n cs)) ≡ all → new ++ places_from (k + length t) p (rules_of (drop (n + 1) cs)) ≡ all
places-on p cs n k c t found new all lt e f g inv =
    let u = rules_of (drop (n + 1) cs) in
    ap (λ (ks : List ℕ). ks ++ places_from (k + length t) p u) g
    ∙ (append_assoc found (places_from k p t) (places_from (k + length t) p u)
    ∙ (ap (λ (ks : List ℕ). found ++ ks) (sym (places-append k p t u) ∙ ap (places_from k p) (sym (rest-read cs n c t lt e f))) ∙ inv))

low-all : (h : Header) (least : ℕ) (r : Rule) (t u : List Rule) → 0 < length t → r ≡ get_or t 0 r → InOrder (t ++ u) → rank r < least → AllByRecursion (λ s. is_from_rank h least s ≡ false) (t ++ u)
low-all h least r [] u lt e o low = absurd (omega arith)
low-all h least r (s ∷ t) u lt e o low =
    let under : rank s < least = subst (λ (x : Rule). rank x < least) e low in
    (and_left _ _ (lt-leb least (rank s) under), low-rest h least s (t ++ u) under o.0)

pub places-low : (h : Header) (least : ℕ) (cs : List Shared) (n k : ℕ) (c : Shared) (t : List Rule) (r : Rule) (found all : List ℕ) → InOrder (rules_of cs) → n < length cs → c ≡ get_or cs n c
    → t ≡ arc_value c → 0 < length t → r ≡ get_or t 0 r → rank r < least → found ++ places_from k (is_from_rank h least) (rules_of (drop n cs)) ≡ all → found ≡ all
places-low h least cs n k c t r found all o lt e f some g low inv =
    let rest = rest-read cs n c t lt e f in
    let order : InOrder (t ++ rules_of (drop (n + 1) cs)) = subst InOrder rest (order-dropped cs n o) in
    let none = places-none (is_from_rank h least) k (t ++ rules_of (drop (n + 1) cs)) (low-all h least r t (rules_of (drop (n + 1) cs)) some g order low) in
    sym (append-nil found) ∙ (ap (λ (ks : List ℕ). found ++ ks) (sym (ap (places_from k (is_from_rank h least)) rest ∙ none)) ∙ inv)

-- slices
pub slice-on : (m : Matching) (cs : List Shared) (n : ℕ) (c : Shared) (old new all : List Rule) → n < length cs → c ≡ get_or cs n c
    → new ≡ old ++ slice m (arc_value c) → old ++ slice m (rules_of (drop n cs)) ≡ all → new ++ slice m (rules_of (drop (n + 1) cs)) ≡ all
slice-on m cs n c old new all lt e g inv =
    let u = rules_of (drop (n + 1) cs) in
    ap (λ (t : List Rule). t ++ slice m u) g
    ∙ (append_assoc old (slice m (arc_value c)) (slice m u)
    ∙ (ap (λ (t : List Rule). old ++ t) (sym (filter-append (λ r. overlaps m r.matching) (arc_value c) u) ∙ ap (slice m) (sym (rest-read cs n c (arc_value c) lt e refl))) ∙ inv))

pub pushed-rules : (cs new : List Shared) (c : Shared) (t : List Rule) → new ≡ cs ++ c ∷ [] → arc_value c ≡ t → rules_of new ≡ rules_of cs ++ t
pushed-rules cs new c t e f = ap rules_of e ∙ (rules-append cs (c ∷ []) ∙ ap (λ (u : List Rule). rules_of cs ++ u) (append-nil (arc_value c) ∙ f))

some-pushed : (cs : List Shared) (c : Shared) → NoneEmpty cs → 0 < length (arc_value c) → NoneEmpty (cs ++ c ∷ [])
some-pushed [] c a p = (p, tt)
some-pushed (x ∷ cs) c a p = (a.0, some-pushed cs c a.1 p)

pub pushed-some : (cs new : List Shared) (c : Shared) → new ≡ cs ++ c ∷ [] → NoneEmpty cs → 0 < length (arc_value c) → NoneEmpty new
pushed-some cs new c e a p = subst NoneEmpty (sym e) (some-pushed cs c a p)

pub cover-left : (k m : Matching) (t : List Rule) (b : Bool) → IsNormal m → IsNormal k → AllNormal t → IsCover k t → b ≡ overlaps m k → not b ≡ true → slice m t ≡ []
cover-left k m t true p q n a f g = absurd (false≢true g)
cover-left k m t false p q n a f g = sym (none-overlap k m t p q n a (sym f))
