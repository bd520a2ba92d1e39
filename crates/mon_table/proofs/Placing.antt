-- Where a rule stands in a table, and what an edit does there.
use Rattle.std.proofs.Common.{◌≡◌, ℕ, zero, suc, ◌<◌, ◌≤◌, Bool, true, false, cond, List, [], ◌∷◌, length, get_or, set, Some, None, refl, sym, ap, subst, ◌∙◌, arith}
use Rattle.std.specs.List.{insert, remove, position, position_or_len, AllByRecursion}
use Rattle.std.specs.List.Sorted.{IsPartitionedBy, IsPartitionPoint}
use Rattle.std.proofs.lemmas.List.Elements.{All-from_recursion}
use Rattle.std.proofs.lemmas.Bool.{false≢true, lt-ltb, le-ltb}
use Rattle.mon_header.specs.Matching.{Matching, IsNormal, effective}
use Rattle.mon_table.specs.declared.rule.Rule.{Rule}
use Rattle.mon_table.specs.Rules.{Identity, identity, identity_of, same_identity, comes_before}
use Rattle.mon_table.specs.Tables.{InOrder, AllNormal, IsTable, rule_of, without, placed, with_rule}
use Rattle.mon_table.specs.Places.{place_of, stands_at}
use Rattle.mon_table.proofs.Identities.{same-is, other-turned, comes_before-more, before-other, before-once, other-behind}

-- a search by halves may ask which rules stand before an identity
pub is-partitioned : (i : Identity) (t : List Rule) → InOrder t → IsPartitionedBy (λ r. comes_before (identity_of r) i) t
is-partitioned i [] o m n d le lt e = absurd (omega arith)
is-partitioned i (r ∷ t) o zero zero d le lt e = e
is-partitioned i (r ∷ t) o zero (suc n) d le lt e =
    comes_before-more (identity_of r) (identity_of (get_or t n d)) i (All-from_recursion (λ s. comes_before (identity_of r) (identity_of s) ≡ true) t o.0 n d (omega arith)) e
is-partitioned i (r ∷ t) o (suc m) zero d le lt e = absurd (omega arith)
is-partitioned i (r ∷ t) o (suc m) (suc n) d le lt e = is-partitioned i t o.1 m n d (omega arith) (omega arith) e

-- and what it finds is the number of those
pub place-is : (i : Identity) (t : List Rule) (n : ℕ) → n ≤ length t
    → IsPartitionPoint (λ r. comes_before (identity_of r) i ≡ true) (λ r. comes_before (identity_of r) i ≡ false) t n → n ≡ place_of i t
place-is i [] n le h = omega arith
place-is i (r ∷ t) zero le h = rw (h.1 0 r (omega arith) (omega arith)) refl
place-is i (r ∷ t) (suc n) le h =
    rw (h.0 0 r (omega arith) (omega arith)) (ap suc (place-is i t n (omega arith) (
      λ k d a b. h.0 (suc k) d (omega arith) (omega arith),
      λ k d a b. h.1 (suc k) d (omega arith) (omega arith),
    )))

-- the rule that is read at a place
pub stands-read : (i : Identity) (t : List Rule) (n : ℕ) (d : Rule) → n < length t → stands_at i n t ≡ same_identity (identity_of (get_or t n d)) i
stands-read i [] n d lt = absurd (omega arith)
stands-read i (r ∷ t) zero d lt = refl
stands-read i (r ∷ t) (suc n) d lt = stands-read i t n d (omega arith)

pub stands-at-read : (i : Identity) (t : List Rule) (n : ℕ) (r : Rule) → n < length t → r ≡ get_or t n r → stands_at i n t ≡ same_identity (identity_of r) i
stands-at-read i t n r lt e = stands-read i t n r lt ∙ ap (λ (s : Rule). same_identity (identity_of s) i) (sym e)

pub stands-past : (i : Identity) (t : List Rule) (n : ℕ) → length t ≤ n → stands_at i n t ≡ false
stands-past i [] n le = refl
stands-past i (r ∷ t) zero le = absurd (omega arith)
stands-past i (r ∷ t) (suc n) le = stands-past i t n (omega arith)

-- the identity stands before each of these rules
abbrev pub Behind : Identity → List Rule → Type 0
Behind i t = AllByRecursion (λ s. comes_before i (identity_of s) ≡ true) t

pub behind-more : (i j : Identity) (t : List Rule) → comes_before i j ≡ true → Behind j t → Behind i t
behind-more i j [] e b = tt
behind-more i j (r ∷ t) e b = (comes_before-more i j (identity_of r) e b.0, behind-more i j t e b.1)

behind-same : (i j : Identity) (t : List Rule) → same_identity j i ≡ true → Behind j t → Behind i t
behind-same i j t e b = subst (λ (k : Identity). Behind k t) (same-is j i e) b

pub not-behind : (i : Identity) (r : Rule) → comes_before i (identity_of r) ≡ true → same_identity (identity_of r) i ≡ false
not-behind i r e = other-turned i (identity_of r) (before-other i (identity_of r) e)

without-behind : (i : Identity) (t : List Rule) → Behind i t → without i t ≡ t
without-behind i [] b = refl
without-behind i (r ∷ t) b = rw (not-behind i r b.0) (ap (λ (s : List Rule). r ∷ s) (without-behind i t b.1))

find-behind : (i : Identity) (t : List Rule) → Behind i t → rule_of i t ≡ None
find-behind i [] b = refl
find-behind i (r ∷ t) b = rw (not-behind i r b.0) (find-behind i t b.1)

length-behind : (i : Identity) (t : List Rule) → Behind i t → position_or_len (λ r. same_identity (identity_of r) i) t ≡ length t
length-behind i [] b = refl
length-behind i (r ∷ t) b = rw (not-behind i r b.0) (let n = length-behind i t b.1 in omega arith)

placed-behind : (r : Rule) (t : List Rule) → Behind (identity_of r) t → placed r t ≡ r ∷ t
placed-behind r [] b = refl
placed-behind r (s ∷ t) b = rw (before-once (identity_of r) (identity_of s) b.0) refl

-- the rules from one that does not stand before the identity on, but for that one where it is of the identity
behind-found : (i : Identity) (r : Rule) (t : List Rule) → InOrder (r ∷ t) → same_identity (identity_of r) i ≡ true → Behind i t
behind-found i r t o s = behind-same i (identity_of r) t s o.0

behind-absent : (i : Identity) (r : Rule) (t : List Rule) → IsNormal i.matching → AllNormal (r ∷ t) → InOrder (r ∷ t) → comes_before (identity_of r) i ≡ false
    → same_identity (identity_of r) i ≡ false → Behind i (r ∷ t)
behind-absent i r t m n o e s =
    let first : comes_before i (identity_of r) ≡ true = other-behind (identity_of r) i n.0 m e s in
    (first, behind-more i (identity_of r) t first o.0)

-- a rule of the identity stands at its place
pub found-set : (r : Rule) (t : List Rule) → InOrder t → stands_at (identity_of r) (place_of (identity_of r) t) t ≡ true
    → set t (place_of (identity_of r) t) r ≡ with_rule r t
found-set r [] o s = absurd (false≢true s)
found-set r (x ∷ t) o s =
    elim (comes_before (identity_of x) (identity_of r)) as (λ b. comes_before (identity_of x) (identity_of r) ≡ b → stands_at (identity_of r) (cond b (suc (place_of (identity_of r) t)) 0) (x ∷ t) ≡ true
    → set (x ∷ t) (cond b (suc (place_of (identity_of r) t)) 0) r ≡ with_rule r (x ∷ t)) [
      | true ↦ λ e h. rw (before-other (identity_of x) (identity_of r) e, e) (ap (λ (u : List Rule). x ∷ u) (found-set r t o.1 h))
      | false ↦ λ e h.
          let b : Behind (identity_of r) t = behind-found (identity_of r) x t o h in
          rw (h, without-behind (identity_of r) t b, placed-behind r t b) refl
    ] refl s

pub found-remove : (i : Identity) (t : List Rule) → InOrder t → stands_at i (place_of i t) t ≡ true → remove t (place_of i t) ≡ without i t
found-remove i [] o s = absurd (false≢true s)
found-remove i (x ∷ t) o s =
    elim (comes_before (identity_of x) i) as (λ b. comes_before (identity_of x) i ≡ b → stands_at i (cond b (suc (place_of i t)) 0) (x ∷ t) ≡ true
    → remove (x ∷ t) (cond b (suc (place_of i t)) 0) ≡ without i (x ∷ t)) [
      | true ↦ λ e h. rw (before-other (identity_of x) i e) (ap (λ (u : List Rule). x ∷ u) (found-remove i t o.1 h))
      | false ↦ λ e h. rw (h, without-behind i t (behind-found i x t o h)) refl
    ] refl s

pub found-rule : (i : Identity) (t : List Rule) (d : Rule) → InOrder t → stands_at i (place_of i t) t ≡ true → rule_of i t ≡ Some (get_or t (place_of i t) d)
found-rule i [] d o s = absurd (false≢true s)
found-rule i (x ∷ t) d o s =
    elim (comes_before (identity_of x) i) as (λ b. comes_before (identity_of x) i ≡ b → stands_at i (cond b (suc (place_of i t)) 0) (x ∷ t) ≡ true
    → rule_of i (x ∷ t) ≡ Some (get_or (x ∷ t) (cond b (suc (place_of i t)) 0) d)) [
      | true ↦ λ e h. rw (before-other (identity_of x) i e) (found-rule i t d o.1 h)
      | false ↦ λ e h. rw h refl
    ] refl s

found-place : (i : Identity) (t : List Rule) → InOrder t → stands_at i (place_of i t) t ≡ true
    → (position_or_len (λ r. same_identity (identity_of r) i) t ≡ place_of i t) × (place_of i t < length t)
found-place i [] o s = absurd (false≢true s)
found-place i (x ∷ t) o s =
    elim (comes_before (identity_of x) i) as (λ b. comes_before (identity_of x) i ≡ b → stands_at i (cond b (suc (place_of i t)) 0) (x ∷ t) ≡ true
    → (position_or_len (λ r. same_identity (identity_of r) i) (x ∷ t) ≡ cond b (suc (place_of i t)) 0) × (cond b (suc (place_of i t)) 0 < suc (length t))) [
      | true ↦ λ e h. let f = found-place i t o.1 h in rw (before-other (identity_of x) i e) (omega arith, omega arith)
      | false ↦ λ e h. rw h (refl, omega arith)
    ] refl s

pub found-position : (i : Identity) (t : List Rule) → InOrder t → stands_at i (place_of i t) t ≡ true
    → position (λ r. same_identity (identity_of r) i) t ≡ Some (place_of i t)
found-position i t o s =
    let f = found-place i t o s in
    rw (f.0, lt-ltb (place_of i t) (length t) f.1) refl

-- no rule of the identity stands there
module _ (i : Identity) (m : IsNormal i.matching) where
  pub absent-without : (t : List Rule) → AllNormal t → InOrder t → stands_at i (place_of i t) t ≡ false → without i t ≡ t
  absent-without [] n o s = refl
  absent-without (x ∷ t) n o s =
      elim (comes_before (identity_of x) i) as (λ b. comes_before (identity_of x) i ≡ b → stands_at i (cond b (suc (place_of i t)) 0) (x ∷ t) ≡ false → without i (x ∷ t) ≡ x ∷ t) [
        | true ↦ λ e h. rw (before-other (identity_of x) i e) (ap (λ (u : List Rule). x ∷ u) (absent-without t n.1 o.1 h))
        | false ↦ λ e h. without-behind i (x ∷ t) (behind-absent i x t m n o e h)
      ] refl s

  pub absent-rule : (t : List Rule) → AllNormal t → InOrder t → stands_at i (place_of i t) t ≡ false → rule_of i t ≡ None
  absent-rule [] n o s = refl
  absent-rule (x ∷ t) n o s =
      elim (comes_before (identity_of x) i) as (λ b. comes_before (identity_of x) i ≡ b → stands_at i (cond b (suc (place_of i t)) 0) (x ∷ t) ≡ false → rule_of i (x ∷ t) ≡ None) [
        | true ↦ λ e h. rw (before-other (identity_of x) i e) (absent-rule t n.1 o.1 h)
        | false ↦ λ e h. find-behind i (x ∷ t) (behind-absent i x t m n o e h)
      ] refl s

  absent-length : (t : List Rule) → AllNormal t → InOrder t → stands_at i (place_of i t) t ≡ false → position_or_len (λ r. same_identity (identity_of r) i) t ≡ length t
  absent-length [] n o s = refl
  absent-length (x ∷ t) n o s =
      elim (comes_before (identity_of x) i) as (λ b. comes_before (identity_of x) i ≡ b → stands_at i (cond b (suc (place_of i t)) 0) (x ∷ t) ≡ false
      → position_or_len (λ r. same_identity (identity_of r) i) (x ∷ t) ≡ suc (length t)) [
        | true ↦ λ e h. let f = absent-length t n.1 o.1 h in rw (before-other (identity_of x) i e) (omega arith)
        | false ↦ λ e h. length-behind i (x ∷ t) (behind-absent i x t m n o e h)
      ] refl s

  pub absent-position : (t : List Rule) → AllNormal t → InOrder t → stands_at i (place_of i t) t ≡ false
      → position (λ r. same_identity (identity_of r) i) t ≡ None
  absent-position t n o s = rw (absent-length t n o s, le-ltb (length t) (length t) (omega arith)) refl

pub absent-insert : (r : Rule) (t : List Rule) → IsNormal r.matching → AllNormal t → InOrder t → stands_at (identity_of r) (place_of (identity_of r) t) t ≡ false
    → insert t (place_of (identity_of r) t) r ≡ with_rule r t
absent-insert r [] m n o s = refl
absent-insert r (x ∷ t) m n o s =
    elim (comes_before (identity_of x) (identity_of r)) as (λ b. comes_before (identity_of x) (identity_of r) ≡ b → stands_at (identity_of r) (cond b (suc (place_of (identity_of r) t)) 0) (x ∷ t) ≡ false
    → insert (x ∷ t) (cond b (suc (place_of (identity_of r) t)) 0) r ≡ with_rule r (x ∷ t)) [
      | true ↦ λ e h. rw (before-other (identity_of x) (identity_of r) e, e) (ap (λ (u : List Rule). x ∷ u) (absent-insert r t m n.1 o.1 h))
      | false ↦ λ e h.
          let b : Behind (identity_of r) (x ∷ t) = behind-absent (identity_of r) x t m n o e h in
          rw (without-behind (identity_of r) (x ∷ t) b, placed-behind r (x ∷ t) b) refl
    ] refl s

-- what a search and a look at the place that it gives say of an identity
pub record Searched (i : Identity) (t : List Rule) (n : ℕ) (b : Bool) : Type 0 where
  pub place : n ≡ place_of i t
  pub stands : stands_at i (place_of i t) t ≡ b

pub searched : (k : ℕ) (m : Matching) (p : ℕ) (t s u : List Rule) (n : ℕ) (b c : Bool) → k ≡ effective m p → s ≡ t → u ≡ t
    → n ≡ place_of (record { rank = k; matching = m }) s → b ≡ stands_at (record { rank = k; matching = m }) n u → b ≡ c → Searched (identity m p) t n c
searched k m p t s u n b c e f g h l d =
    let same : (let x : Identity = record { rank = k; matching = m } in x) ≡ identity m p = ap (λ (x : ℕ). let y : Identity = record { rank = x; matching = m } in y) e in
    let at : n ≡ place_of (identity m p) t = h ∙ (ap (λ (x : Identity). place_of x s) same ∙ ap (place_of (identity m p)) f) in
    record {
      place = at;
      stands = ap (λ (x : ℕ). stands_at (identity m p) x t) (sym at) ∙ (ap (stands_at (identity m p) n) (sym g) ∙ (ap (λ (x : Identity). stands_at x n u) (sym same) ∙ (sym l ∙ d)));
    }

-- of a place and a look at it
pub found-at : (i : Identity) (t : List Rule) (n : ℕ) (b c : Bool) → n ≡ place_of i t → b ≡ stands_at i n t → b ≡ c → Searched i t n c
found-at i t n b c e f g = record { place = e; stands = ap (λ (k : ℕ). stands_at i k t) (sym e) ∙ (sym f ∙ g) }

pub put-set : (r x : Rule) (t : List Rule) (n : ℕ) → IsTable t → x ≡ r → Searched (identity_of r) t n true → set t n x ≡ with_rule r t
put-set r x t n table e f = ap (set t n) e ∙ (ap (λ (k : ℕ). set t k r) f.place ∙ found-set r t table.order f.stands)

pub put-insert : (r : Rule) (t : List Rule) (n : ℕ) → IsTable t → IsNormal r.matching → Searched (identity_of r) t n false → insert t n r ≡ with_rule r t
put-insert r t n table m f = ap (λ (k : ℕ). insert t k r) f.place ∙ absent-insert r t m table.normal table.order f.stands

pub cut-remove : (i : Identity) (t : List Rule) (n : ℕ) → IsTable t → Searched i t n true → remove t n ≡ without i t
cut-remove i t n table f = ap (remove t) f.place ∙ found-remove i t table.order f.stands

pub cut-none : (i : Identity) (t : List Rule) (n : ℕ) → IsTable t → IsNormal i.matching → Searched i t n false → t ≡ without i t
cut-none i t n table m f = sym (absent-without i m t table.normal table.order f.stands)

pub old-found : (i : Identity) (t : List Rule) (n : ℕ) (d x : Rule) → IsTable t → x ≡ get_or t n d → Searched i t n true → Some x ≡ rule_of i t
old-found i t n d x table e f = ap Some e ∙ (ap (λ (k : ℕ). Some (get_or t k d)) f.place ∙ sym (found-rule i t d table.order f.stands))

pub old-none : (i : Identity) (t : List Rule) (n : ℕ) → IsTable t → IsNormal i.matching → Searched i t n false → None ≡ rule_of i t
old-none i t n table m f = sym (absent-rule i m t table.normal table.order f.stands)

pub place-found : (i : Identity) (t : List Rule) (n : ℕ) → IsTable t → Searched i t n true → Some n ≡ position (λ r. same_identity (identity_of r) i) t
place-found i t n table f = ap Some f.place ∙ sym (found-position i t table.order f.stands)

pub place-none : (i : Identity) (t : List Rule) (n : ℕ) → IsTable t → IsNormal i.matching → Searched i t n false → None ≡ position (λ r. same_identity (identity_of r) i) t
place-none i t n table m f = sym (absent-position i m t table.normal table.order f.stands)
