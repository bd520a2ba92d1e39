-- Two matches overlap exactly where a header within range is taken by both.
use Rattle.std.proofs.Common.{◌≡◌, ℕ, ◌/◌, ◌^◌, ◌<◌, ◌≤◌, ◌↔◌, Bool, true, false, cond, refl, sym, subst, ◌∙◌, arith, inl, inr}
use Rattle.std.specs.Prelude.{nat_le, max}
use Rattle.std.proofs.lemmas.Bool.{eqb-true, eq-eqb}
use Rattle.std.proofs.lemmas.Bool.Decides.{leb_tells}
use Rattle.mon_header.specs.declared.header.Header.{Header}
use Rattle.mon_header.specs.Matching.{Matching, IsNormal, agree_above, takes, overlaps_field, overlaps_address, matches, overlaps}
use Rattle.mon_header.specs.Laws.{ShareHeader}
use Rattle.mon_header.proofs.Agreeing.{agree-up}
use Rattle.mon_header.proofs.Fields.{each, drawn, drawn-is, drawn-below, pairs, left, right}

-- the value that both take of a plain field: the one that is compared
pick : Bool → ℕ → ℕ → ℕ
pick wild x y = cond wild y x

-- the address that both take: the one of which more bits are compared
pick_address : ℕ → ℕ → ℕ → ℕ → ℕ
pick_address a b x y = cond (nat_le a b) x y

pick-below : (wild : Bool) (x y n : ℕ) → x < n → y < n → pick wild x y < n
unfolding pick
pick-below true x y n p q = q
pick-below false x y n p q = p

address-below : (a b x y n : ℕ) → x < n → y < n → pick_address a b x y < n
unfolding pick_address
address-below a b x y n p q = elim (nat_le a b) as (λ t. cond t x y < n) [ true ↦ p | false ↦ q ]

pick-left : (a b : Bool) (x y : ℕ) → takes a x (pick a x y) ≡ true
unfolding takes pick
pick-left true b x y = refl
pick-left false b x y = eq-eqb x x refl

pick-right : (a b : Bool) (x y : ℕ) → overlaps_field a b x y ≡ true → takes b y (pick a x y) ≡ true
unfolding takes pick overlaps_field
pick-right a true x y e = refl
pick-right true false x y e = eq-eqb y y refl
pick-right false false x y e = eq-eqb y x (sym (eqb-true x y e))

pick-both : (a b : Bool) (x y z : ℕ) → takes a x z ≡ true → takes b y z ≡ true → overlaps_field a b x y ≡ true
unfolding takes overlaps_field
pick-both true b x y z p q = refl
pick-both false true x y z p q = refl
pick-both false false x y z p q = eq-eqb x y (eqb-true x z p ∙ sym (eqb-true y z q))

address-left : (a b x y : ℕ) → overlaps_address a b x y ≡ true → agree_above a x (pick_address a b x y) ≡ true
unfolding pick_address overlaps_address
address-left a b x y e =
    elim (leb_tells a b) [
      | inl le ↦ rw le.0 (eq-eqb (x / 2 ^ a) (x / 2 ^ a) refl)
      | inr gt ↦ let m : max a b ≡ a = omega (arith, gt.1) in rw gt.0 (subst (λ (n : ℕ). agree_above n x y ≡ true) m e)
    ]

address-right : (a b x y : ℕ) → overlaps_address a b x y ≡ true → agree_above b y (pick_address a b x y) ≡ true
unfolding pick_address overlaps_address
address-right a b x y e =
    elim (leb_tells a b) [
      | inl le ↦
          let m : max a b ≡ b = omega (arith, le.1) in
          let same : agree_above b x y ≡ true = subst (λ (n : ℕ). agree_above n x y ≡ true) m e in
          rw le.0 (eq-eqb (y / 2 ^ b) (x / 2 ^ b) (sym (eqb-true (x / 2 ^ b) (y / 2 ^ b) same)))
      | inr gt ↦ rw gt.0 (eq-eqb (y / 2 ^ b) (y / 2 ^ b) refl)
    ]

address-both : (a b x y z : ℕ) → agree_above a x z ≡ true → agree_above b y z ≡ true → overlaps_address a b x y ≡ true
unfolding overlaps_address
address-both a b x y z p q =
    let la : a ≤ max a b = omega arith in
    let lb : b ≤ max a b = omega arith in
    eq-eqb (x / 2 ^ max a b) (y / 2 ^ max a b) (agree-up a (max a b) x z la p ∙ sym (agree-up b (max a b) y z lb q))

-- the header that both take
shared : Matching → Matching → Header
shared = drawn (λ v w. pick v) pick_address

to-shared : (a b : Matching) → IsNormal a → IsNormal b → overlaps a b ≡ true → ShareHeader a b
unfolding shared overlaps
to-shared a b p q e =
    let is = drawn-is (λ v w. pick v) pick_address a b in
    let both = (pairs overlaps_field overlaps_address a b (shared a b)).0 e in (
      shared a b,
      drawn-below (λ v w. pick v) pick_address a b (λ v w x y n c d e. pick-below v x y n c d) (λ v w x y c d e. address-below v w x y (2 ^ 32) d e) p q,
      (left a b (shared a b)).1 (each _ _ _ _ _ _ a b (shared a b)
          (λ v w x y z i o. rw i (pick-left v w x y))
          (λ v w x y z i o. rw i (address-left v w x y o))
          is both),
      (right a b (shared a b)).1 (each _ _ _ _ _ _ a b (shared a b)
          (λ v w x y z i o. rw i (pick-right v w x y o))
          (λ v w x y z i o. rw i (address-right v w x y o))
          is both),
    )

-- what two matches take, they overlap in, be it within range or not
pub both-taken : (a b : Matching) (h : Header) → matches a h ≡ true → matches b h ≡ true → overlaps a b ≡ true
unfolding overlaps
both-taken a b h p q =
    (pairs overlaps_field overlaps_address a b h).1 (each _ _ _ _ _ _ a b h pick-both address-both ((left a b h).0 p) ((right a b h).0 q))

pub overlap-law : (a b : Matching) → IsNormal a → IsNormal b → (overlaps a b ≡ true) ↔ ShareHeader a b
overlap-law a b p q = (to-shared a b p q, λ s. both-taken a b s.0 s.2 s.3)

-- the law
pub ruleset sharing = (overlap-law)
