-- One match covers another exactly where it takes each header within range that the other takes.
use Rattle.std.proofs.Common.{◌≡◌, ℕ, ◌/◌, ◌^◌, ◌<◌, ◌≤◌, ◌↔◌, Bool, true, false, cond, refl, sym, subst, ◌∙◌, arith, inl, inr}
use Rattle.std.specs.Prelude.{◌==◌, nat_le, ◌&&◌}
use Rattle.std.proofs.lemmas.Bool.{eqb-true, eq-eqb}
use Rattle.std.proofs.lemmas.Bool.Decides.{leb_tells, nat_tests}
use Rattle.mon_header.specs.declared.header.Header.{Header}
use Rattle.mon_header.specs.Matching.{Matching, IsNormal, agree_above, takes, covers_field, covers_address, matches, covers}
use Rattle.mon_header.specs.Laws.{TakesAllOf}
use Rattle.mon_header.proofs.Agreeing.{agree-up, beside, beside-apart, beside-agrees, beside-below}
use Rattle.mon_header.proofs.Fields.{each, drawn, drawn-is, drawn-below, pairs, left, right}

-- a value that the narrow match takes, and another than the wide one's where the narrow one does not compare the field
tell : Bool → ℕ → ℕ → ℕ
tell narrow x y = cond narrow (cond (x == 0) 1 0) y

-- the same of an address: where the narrow one compares less, its own or the one beside it in the first bit that only
-- the wide one compares
tell_address : ℕ → ℕ → ℕ → ℕ → ℕ
tell_address wide narrow x y = cond (nat_le narrow wide) y (beside wide narrow x y)

tell-below : (narrow : Bool) (x y n : ℕ) → y < n → 1 < n → tell narrow x y < n
unfolding tell
tell-below true x y n p q = elim (x == 0) as (λ t. cond t 1 0 < n) [ true ↦ q | false ↦ omega arith ]
tell-below false x y n p q = p

tell-narrow : (narrow : Bool) (x y : ℕ) → takes narrow y (tell narrow x y) ≡ true
unfolding takes tell
tell-narrow true x y = refl
tell-narrow false x y = eq-eqb y y refl

other : (x : ℕ) → (x == cond (x == 0) 1 0) ≡ false
other x = grind (arith, nat_tests)

tell-covers : (wide narrow : Bool) (x y : ℕ) → takes wide x (tell narrow x y) ≡ true → covers_field wide narrow x y ≡ true
unfolding takes tell covers_field
tell-covers true narrow x y e = refl
tell-covers false true x y e = sym (other x) ∙ e
tell-covers false false x y e = e

covers-takes : (wide narrow : Bool) (x y z : ℕ) → covers_field wide narrow x y ≡ true → takes narrow y z ≡ true → takes wide x z ≡ true
unfolding takes covers_field
covers-takes true narrow x y z p q = refl
covers-takes false true x y z p q = absurd cc
covers-takes false false x y z p q = eq-eqb x z (eqb-true x y p ∙ eqb-true y z q)

address-below : (wide narrow x y : ℕ) → narrow ≤ 32 → y < 2 ^ 32 → tell_address wide narrow x y < 2 ^ 32
unfolding tell_address
address-below wide narrow x y c p =
    elim (leb_tells narrow wide) [
      | inl le ↦ rw le.0 p
      | inr gt ↦ rw gt.0 (beside-below wide narrow x y gt.1 c p)
    ]

address-narrow : (wide narrow x y : ℕ) → agree_above narrow y (tell_address wide narrow x y) ≡ true
unfolding tell_address
address-narrow wide narrow x y =
    elim (leb_tells narrow wide) [
      | inl le ↦ rw le.0 (eq-eqb (y / 2 ^ narrow) (y / 2 ^ narrow) refl)
      | inr gt ↦ rw gt.0 (eq-eqb (y / 2 ^ narrow) (beside wide narrow x y / 2 ^ narrow) (beside-agrees wide narrow x y gt.1))
    ]

address-covers : (wide narrow x y : ℕ) → agree_above wide x (tell_address wide narrow x y) ≡ true → covers_address wide narrow x y ≡ true
unfolding tell_address covers_address
address-covers wide narrow x y e =
    elim (leb_tells narrow wide) as (λ s. agree_above wide x (cond (nat_le narrow wide) y (beside wide narrow x y)) ≡ true → (nat_le narrow wide && agree_above wide x y) ≡ true) [
      | inl le ↦ rw le.0 (λ h. h)
      | inr gt ↦ rw gt.0 (λ h. absurd (beside-apart wide narrow x y gt.1 (eqb-true (x / 2 ^ wide) (beside wide narrow x y / 2 ^ wide) h)))
    ] e

address-takes : (wide narrow x y z : ℕ) → covers_address wide narrow x y ≡ true → agree_above narrow y z ≡ true → agree_above wide x z ≡ true
unfolding covers_address
address-takes wide narrow x y z p q =
    elim (leb_tells narrow wide) as (λ s. (nat_le narrow wide && agree_above wide x y) ≡ true → agree_above wide x z ≡ true) [
      | inl le ↦ rw le.0 (λ h. eq-eqb (x / 2 ^ wide) (z / 2 ^ wide) (eqb-true (x / 2 ^ wide) (y / 2 ^ wide) h ∙ agree-up narrow wide y z le.1 q))
      | inr gt ↦ rw gt.0 (λ h. absurd cc)
    ] p

-- a header that the narrow match takes, and the wide one only where it covers it
telling : Matching → Matching → Header
telling = drawn (λ v w. tell w) tell_address

to-all : (w n : Matching) → covers w n ≡ true → TakesAllOf w n
unfolding covers
to-all w n e = λ (h : Header) range m.
    (left w n h).1 (each _ _ _ _ _ _ w n h covers-takes address-takes ((pairs covers_field covers_address w n h).0 e) ((right w n h).0 m))

telling-narrow : (w n : Matching) → matches n (telling w n) ≡ true
unfolding telling
telling-narrow w n =
    let is = drawn-is (λ v w. tell w) tell_address w n in
    (right w n (telling w n)).1 (each _ _ _ _ _ _ w n (telling w n)
    (λ v w x y z p q. rw p (tell-narrow w x y))
    (λ v w x y z p q. rw p (address-narrow v w x y))
    is is)

telling-covers : (w n : Matching) → matches w (telling w n) ≡ true → covers w n ≡ true
unfolding telling covers
telling-covers w n t =
    let is = drawn-is (λ v w. tell w) tell_address w n in
    (pairs covers_field covers_address w n (telling w n)).1 (each _ _ _ _ _ _ w n (telling w n)
    (λ v w x y z p q. tell-covers v w x y (subst (λ (n : ℕ). takes v x n ≡ true) p q))
    (λ v w x y z p q. address-covers v w x y (subst (λ (n : ℕ). agree_above v x n ≡ true) p q))
    is ((left w n (telling w n)).0 t))

from-all : (w n : Matching) → IsNormal w → IsNormal n → TakesAllOf w n → covers w n ≡ true
unfolding telling
from-all w n p q all =
    let below = drawn-below (λ v w. tell w) tell_address w n
    (λ v w x y n a b c. tell-below w x y n b c)
    (λ v w x y a b c. address-below v w x y a c) p q in
    telling-covers w n (all (telling w n) below (telling-narrow w n))

pub cover-law : (w n : Matching) → IsNormal w → IsNormal n → (covers w n ≡ true) ↔ TakesAllOf w n
cover-law w n p q = (to-all w n, from-all w n p q)

-- the law
pub ruleset covering = (cover-law)
