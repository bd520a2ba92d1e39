-- Addresses that agree but for their low bits.
use Rattle.std.proofs.Common.{◌≡◌, ℕ, ◌+◌, ◌-◌, ◌*◌, ◌/◌, ◌^◌, ◌<◌, ◌≤◌, Bool, true, false, cond, sym, ap, subst, ◌∙◌, arith, inl, inr}
use Rattle.std.specs.Prelude.{◌==◌}
use Rattle.std.proofs.lemmas.Bool.{eqb-true}
use Rattle.std.proofs.lemmas.Bool.Decides.{eqb_tells}
use Rattle.std.proofs.lemmas.Nat.{pow-add, pow_pos, div-mul-add}
use Rattle.std.proofs.Math.Nat.{div-div-eq-div-mul, mul-div_cancel, div-lt_iff_lt-mul, mul-le-mul_right, mul_assoc, add-mul}
use Rattle.std.proofs.Math.Pow.{pow-lt}
use Rattle.mon_header.specs.Matching.{agree_above}

agree-more : (a more x z : ℕ) → agree_above a x z ≡ true → x / 2 ^ (a + more) ≡ z / 2 ^ (a + more)
agree-more a more x z e =
    let split : (n : ℕ) → n / 2 ^ (a + more) ≡ n / 2 ^ a / 2 ^ more = λ n. ap (λ (k : ℕ). n / k) (pow-add 2 a more) ∙ sym (div-div-eq-div-mul n (2 ^ a) (2 ^ more)) in
    split x ∙ ap (λ (k : ℕ). k / 2 ^ more) (eqb-true (x / 2 ^ a) (z / 2 ^ a) e) ∙ sym (split z)

-- addresses that agree above a count agree above a larger one
pub agree-up : (a c x z : ℕ) → a ≤ c → agree_above a x z ≡ true → x / 2 ^ c ≡ z / 2 ^ c
agree-up a c x z le e =
    let k : a + (c - a) ≡ c = omega arith in
    subst (λ (n : ℕ). x / 2 ^ n ≡ z / 2 ^ n) k (agree-more a (c - a) x z e)

-- y above the narrow count in units of the wide count's bit, which is below it
floor : ℕ → ℕ → ℕ → ℕ
floor wide narrow y = y / 2 ^ narrow * 2 ^ (narrow - wide)

-- an address that agrees with y above the narrow count, and not with x above the wide one
pub beside : ℕ → ℕ → ℕ → ℕ → ℕ
beside wide narrow x y = (floor wide narrow y + cond (x / 2 ^ wide == floor wide narrow y) 1 0) * 2 ^ wide

next-differs : (a b : ℕ) → a ≡ b + cond (a == b) 1 0 → ⊥
next-differs a b e =
    elim (eqb_tells a b) [
      | inl s ↦ let f : a ≡ b + 1 = rw s.0 at e in omega (arith, s.1, f)
      | inr d ↦ let f : a ≡ b + 0 = rw d.0 at e in d.1 (omega arith)
    ]

pub beside-apart : (wide narrow x y : ℕ) → wide < narrow → x / 2 ^ wide ≡ beside wide narrow x y / 2 ^ wide → ⊥
unfolding beside
beside-apart wide narrow x y lt e =
    let b : ℕ = floor wide narrow y in
    next-differs (x / 2 ^ wide) b (e ∙ mul-div_cancel (b + cond (x / 2 ^ wide == b) 1 0) (pow_pos wide))

one-more : (t : Bool) → cond t 1 0 ≤ 1
one-more true = omega arith
one-more false = omega arith

-- it is y's bits above the narrow count, and something below
beside-parts : (wide narrow x y : ℕ) → wide < narrow
    → beside wide narrow x y ≡ y / 2 ^ narrow * 2 ^ narrow + cond (x / 2 ^ wide == floor wide narrow y) 1 0 * 2 ^ wide
unfolding beside floor
beside-parts wide narrow x y lt =
    let q : ℕ = y / 2 ^ narrow in
    let k : narrow - wide + wide ≡ narrow = omega arith in
    let whole : 2 ^ (narrow - wide) * 2 ^ wide ≡ 2 ^ narrow = sym (pow-add 2 (narrow - wide) wide) ∙ ap (λ (n : ℕ). 2 ^ n) k in
    add-mul (q * 2 ^ (narrow - wide)) (cond (x / 2 ^ wide == q * 2 ^ (narrow - wide)) 1 0) (2 ^ wide)
    ∙ ap (λ (n : ℕ). n + cond (x / 2 ^ wide == q * 2 ^ (narrow - wide)) 1 0 * 2 ^ wide) (mul_assoc q (2 ^ (narrow - wide)) (2 ^ wide) ∙ ap (λ (n : ℕ). q * n) whole)

beside-small : (wide narrow : ℕ) (t : Bool) → wide < narrow → cond t 1 0 * 2 ^ wide < 2 ^ narrow
beside-small wide narrow t lt =
    let p : 2 ^ wide < 2 ^ narrow = pow-lt lt in
    let q : cond t 1 0 * 2 ^ wide ≤ 1 * 2 ^ wide = mul-le-mul_right (2 ^ wide) (one-more t) in
    omega arith

pub beside-agrees : (wide narrow x y : ℕ) → wide < narrow → y / 2 ^ narrow ≡ beside wide narrow x y / 2 ^ narrow
beside-agrees wide narrow x y lt =
    let t : Bool = x / 2 ^ wide == floor wide narrow y in
    sym (ap (λ (n : ℕ). n / 2 ^ narrow) (beside-parts wide narrow x y lt) ∙ div-mul-add (y / 2 ^ narrow) (2 ^ narrow) (cond t 1 0 * 2 ^ wide) (beside-small wide narrow t lt))

-- what is below the narrow count does not reach the next address above it
room : (narrow y : ℕ) → narrow ≤ 32 → y < 2 ^ 32 → y / 2 ^ narrow * 2 ^ narrow + 2 ^ narrow ≤ 2 ^ 32
room narrow y c p =
    let k : 32 - narrow + narrow ≡ 32 = omega arith in
    let whole : 2 ^ (32 - narrow) * 2 ^ narrow ≡ 2 ^ 32 = sym (pow-add 2 (32 - narrow) narrow) ∙ ap (λ (n : ℕ). 2 ^ n) k in
    let q : y / 2 ^ narrow < 2 ^ (32 - narrow) = (div-lt_iff_lt-mul {k = 2 ^ narrow} {x = y} {y = 2 ^ (32 - narrow)} (pow_pos narrow)).1 (subst (λ (n : ℕ). y < n) (sym whole) p) in
    let m : (y / 2 ^ narrow + 1) * 2 ^ narrow ≤ 2 ^ (32 - narrow) * 2 ^ narrow = mul-le-mul_right (2 ^ narrow) (omega arith) in
    let a : (y / 2 ^ narrow + 1) * 2 ^ narrow ≡ y / 2 ^ narrow * 2 ^ narrow + 1 * 2 ^ narrow = add-mul (y / 2 ^ narrow) 1 (2 ^ narrow) in
    omega arith

pub beside-below : (wide narrow x y : ℕ) → wide < narrow → narrow ≤ 32 → y < 2 ^ 32 → beside wide narrow x y < 2 ^ 32
beside-below wide narrow x y lt c p =
    let t : Bool = x / 2 ^ wide == floor wide narrow y in
    omega (arith, beside-parts wide narrow x y lt, beside-small wide narrow t lt, room narrow y c p)
