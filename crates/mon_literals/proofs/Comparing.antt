-- The literals of a run compare a part of a field with a number.
use Rattle.std.proofs.Common.{◌≡◌, ℕ, zero, suc, ◌+◌, ◌-◌, ◌*◌, ◌/◌, ◌%◌, ◌^◌, ◌<◌, ◌≤◌, Bool, true, not, cond, refl, sym, ap, ◌∙◌, subst, ⊎_elim, arith}
use Rattle.std.specs.Prelude.{◌==◌, ◌&&◌}
use Rattle.std.specs.List.{list_all}
use Rattle.std.proofs.Math.Nat.{div-one, mod-eq_of_lt}
use Rattle.std.proofs.lemmas.Nat.{shr-shr, mod-pow-add, shr_below, pow_pos}
use Rattle.std.proofs.lemmas.Bool.{eq-eqb, ne_eqb, cases_eq, and_from, and_left, and_right}
use Rattle.mon_cnf.specs.Truth.{lit_true}
use Rattle.mon_header.specs.Wild.{bit}
use Rattle.mon_header.specs.Places.{bits_of}
use Rattle.mon_literals.specs.Runs.{run, valued, spelled}

-- the values from a variable on are the low bits of a number, the highest of them first
record HasBits (v : ℕ → Bool) (start count x : ℕ) : Type 0 where
  each : (n : ℕ) → n < count → v (start + n) ≡ bit x (count - 1 - n)

-- two bits agree
abbrev agree : Bool → Bool → Bool
agree a b = cond a b (not b)

digits_agree : (a b : ℕ) → a < 2 → b < 2 → agree (a == 1) (b == 1) ≡ (a == b)
digits_agree zero zero p q = refl
digits_agree zero (suc zero) p q = refl
digits_agree (suc zero) zero p q = refl
digits_agree (suc zero) (suc zero) p q = refl
digits_agree (suc (suc a)) b p q = absurd (omega arith)
digits_agree zero (suc (suc b)) p q = absurd (omega arith)
digits_agree (suc zero) (suc (suc b)) p q = absurd (omega arith)

-- numbers with different highest digits are not equal
apart : (p a b r s : ℕ) → a < 2 → b < 2 → r < p → s < p → (a ≡ b → ⊥) → a * p + r ≡ b * p + s → ⊥
apart p zero zero r s x y h k e f = e refl
apart p zero (suc zero) r s x y h k e f = omega arith
apart p (suc zero) zero r s x y h k e f = omega arith
apart p (suc zero) (suc zero) r s x y h k e f = e refl
apart p (suc (suc a)) b r s x y h k e f = omega arith
apart p zero (suc (suc b)) r s x y h k e f = omega arith
apart p (suc zero) (suc (suc b)) r s x y h k e f = omega arith

-- two numbers are equal where their highest digits and what is below are
digit_above : (p a b r s : ℕ) → a < 2 → b < 2 → r < p → s < p → ((a == b) && (r == s)) ≡ (a * p + r == b * p + s)
digit_above p a b r s x y h k =
    ⊎_elim
    (λ (e : a ≡ b).
    let m : a * p ≡ b * p = ap (λ (n : ℕ). n * p) e in
    ⊎_elim
    (λ (f : r ≡ s). and_from _ _ (eq-eqb a b e) (eq-eqb r s f) ∙ sym (eq-eqb (a * p + r) (b * p + s) (omega arith)))
    (λ (f : r ≡ s → ⊥). and_right _ _ (ne_eqb r s f) ∙ sym (ne_eqb (a * p + r) (b * p + s) (λ g. f (omega arith))))
    (cases_eq r s))
    (λ (e : a ≡ b → ⊥). and_left _ _ (ne_eqb a b e) ∙ sym (ne_eqb (a * p + r) (b * p + s) (apart p a b r s x y h k e)))
    (cases_eq a b)

-- two numbers have the same low bits where the highest of these and those below agree
bits_above : (a x n : ℕ) → (agree (bit a n) (bit x n) && (a % 2 ^ n == x % 2 ^ n)) ≡ (a % 2 ^ suc n == x % 2 ^ suc n)
bits_above a x n =
    let next : 1 + n ≡ suc n = omega arith in
    let one : a % 2 ^ suc n ≡ a / 2 ^ n % 2 * 2 ^ n + a % 2 ^ n = ap (λ (k : ℕ). a % 2 ^ k) (sym next) ∙ mod-pow-add a 1 n in
    let other : x % 2 ^ suc n ≡ x / 2 ^ n % 2 * 2 ^ n + x % 2 ^ n = ap (λ (k : ℕ). x % 2 ^ k) (sym next) ∙ mod-pow-add x 1 n in
    let room : 0 < 2 ^ n = pow_pos n in
    ap (λ (b : Bool). b && (a % 2 ^ n == x % 2 ^ n)) (digits_agree (a / 2 ^ n % 2) (x / 2 ^ n % 2) (omega arith) (omega arith))
    ∙ digit_above (2 ^ n) (a / 2 ^ n % 2) (x / 2 ^ n % 2) (a % 2 ^ n) (x % 2 ^ n) (omega arith) (omega arith) (omega arith) (omega arith)
    ∙ ap (λ (m : ℕ). m == x / 2 ^ n % 2 * 2 ^ n + x % 2 ^ n) (sym one)
    ∙ ap (λ (m : ℕ). a % 2 ^ suc n == m) (sym other)

none_left : (a x : ℕ) → true ≡ (a % 2 ^ 0 == x % 2 ^ 0)
none_left a x = sym (eq-eqb (a % 2 ^ 0) (x % 2 ^ 0) (omega arith))

-- the values behind the first are the bits below
behind : (v : ℕ → Bool) (start count x : ℕ) → HasBits v start (suc count) x → HasBits v (suc start) count x
behind v start count x h = record {
  each = λ n p.
      let place : suc start + n ≡ start + suc n = omega arith in
      let below : suc count - 1 - suc n ≡ count - 1 - n = omega arith in
      ap v place ∙ h.each (suc n) (omega arith) ∙ ap (bit x) below;
}

first_bit : (v : ℕ → Bool) (start count x : ℕ) → HasBits v start (suc count) x → v start ≡ bit x count
first_bit v start count x h =
    let place : start ≡ start + 0 = omega arith in
    let top : suc count - 1 - 0 ≡ count = omega arith in
    ap v place ∙ h.each 0 (omega arith) ∙ ap (bit x) top

bits_true : (v : ℕ → Bool) (start count a x : ℕ) → HasBits v start count x
    → list_all (lit_true v) (valued start (bits_of count a)) ≡ (a % 2 ^ count == x % 2 ^ count)
bits_true v start zero a x h = none_left a x
bits_true v start (suc count) a x h =
    ap (λ (b : Bool). agree (bit a count) b && list_all (lit_true v) (valued (suc start) (bits_of count a))) (first_bit v start count x h)
    ∙ ap (λ (b : Bool). agree (bit a count) (bit x count) && b) (bits_true v (suc start) count a x (behind v start count x h))
    ∙ bits_above a x count

-- the values from a variable on are a field's bits, the highest of them first
pub record HasField (v : ℕ → Bool) (start count x : ℕ) : Type 0 where
  pub fits : x < 2 ^ count
  pub each : (n : ℕ) → n < count → v (start + n) ≡ bit x (count - 1 - n)

-- a part of a field is a number of its own
part : (v : ℕ → Bool) (start count x off n : ℕ) → off + n ≤ count → HasField v start count x → HasBits v (start + off) n (x / 2 ^ (count - off - n))
part v start count x off n h f = record {
  each = λ k p.
      let low : ℕ = count - off - n in
      let place : start + off + k ≡ start + (off + k) = omega arith in
      let above : count - 1 - (off + k) ≡ low + (n - 1 - k) = omega arith in
      ap v place
      ∙ f.each (off + k) (omega arith)
      ∙ ap (bit x) above
      ∙ ap (λ (m : ℕ). m % 2 == 1) (sym (shr-shr x low (n - 1 - k)));
}

pub part_true : (v : ℕ → Bool) (start count x off n a : ℕ) → HasField v start count x → off + n ≤ count → a < 2 ^ n
    → list_all (lit_true v) (spelled (run (start + off) n a)) ≡ (a == x / 2 ^ (count - off - n) % 2 ^ n)
part_true v start count x off n a f h small =
    bits_true v (start + off) n a (x / 2 ^ (count - off - n)) (part v start count x off n h f)
    ∙ ap (λ (m : ℕ). m == x / 2 ^ (count - off - n) % 2 ^ n) (mod-eq_of_lt small)

-- the top bits of a field
pub top_true : (v : ℕ → Bool) (start count x n a : ℕ) → HasField v start count x → n ≤ count → a < 2 ^ n
    → list_all (lit_true v) (spelled (run start n a)) ≡ (a == x / 2 ^ (count - n))
top_true v start count x n a f h small =
    let place : start ≡ start + 0 = omega arith in
    let left : count - 0 - n ≡ count - n = omega arith in
    let whole : n + (count - n) ≡ count = omega arith in
    let below : x / 2 ^ (count - n) < 2 ^ n = shr_below x n (count - n) (subst (λ (k : ℕ). x < 2 ^ k) (sym whole) f.fits) in
    ap (λ (k : ℕ). list_all (lit_true v) (spelled (run k n a))) place
    ∙ part_true v start count x 0 n a f (omega arith) small
    ∙ ap (λ (k : ℕ). a == x / 2 ^ k % 2 ^ n) left
    ∙ ap (λ (m : ℕ). a == m) (mod-eq_of_lt below)

-- a whole field
pub field_true : (v : ℕ → Bool) (start count x a : ℕ) → HasField v start count x → a < 2 ^ count
    → list_all (lit_true v) (spelled (run start count a)) ≡ (a == x)
field_true v start count x a f small =
    let none : count - count ≡ 0 = omega arith in
    top_true v start count x count a f (omega arith) small
    ∙ ap (λ (k : ℕ). a == x / 2 ^ k) none
    ∙ ap (λ (m : ℕ). a == m) (div-one x)
