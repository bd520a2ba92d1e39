-- Bits of numbers, of fields that stand one after the other, and the numbers of bits.
use Rattle.std.proofs.Common.{◌≡◌, ℕ, zero, suc, ◌+◌, ◌-◌, ◌*◌, ◌/◌, ◌%◌, ◌^◌, ◌<◌, ◌≤◌, Bool, true, false, List, ◌∷◌, ◌++◌, length, drop, get_or, refl, ap, ◌∙◌, arith}
use mir.Val.{bool_byte}
use Rattle.std.specs.Prelude.{◌==◌}
use Rattle.std.proofs.lemmas.Nat.{pow-add}
use Rattle.std.proofs.Math.Nat.{div-eq_of_lt, pow-le-pow_right, pow-suc, add-mul, mul_assoc, mul_comm}
use Rattle.std.proofs.Math.Seq.{drop-cons}
use Rattle.mon_header.specs.Wild.{flag, bit}
use Rattle.mon_header.specs.Places.{bits_of, joined, number}

pub flag-small : (b : Bool) → flag b ≤ 1
flag-small true = omega arith
flag-small false = omega arith

pub flag-byte : (b : Bool) → bool_byte b ≡ flag b
flag-byte true = refl
flag-byte false = refl

-- a number has no bit above its size
pub no-bit : (n place size : ℕ) → n < 2 ^ size → size ≤ place → bit n place ≡ false
no-bit n place size h le =
    let p : 2 ^ size ≤ 2 ^ place = pow-le-pow_right {n = 2} (omega arith) le in
    let z : n / 2 ^ place ≡ 0 = div-eq_of_lt (omega arith) in
    ap (λ (x : ℕ). x % 2 == 1) z

-- a place within the first field
pub get-within : (count x place : ℕ) (rest : List Bool) → place < count → get_or (bits_of count x ++ rest) place false ≡ bit x (count - 1 - place)
get-within zero x place rest h = absurd (omega arith)
get-within (suc count) x zero rest h = let e : count ≡ suc count - 1 - 0 = omega arith in ap (bit x) e
get-within (suc count) x (suc place) rest h =
    let e : count - 1 - place ≡ suc count - 1 - suc place = omega arith in
    get-within count x place rest (omega arith) ∙ ap (bit x) e

-- a place beyond it
pub get-beyond : (count x place : ℕ) (rest : List Bool) → count ≤ place → get_or (bits_of count x ++ rest) place false ≡ get_or rest (place - count) false
get-beyond zero x place rest h = let e : place ≡ place - 0 = omega arith in ap (λ (p : ℕ). get_or rest p false) e
get-beyond (suc count) x zero rest h = absurd (omega arith)
get-beyond (suc count) x (suc place) rest h =
    let e : place - count ≡ suc place - suc count = omega arith in
    get-beyond count x place rest (omega arith) ∙ ap (λ (p : ℕ). get_or rest p false) e

-- a step over fields: the bit is in the first one that is left
pub walk-within : (fields : List (ℕ × ℕ)) (i left : ℕ) (d : ℕ × ℕ) → i < length fields → left < (get_or fields i d).0
    → get_or (joined (drop i fields)) left false ≡ bit (get_or fields i d).1 ((get_or fields i d).0 - 1 - left)
walk-within fields i left d h k =
    let f : ℕ × ℕ = get_or fields i d in
    ap (λ (fs : List (ℕ × ℕ)). get_or (joined fs) left false) (drop-cons fields i d h)
    ∙ get-within f.0 f.1 left (joined (drop (suc i) fields)) k

-- or beyond it
pub walk-beyond : (fields : List (ℕ × ℕ)) (i left : ℕ) (d : ℕ × ℕ) → i < length fields → (get_or fields i d).0 ≤ left
    → get_or (joined (drop i fields)) left false ≡ get_or (joined (drop (i + 1) fields)) (left - (get_or fields i d).0) false
walk-beyond fields i left d h k =
    let f : ℕ × ℕ = get_or fields i d in
    let next : suc i ≡ i + 1 = omega arith in
    ap (λ (fs : List (ℕ × ℕ)). get_or (joined fs) left false) (drop-cons fields i d h)
    ∙ get-beyond f.0 f.1 left (joined (drop (suc i) fields)) k
    ∙ ap (λ (j : ℕ). get_or (joined (drop j fields)) (left - f.0) false) next

-- a step over bits: the next one is the lowest of the number so far
pub number-step : (bits : List Bool) (i n m total : ℕ) → i < length bits → n < 2 ^ i
    → n * 2 ^ length (drop i bits) + number (drop i bits) ≡ total → m ≡ 2 * n + flag (get_or bits i false)
    → (m < 2 ^ (i + 1)) × (m * 2 ^ length (drop (i + 1) bits) + number (drop (i + 1) bits) ≡ total)
number-step bits i n m total h small e step =
    let b : Bool = get_or bits i false in
    let next : suc i ≡ i + 1 = omega arith in
    let rest : List Bool = drop (i + 1) bits in
    let cut : drop i bits ≡ b ∷ rest = drop-cons bits i false h ∙ ap (λ (j : ℕ). b ∷ drop j bits) next in
    let whole : n * 2 ^ length (b ∷ rest) + number (b ∷ rest) ≡ total = rw cut at e in
    let power : 2 ^ (i + 1) ≡ 2 ^ i * 2 = pow-add 2 i 1 in
    let p : ℕ = 2 ^ length rest in
    let double : 2 ^ suc (length rest) ≡ p * 2 = pow-suc 2 (length rest) in
    let spread : (2 * n + flag b) * p ≡ 2 * n * p + flag b * p = add-mul (2 * n) (flag b) p in
    let one : 2 * n * p ≡ n * (p * 2) = mul_assoc 2 n p ∙ mul_comm 2 (n * p) ∙ mul_assoc n p 2 in
    let line : n * (p * 2) + (flag b * p + number rest) ≡ total = rw (← double) whole in (
      (let s : flag b ≤ 1 = flag-small b in omega arith),
      rw step (omega arith),
    )
