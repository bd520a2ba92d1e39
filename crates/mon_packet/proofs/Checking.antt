-- With the checksum in its place, all bits of the sum are set.
use Rattle.std.proofs.Common.{◌≡◌, ◌≢◌, ◌⊎◌, inl, inr, ℕ, zero, suc, ◌+◌, ◌*◌, ◌-◌, ◌/◌, ◌%◌, ◌^◌, ◌<◌, List, [], ◌∷◌, ◌++◌, length, refl, ap, ◌∙◌, arith}
use Rattle.std.specs.Int.{byte_at, bytes_high_first}
use Rattle.std.proofs.lemmas.Bool.Decides.{nat_tests}
use Rattle.byteorder.specs.Endian.{big_bytes}
use Rattle.mon_packet.specs.Sums.{plus, sum_from, sum_of, checksum, not_zero}
use Rattle.mon_packet.proofs.Summing.{sum-append}

-- all numbers are bytes
abbrev pub AreBytes : List ℕ → Type 0
AreBytes [] = Unit {0}
AreBytes (x ∷ xs) = (x < 256) × AreBytes xs

pub bytes-append : (xs ys : List ℕ) → AreBytes xs → AreBytes ys → AreBytes (xs ++ ys)
bytes-append [] ys p q = q
bytes-append (x ∷ xs) ys p q = (p.0, bytes-append xs ys p.1 q)

byte-small : (i n : ℕ) → byte_at i n < 256
byte-small zero n = omega arith
byte-small (suc i) n = let r : n / 256 ^ suc i % 256 < 256 = omega arith in r

pub number-bytes : (k n : ℕ) → AreBytes (bytes_high_first k n)
number-bytes zero n = tt
number-bytes (suc k) n = (byte-small k n, number-bytes k n)

plus-small : (a b : ℕ) → a < 65536 → b < 65536 → plus a b < 65536
plus-small a b p q = grind (arith, nat_tests)

plus-swap : (a b c : ℕ) → a < 65536 → b < 65536 → c < 65536 → plus (plus a b) c ≡ plus (plus a c) b
plus-swap a b c p q r = grind (arith, nat_tests)

plus-zero : (a : ℕ) → a < 65536 → plus a 0 ≡ a
plus-zero a p = grind (arith, nat_tests)

word-small : (x y : ℕ) → x < 256 → y < 256 → 256 * x + y < 65536
word-small x y p q = omega arith

-- a number added first is added last
sum-shift : (a s : ℕ) (xs : List ℕ) → a < 65536 → s < 65536 → AreBytes xs → sum_from (plus a s) xs ≡ plus (sum_from a xs) s
sum-shift a s [] p q b = refl
sum-shift a s (x ∷ []) p q b = plus-swap a s (256 * x) p q (omega (arith, b.0))
sum-shift a s (x ∷ y ∷ rest) p q b =
    let w : ℕ = 256 * x + y in
    let small : w < 65536 = word-small x y b.0 b.1.0 in
    ap (λ (t : ℕ). sum_from t rest) (plus-swap a s w p q small)
    ∙ sum-shift (plus a w) s rest (plus-small a w p small) q b.1.1

sum-small : (a : ℕ) (xs : List ℕ) → a < 65536 → AreBytes xs → sum_from a xs < 65536
sum-small a [] p b = p
sum-small a (x ∷ []) p b = plus-small a (256 * x) p (omega (arith, b.0))
sum-small a (x ∷ y ∷ rest) p b =
    sum-small (plus a (256 * x + y)) rest (plus-small a (256 * x + y) p (word-small x y b.0 b.1.0)) b.1.1

-- the sum of all but the checksum, and the checksum
parted : (front back : List ℕ) (high low s : ℕ) → length front % 2 ≡ 0 → AreBytes front → AreBytes back → s < 65536 → 256 * high + low ≡ s
    → sum_of (front ++ (high ∷ low ∷ back)) ≡ plus (sum_from (sum_of front) back) s
parted front back high low s even f b small e =
    let begun : sum_of front < 65536 = sum-small 0 front (omega arith) f in
    sum-append 0 front (high ∷ low ∷ back) even
    ∙ ap (λ (t : ℕ). sum_from (plus (sum_of front) t) back) e
    ∙ sum-shift (sum_of front) s back begun small b

without : (front back : List ℕ) → length front % 2 ≡ 0 → AreBytes front → AreBytes back
    → sum_of (front ++ (0 ∷ 0 ∷ back)) ≡ sum_from (sum_of front) back
without front back even f b =
    let begun : sum_of front < 65536 = sum-small 0 front (omega arith) f in
    parted front back 0 0 0 even f b (omega arith) (omega arith) ∙ plus-zero (sum_from (sum_of front) back) (sum-small (sum_of front) back begun b)

-- a checksum, or the other zero, fills the sum
filled : (x s : ℕ) → x < 65536 → (s ≡ 65535 - x) ⊎ ((s ≡ 65535) × (x ≡ 65535)) → plus x s ≡ 65535
filled x s p (inl e) = grind (arith, nat_tests)
filled x s p (inr e) = let e0 : s ≡ 65535 = e.0 in let e1 : x ≡ 65535 = e.1 in grind (arith, nat_tests)

word-back : (s : ℕ) → s < 65536 → 256 * byte_at 1 s + byte_at 0 s ≡ s
word-back s p = let r : 256 * (s / 256 % 256) + s % 256 ≡ s = omega arith in r

pub checked : (front back : List ℕ) → length front % 2 ≡ 0 → AreBytes front → AreBytes back
    → sum_of (front ++ (big_bytes 2 (checksum (front ++ (0 ∷ 0 ∷ back))) ++ back)) ≡ 65535
checked front back even f b =
    let x : ℕ = sum_from (sum_of front) back in
    let s : ℕ = checksum (front ++ (0 ∷ 0 ∷ back)) in
    let begun : sum_of front < 65536 = sum-small 0 front (omega arith) f in
    let small : x < 65536 = sum-small (sum_of front) back begun b in
    let e : s ≡ 65535 - x = ap (λ (t : ℕ). 65535 - t) (without front back even f b) in
    let less : s < 65536 = omega arith in
    parted front back (byte_at 1 s) (byte_at 0 s) s even f b less (word-back s less) ∙ filled x s small (inl e)

not-zero-suc : (s : ℕ) → not_zero (suc s) ≡ suc s
not-zero-suc s = grind (arith, nat_tests)

either-zero : (x s : ℕ) → s ≡ 65535 - x → x < 65536 → (not_zero s ≡ 65535 - x) ⊎ ((not_zero s ≡ 65535) × (x ≡ 65535))
either-zero x zero e p = inr (refl, omega arith)
either-zero x (suc s) e p = inl (not-zero-suc s ∙ e)

pub zero-small : (s : ℕ) → s < 65536 → not_zero s < 65536
zero-small zero p = omega arith
zero-small (suc s) p = omega (arith, not-zero-suc s)

pub not-zero : (s : ℕ) → not_zero s ≢ 0
not-zero zero e = absurd (omega arith)
not-zero (suc s) e = absurd (omega (arith, not-zero-suc s))

pub checked-udp : (front back : List ℕ) → length front % 2 ≡ 0 → AreBytes front → AreBytes back
    → sum_of (front ++ (big_bytes 2 (not_zero (checksum (front ++ (0 ∷ 0 ∷ back)))) ++ back)) ≡ 65535
checked-udp front back even f b =
    let x : ℕ = sum_from (sum_of front) back in
    let s : ℕ = checksum (front ++ (0 ∷ 0 ∷ back)) in
    let begun : sum_of front < 65536 = sum-small 0 front (omega arith) f in
    let small : x < 65536 = sum-small (sum_of front) back begun b in
    let e : s ≡ 65535 - x = ap (λ (t : ℕ). 65535 - t) (without front back even f b) in
    let less : not_zero s < 65536 = zero-small s (omega arith) in
    parted front back (byte_at 1 (not_zero s)) (byte_at 0 (not_zero s)) (not_zero s) even f b less (word-back (not_zero s) less)
    ∙ filled x (not_zero s) small (either-zero x s e small)
