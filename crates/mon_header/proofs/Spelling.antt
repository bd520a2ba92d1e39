-- A header and its bits give each other back.
use Rattle.std.proofs.Common.{◌≡◌, ℕ, zero, suc, ◌+◌, ◌-◌, ◌*◌, ◌/◌, ◌%◌, ◌^◌, ◌<◌, ◌≤◌, Bool, true, false, List, [], ◌∷◌, ◌++◌, length, take, drop, refl, sym, ap, subst, ◌∙◌, arith}
use Rattle.std.specs.Prelude.{◌==◌}
use Rattle.std.proofs.lemmas.Nat.{pow-add, pow_pos, div-mul-add, mod-pow-add}
use Rattle.std.proofs.lemmas.List.{drop-drop, drop_all, take-append-drop, length-take, length-take-le, length-drop}
use Rattle.std.proofs.Math.Nat.{pow-suc, pow-le-pow_right, add-mul-div_right, mod-eq_of_lt, mul_assoc}
use Rattle.mon_header.specs.declared.header.Header.{Header}
use Rattle.mon_header.specs.Matching.{InRange}
use Rattle.mon_header.specs.Wild.{flag, bit}
use Rattle.mon_header.specs.Places.{laid, bits_of, header_bits, number, number_at, header_of}
use Rattle.mon_header.proofs.Bits.{flag-small}

bits-long : (count x : ℕ) → length (bits_of count x) ≡ count
bits-long zero x = refl
bits-long (suc count) x = ap suc (bits-long count x)

flag-digit : (d : ℕ) → d < 2 → flag (d == 1) ≡ d
flag-digit zero h = refl
flag-digit (suc zero) h = refl
flag-digit (suc (suc d)) h = absurd (omega arith)

flag-is : (b : Bool) → (flag b == 1) ≡ b
flag-is true = refl
flag-is false = refl

-- the number of a number's bits is what is below their count
number-bits : (count x : ℕ) → number (bits_of count x) ≡ x % 2 ^ count
number-bits zero x = omega arith
number-bits (suc count) x =
    let split : x % 2 ^ (1 + count) ≡ x / 2 ^ count % 2 ^ 1 * 2 ^ count + x % 2 ^ count = mod-pow-add x 1 count in
    let next : 1 + count ≡ suc count = omega arith in
    let digit : flag (bit x count) ≡ x / 2 ^ count % 2 = flag-digit (x / 2 ^ count % 2) (omega arith) in
    rw (bits-long count x, number-bits count x, digit) (sym split ∙ ap (λ (n : ℕ). x % 2 ^ n) next)

pub number-below : (bits : List Bool) → number bits < 2 ^ length bits
number-below [] = omega arith
number-below (b ∷ bits) =
    let p : ℕ = 2 ^ length bits in
    let double : 2 ^ suc (length bits) ≡ p * 2 = pow-suc 2 (length bits) in
    let rest : number bits < p = number-below bits in
    let top : flag b * p ≤ p = elim b as (λ c. flag c * p ≤ p) [ true ↦ omega arith | false ↦ omega arith ] in
    omega arith

-- what is added above the bits does not change them
bit-low : (a k place m : ℕ) → place < k → bit (a * 2 ^ k + m) place ≡ bit m place
bit-low a k place m h =
    let up : ℕ = k - 1 - place in
    let e : up + 1 + place ≡ k = omega arith in
    let power : 2 ^ k ≡ 2 ^ up * 2 * 2 ^ place = ap (λ (n : ℕ). 2 ^ n) (sym e) ∙ (pow-add 2 (up + 1) place ∙ ap (λ (n : ℕ). n * 2 ^ place) (pow-add 2 up 1)) in
    let apart : a * 2 ^ k ≡ a * (2 ^ up * 2) * 2 ^ place = ap (λ (n : ℕ). a * n) power ∙ sym (mul_assoc a (2 ^ up * 2) (2 ^ place)) in
    let even : a * (2 ^ up * 2) ≡ a * 2 ^ up * 2 = sym (mul_assoc a (2 ^ up) 2) in
    let whole : m + a * (2 ^ up * 2) * 2 ^ place ≡ a * 2 ^ k + m = omega arith in
    let div : (a * 2 ^ k + m) / 2 ^ place ≡ m / 2 ^ place + a * (2 ^ up * 2) = ap (λ (n : ℕ). n / 2 ^ place) (sym whole) ∙ add-mul-div_right m (a * (2 ^ up * 2)) (pow_pos place) in
    let low : (a * 2 ^ k + m) / 2 ^ place % 2 ≡ m / 2 ^ place % 2 = omega arith in
    ap (λ (d : ℕ). d == 1) low

bits-low : (count k a m : ℕ) → count ≤ k → bits_of count (a * 2 ^ k + m) ≡ bits_of count m
bits-low zero k a m h = refl
bits-low (suc count) k a m h =
    ap (λ (b : Bool). b ∷ bits_of count (a * 2 ^ k + m)) (bit-low a k count m (omega arith))
    ∙ ap (λ (bs : List Bool). bit m count ∷ bs) (bits-low count k a m (omega arith))

-- the bits of the number of bits are those bits
bits-number : (count : ℕ) (bits : List Bool) → length bits ≡ count → bits_of count (number bits) ≡ bits
bits-number zero [] e = refl
bits-number zero (b ∷ bits) e = absurd (omega arith)
bits-number (suc count) [] e = absurd (omega arith)
bits-number (suc count) (b ∷ bits) e =
    let long : length bits ≡ count = omega arith in
    let n : ℕ = flag b * 2 ^ count + number bits in
    let below : number bits < 2 ^ count = subst (λ (k : ℕ). number bits < 2 ^ k) long (number-below bits) in
    let is : number (b ∷ bits) ≡ n = ap (λ (k : ℕ). flag b * 2 ^ k + number bits) long in
    let digit : n / 2 ^ count ≡ flag b = div-mul-add (flag b) (2 ^ count) (number bits) below in
    let small : flag b < 2 = let s : flag b ≤ 1 = flag-small b in omega arith in
    let high : bit n count ≡ b = ap (λ (d : ℕ). d % 2 == 1) digit ∙ (ap (λ (d : ℕ). d == 1) (mod-eq_of_lt small) ∙ flag-is b) in
    ap (bits_of (suc count)) is
    ∙ (ap (λ (c : Bool). c ∷ bits_of count n) high
    ∙ ap (λ (bs : List Bool). b ∷ bs) (bits-low count count (flag b) (number bits) (omega arith) ∙ bits-number count bits long))

field-read : (count x : ℕ) → x < 2 ^ count → number (bits_of count x) ≡ x
field-read count x h = number-bits count x ∙ mod-eq_of_lt h

-- the bits of a header are read as that header
pub header-read : (h : Header) → InRange h → header_of (header_bits h) ≡ h
unfolding laid header_of
header-read h r =
    simp (
      field-read 16 h.in_port r.in_port,
      field-read 48 h.dl_src r.dl_src,
      field-read 48 h.dl_dst r.dl_dst,
      field-read 16 h.dl_vlan r.dl_vlan,
      field-read 8 h.dl_vlan_pcp r.dl_vlan_pcp,
      field-read 16 h.dl_type r.dl_type,
      field-read 8 h.nw_tos r.nw_tos,
      field-read 8 h.nw_proto r.nw_proto,
      field-read 32 h.nw_src r.nw_src,
      field-read 32 h.nw_dst r.nw_dst,
      field-read 16 h.tp_src r.tp_src,
      field-read 16 h.tp_dst r.tp_dst,
    )

-- the number of a field that is cut out of the bits is written as those bits
field-written : (bits rest : List Bool) (start count : ℕ) → start + count ≤ length bits → rest ≡ drop (start + count) bits
    → bits_of count (number_at start count bits) ++ rest ≡ drop start bits
field-written bits rest start count h e =
    let left : count ≤ length (drop start bits) = simp (length-drop) (omega arith) in
    let own : bits_of count (number (take count (drop start bits))) ≡ take count (drop start bits) = bits-number count (take count (drop start bits)) (length-take-le count (drop start bits) left) in
    let after : rest ≡ drop count (drop start bits) = e ∙ sym (drop-drop count start bits) in
    ap (λ (own_bits : List Bool). own_bits ++ rest) own
    ∙ (ap (λ (others : List Bool). take count (drop start bits) ++ others) after ∙ take-append-drop count (drop start bits))

-- 264 bits are the bits of the header that they are read as
pub header-written : (bits : List Bool) → length bits ≡ 264 → header_bits (header_of bits) ≡ bits
unfolding laid header_of
header-written bits e =
    field-written bits _ 0 16 (omega arith) (
    field-written bits _ 16 48 (omega arith) (
    field-written bits _ 64 48 (omega arith) (
    field-written bits _ 112 16 (omega arith) (
    field-written bits _ 128 8 (omega arith) (
    field-written bits _ 136 16 (omega arith) (
    field-written bits _ 152 8 (omega arith) (
    field-written bits _ 160 8 (omega arith) (
    field-written bits _ 168 32 (omega arith) (
    field-written bits _ 200 32 (omega arith) (
    field-written bits _ 232 16 (omega arith) (
    field-written bits _ 248 16 (omega arith) (sym (drop_all 264 bits (omega arith))))))))))))))

pub header-long : (h : Header) → length (header_bits h) ≡ 264
unfolding laid
header-long h = refl

number_at-below : (start count : ℕ) (bits : List Bool) → number_at start count bits < 2 ^ count
number_at-below start count bits =
    let cut : List Bool = take count (drop start bits) in
    let long : length cut ≤ count = simp (length-take) (omega arith) in
    let power : 2 ^ length cut ≤ 2 ^ count = pow-le-pow_right {n = 2} (omega arith) long in
    let below : number cut < 2 ^ length cut = number-below cut in
    omega arith

-- what is read of bits is within range
pub header-below : (bits : List Bool) → InRange (header_of bits)
unfolding header_of
header-below bits = record {
  in_port = number_at-below 0 16 bits;
  dl_src = number_at-below 16 48 bits;
  dl_dst = number_at-below 64 48 bits;
  dl_vlan = number_at-below 112 16 bits;
  dl_vlan_pcp = number_at-below 128 8 bits;
  dl_type = number_at-below 136 16 bits;
  nw_tos = number_at-below 152 8 bits;
  nw_proto = number_at-below 160 8 bits;
  nw_src = number_at-below 168 32 bits;
  nw_dst = number_at-below 200 32 bits;
  tp_src = number_at-below 232 16 bits;
  tp_dst = number_at-below 248 16 bits;
}

-- the law
pub ruleset spelling = (header-long, header-read, header-written, header-below)
