-- A header's bytes have its bits.
use Rattle.std.proofs.Common.{◌≡◌, ℕ, zero, suc, ◌+◌, ◌*◌, ◌/◌, ◌%◌, ◌^◌, Bool, List, [], ◌∷◌, ◌++◌, refl, sym, ap, ◌∙◌, arith, append_assoc}
use Rattle.std.specs.Prelude.{◌==◌}
use Rattle.std.specs.List.{flat_map, AllByRecursion}
use Rattle.std.specs.Int.{byte_at}
use Rattle.std.proofs.lemmas.Nat.{pow-add}
use Rattle.std.proofs.Math.Nat.{div-div-eq-div-mul, pow-suc}
use Rattle.byteorder.specs.Endian.{big_bytes}
use Rattle.mon_header.specs.declared.header.Header.{Header}
use Rattle.mon_header.specs.Wild.{bit}
use Rattle.mon_header.specs.Places.{laid, bits_of, joined, header_bits}
use Rattle.mon_certificate_file.specs.Headers.{field_bytes, header_bytes}
use Rattle.mon_certificate_file.proofs.Fields.{byte_at-pow}

-- the bits above a place, and those below it
bit-above : (k m x : ℕ) → bit x (k + m) ≡ bit (x / 2 ^ m) k
bit-above k m x =
    let power : 2 ^ (k + m) ≡ 2 ^ m * 2 ^ k = (let p : 2 ^ (k + m) ≡ 2 ^ k * 2 ^ m = pow-add 2 k m in omega arith) in
    ap (λ (d : ℕ). d % 2 == 1) (ap (λ (p : ℕ). x / p) power ∙ sym (div-div-eq-div-mul x (2 ^ m) (2 ^ k)))

bits-split : (k m x : ℕ) → bits_of (k + m) x ≡ bits_of k (x / 2 ^ m) ++ bits_of m x
bits-split zero m x = let e : zero + m ≡ m = omega arith in ap (λ (n : ℕ). bits_of n x) e
bits-split (suc k) m x =
    let e : suc k + m ≡ suc (k + m) = omega arith in
    ap (λ (n : ℕ). bits_of n x) e
    ∙ ap (λ (b : Bool). b ∷ bits_of (k + m) x) (bit-above k m x)
    ∙ ap (λ (bs : List Bool). bit (x / 2 ^ m) k ∷ bs) (bits-split k m x)

byte-bits : (y : ℕ) → bits_of 8 (y % 256) ≡ bits_of 8 y
byte-bits y =
    let d7 : y % 256 / 2 ^ 7 % 2 ≡ y / 2 ^ 7 % 2 = omega arith in
    let d6 : y % 256 / 2 ^ 6 % 2 ≡ y / 2 ^ 6 % 2 = omega arith in
    let d5 : y % 256 / 2 ^ 5 % 2 ≡ y / 2 ^ 5 % 2 = omega arith in
    let d4 : y % 256 / 2 ^ 4 % 2 ≡ y / 2 ^ 4 % 2 = omega arith in
    let d3 : y % 256 / 2 ^ 3 % 2 ≡ y / 2 ^ 3 % 2 = omega arith in
    let d2 : y % 256 / 2 ^ 2 % 2 ≡ y / 2 ^ 2 % 2 = omega arith in
    let d1 : y % 256 / 2 ^ 1 % 2 ≡ y / 2 ^ 1 % 2 = omega arith in
    let d0 : y % 256 / 2 ^ 0 % 2 ≡ y / 2 ^ 0 % 2 = omega arith in
    λ i. (d7 i == 1) ∷ (d6 i == 1) ∷ (d5 i == 1) ∷ (d4 i == 1) ∷ (d3 i == 1) ∷ (d2 i == 1) ∷ (d1 i == 1) ∷ (d0 i == 1) ∷ []

power256 : (n : ℕ) → 256 ^ n ≡ 2 ^ (8 * n)
power256 zero = refl
power256 (suc n) =
    let more : 8 * n + 8 ≡ 8 * suc n = omega arith in
    pow-suc 256 n ∙ ap (λ (p : ℕ). p * 256) (power256 n) ∙ sym (pow-add 2 (8 * n) 8) ∙ ap (λ (k : ℕ). 2 ^ k) more

-- the bits of the low bytes
bytes-bits : (n x : ℕ) → flat_map (bits_of 8) (big_bytes n x) ≡ bits_of (8 * n) x
bytes-bits zero x = refl
bytes-bits (suc n) x =
    let high : bits_of 8 (byte_at n x) ≡ bits_of 8 (x / 2 ^ (8 * n)) = ap (bits_of 8) (byte_at-pow n x) ∙ byte-bits (x / 256 ^ n) ∙ ap (λ (p : ℕ). bits_of 8 (x / p)) (power256 n) in
    let many : 8 + 8 * n ≡ 8 * suc n = omega arith in
    ap (λ (bs : List Bool). bs ++ flat_map (bits_of 8) (big_bytes n x)) high
    ∙ ap (λ (bs : List Bool). bits_of 8 (x / 2 ^ (8 * n)) ++ bs) (bytes-bits n x)
    ∙ sym (bits-split 8 (8 * n) x)
    ∙ ap (λ (k : ℕ). bits_of k x) many

flat-append : (front back : List ℕ) → flat_map (bits_of 8) (front ++ back) ≡ flat_map (bits_of 8) front ++ flat_map (bits_of 8) back
flat-append [] back = refl
flat-append (x ∷ front) back = ap (λ (bs : List Bool). bits_of 8 x ++ bs) (flat-append front back) ∙ sym (append_assoc (bits_of 8 x) (flat_map (bits_of 8) front) (flat_map (bits_of 8) back))

-- a field of whole bytes
abbrev IsWhole : ℕ × ℕ → Type 0
IsWhole field = 8 * (field.0 / 8) ≡ field.0

fields-bits : (fields : List (ℕ × ℕ)) → AllByRecursion IsWhole fields → flat_map (bits_of 8) (flat_map field_bytes fields) ≡ joined fields
fields-bits [] whole = refl
fields-bits (field ∷ fields) whole =
    flat-append (field_bytes field) (flat_map field_bytes fields)
    ∙ ap (λ (bs : List Bool). bs ++ flat_map (bits_of 8) (flat_map field_bytes fields)) (bytes-bits (field.0 / 8) field.1 ∙ ap (λ (k : ℕ). bits_of k field.1) whole.0)
    ∙ ap (λ (bs : List Bool). bits_of field.0 field.1 ++ bs) (fields-bits fields whole.1)

whole : (h : Header) → AllByRecursion IsWhole (laid h)
unfolding laid
whole h = (refl, (refl, (refl, (refl, (refl, (refl, (refl, (refl, (refl, (refl, (refl, (refl, tt))))))))))))

pub header-bits : (h : Header) → flat_map (bits_of 8) (header_bytes h) ≡ header_bits h
unfolding header_bytes
header-bits h = fields-bits (laid h) (whole h)
