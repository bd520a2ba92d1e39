-- Digits that were written say the bytes again.
use Rattle.std.proofs.Common.{◌≡◌, ℕ, suc, ◌+◌, ◌-◌, ◌*◌, ◌/◌, ◌%◌, ◌<◌, ◌≤◌, Bool, true, false, cond, List, [], ◌∷◌, length, get_or, Option, Some, refl, ap, ◌∙◌, arith, inl, inr}
use Rattle.std.specs.Prelude.{nat_le}
use Rattle.std.proofs.lemmas.Bool.{cases_lt, lt-ltb, le-ltb, le-leb, lt-leb}
use Rattle.mon_text.specs.Hex.{hex, hex_digit, unhex, digit_of, byte_of, joined, with_byte, AllBytes}

pub all_bytes : (bytes : List ℕ) → ((k : ℕ) → get_or bytes k 0 < 256) → AllBytes bytes
all_bytes [] small = tt
all_bytes (byte ∷ bytes) small = (small 0, all_bytes bytes (λ k. small (suc k)))

pub hex-length : (bytes : List ℕ) → length (hex bytes) ≡ 2 * length bytes
hex-length [] = refl
hex-length (byte ∷ bytes) = omega (arith, hex-length bytes)

low_digit : (d : ℕ) → d < 10 → digit_of (48 + d) ≡ Some d
unfolding digit_of
low_digit d small =
    let from : nat_le 48 (48 + d) ≡ true = le-leb 48 (48 + d) (omega arith) in
    let to : nat_le (48 + d) 57 ≡ true = le-leb (48 + d) 57 (omega (arith, small)) in
    let back : 48 + d - 48 ≡ d = omega arith in
    rw (from, to, back) refl

high_digit : (d : ℕ) → 10 ≤ d → d < 16 → digit_of (87 + d) ≡ Some d
unfolding digit_of
high_digit d large small =
    let from : nat_le 48 (87 + d) ≡ true = le-leb 48 (87 + d) (omega arith) in
    let past : nat_le (87 + d) 57 ≡ false = lt-leb (87 + d) 57 (omega (arith, large)) in
    let again : nat_le 97 (87 + d) ≡ true = le-leb 97 (87 + d) (omega (arith, large)) in
    let to : nat_le (87 + d) 102 ≡ true = le-leb (87 + d) 102 (omega (arith, small)) in
    let back : 87 + d - 87 ≡ d = omega arith in
    rw (from, past, again, to, back) refl

digit_back : (d : ℕ) → d < 16 → digit_of (hex_digit d) ≡ Some d
digit_back d small = elim (cases_lt d 10) [
  | inl lt ↦ ap (λ (b : Bool). digit_of (cond b (48 + d) (87 + d))) (lt-ltb d 10 lt) ∙ low_digit d lt
  | inr le ↦ ap (λ (b : Bool). digit_of (cond b (48 + d) (87 + d))) (le-ltb d 10 le) ∙ high_digit d le small
]

pub byte_back : (byte : ℕ) → byte < 256 → byte_of (hex_digit (byte / 16)) (hex_digit (byte % 16)) ≡ Some byte
unfolding byte_of
byte_back byte small =
    let high : digit_of (hex_digit (byte / 16)) ≡ Some (byte / 16) = digit_back (byte / 16) (omega (arith, small)) in
    let low : digit_of (hex_digit (byte % 16)) ≡ Some (byte % 16) = digit_back (byte % 16) (omega arith) in
    ap (λ (o : Option ℕ). joined o (digit_of (hex_digit (byte % 16)))) high ∙ ap (joined (Some (byte / 16))) low ∙ ap Some (let e : 16 * (byte / 16) + byte % 16 ≡ byte = omega arith in e)

pub unhex-hex : (bytes : List ℕ) → AllBytes bytes → unhex (hex bytes) ≡ Some bytes
unhex-hex [] all = refl
unhex-hex (byte ∷ bytes) all =
    ap (λ (o : Option ℕ). with_byte o (unhex (hex bytes))) (byte_back byte all.0) ∙ ap (with_byte (Some byte)) (unhex-hex bytes all.1)
