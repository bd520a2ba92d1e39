-- Bytes and numbers in hexadecimal digits: what is read is spelled so, and what is spelled is read.
use Rattle.std.proofs.Common.{◌≡◌, ℕ, zero, suc, ◌+◌, ◌-◌, ◌*◌, ◌/◌, ◌%◌, ◌^◌, ◌<◌, ◌≤◌, true, false, cond, refl, sym, ap, subst, ◌∙◌, List, [], ◌∷◌, ◌++◌, length, get_or, Option, Some, None, option_map, arith}
use Rattle.std.specs.Prelude.{nat_le, ◌&&◌}
use Rattle.std.specs.Int.{w64, from_be_bytes, to_be_bytes, bytes_high_first, byte_at as byte_of_number}
use Rattle.std.proofs.lemmas.Bool.{and_parts, leb-true, lt-ltb, le-ltb, cond-true, cond-false}
use Rattle.std.proofs.lemmas.Option.{none-some, cond_some, same_Some}
use Rattle.std.proofs.lemmas.Nat.{from_be_bytes-to_be_bytes_8, be_bytes_8}
use Rattle.mon_text.specs.Hex.{hex, hex_digit, digit_of, byte_of, joined, AllBytes, AreBytes}
use Rattle.mon_text.specs.Parts.{Part, pair_in, byte_before, bytes_in, run_in, run_with, datapath_in}
use Rattle.mon_text.proofs.Decoding.{byte_back}
use Rattle.mon_text.proofs.Joining.{IsReader, reader_seen, pair_is}

-- the digit of a character, and the character of a digit
record IsDigit (c d : ℕ) : Type 0 where
  small : d < 16
  is : c ≡ hex_digit d

low_is : (c d : ℕ) → 48 ≤ c → c ≤ 57 → c - 48 ≡ d → IsDigit c d
low_is c d low high e =
    let few : d < 10 = omega arith in
    record { small = omega arith; is = (let k : c ≡ 48 + d = omega arith in k) ∙ sym (cond-true _ (48 + d) (87 + d) (lt-ltb d 10 few)) }

high_is : (c d : ℕ) → 97 ≤ c → c ≤ 102 → c - 87 ≡ d → IsDigit c d
high_is c d low high e =
    let many : 10 ≤ d = omega arith in
    record { small = omega arith; is = (let k : c ≡ 87 + d = omega arith in k) ∙ sym (cond-false _ (48 + d) (87 + d) (le-ltb d 10 many)) }

letter_is : (c d : ℕ) → cond (nat_le 97 c && nat_le c 102) (Some (c - 87)) None ≡ Some d → IsDigit c d
letter_is c d e =
    let p = cond_some (nat_le 97 c && nat_le c 102) (c - 87) d e in
    let r = and_parts (nat_le 97 c) (nat_le c 102) p.0 in
    high_is c d (leb-true 97 c r.0) (leb-true c 102 r.1) p.1

digit_is : (c d : ℕ) → digit_of c ≡ Some d → IsDigit c d
unfolding digit_of
digit_is c d e =
    elim (nat_le 48 c && nat_le c 57) as (λ b. (nat_le 48 c && nat_le c 57) ≡ b → cond b (Some (c - 48)) (cond (nat_le 97 c && nat_le c 102) (Some (c - 87)) None) ≡ Some d → IsDigit c d) [
      | true ↦ λ t f. let r = and_parts (nat_le 48 c) (nat_le c 57) t in low_is c d (leb-true 48 c r.0) (leb-true c 57 r.1) (same_Some (c - 48) d f)
      | false ↦ λ t f. letter_is c d f
    ] refl e

-- the two digits of a byte
record IsPair (a b x : ℕ) : Type 0 where
  small : x < 256
  high : a ≡ hex_digit (x / 16)
  low : b ≡ hex_digit (x % 16)

joined_is : (a b x : ℕ) (h l : Option ℕ) → digit_of a ≡ h → digit_of b ≡ l → joined h l ≡ Some x → IsPair a b x
joined_is a b x None l e f g = absurd (none-some x g)
joined_is a b x (Some h) None e f g = absurd (none-some x g)
joined_is a b x (Some h) (Some l) e f g =
    let first = digit_is a h e in
    let second = digit_is b l f in
    let h_small : h < 16 = first.small in
    let l_small : l < 16 = second.small in
    let value : 16 * h + l ≡ x = same_Some (16 * h + l) x g in
    let high : h ≡ x / 16 = omega arith in
    let low : l ≡ x % 16 = omega arith in
    record { small = omega arith; high = first.is ∙ ap hex_digit high; low = second.is ∙ ap hex_digit low }

pair_is_of : (a b x : ℕ) → byte_of a b ≡ Some x → IsPair a b x
unfolding byte_of
pair_is_of a b x e = joined_is a b x (digit_of a) (digit_of b) refl refl e

pair_text : (a b x : ℕ) (text : List ℕ) → byte_of a b ≡ Some x → a ∷ b ∷ text ≡ hex_digit (x / 16) ∷ hex_digit (x % 16) ∷ text
pair_text a b x text e = let p = pair_is_of a b x e in let h = p.high in let l = p.low in cc

with_some : (o : Option ℕ) (p : Part (List ℕ)) (bs rest : List ℕ) → byte_before o p ≡ Some (bs, rest) → (x : ℕ) × (ys : List ℕ) × (o ≡ Some x) × (p ≡ Some (ys, rest)) × (x ∷ ys ≡ bs)
with_some None p bs rest e = absurd (none-some (bs, rest) e)
with_some (Some x) None bs rest e = absurd (none-some (bs, rest) e)
with_some (Some x) (Some q) bs rest e =
    let f : (x ∷ q.0, q.1) ≡ (bs, rest) = same_Some (x ∷ q.0, q.1) (bs, rest) e in
    (x, q.0, refl, pair_is q.0 q.0 q.1 rest refl (ap (λ (z : List ℕ × List ℕ). z.1) f), ap (λ (z : List ℕ × List ℕ). z.0) f)

bytes-found : (n : ℕ) (text bs rest : List ℕ) → bytes_in n text ≡ Some (bs, rest) → AreBytes n bs × (text ≡ hex bs ++ rest)
bytes-found zero text bs rest e =
    let f : ([], text) ≡ (bs, rest) = same_Some ([], text) (bs, rest) e in
    let none : [] ≡ bs = ap (λ (z : List ℕ × List ℕ). z.0) f in
    let all : text ≡ rest = ap (λ (z : List ℕ × List ℕ). z.1) f in
    (subst (AreBytes 0) none (refl, tt), all ∙ ap (λ (b : List ℕ). hex b ++ rest) none)
bytes-found (suc n) [] bs rest e = absurd (none-some (bs, rest) e)
bytes-found (suc n) (a ∷ []) bs rest e = absurd (none-some (bs, rest) e)
bytes-found (suc n) (a ∷ b ∷ text) bs rest e =
    let w = with_some (byte_of a b) (bytes_in n text) bs rest e in
    let x = w.0 in
    let ys = w.1 in
    let more = bytes-found n text ys rest w.3 in
    let all : AreBytes (suc n) (x ∷ ys) = (ap suc more.0.0, ((pair_is_of a b x w.2).small, more.0.1)) in (
      subst (AreBytes (suc n)) w.4 all,
      pair_text a b x text w.2 ∙ ap (λ (t : List ℕ). hex_digit (x / 16) ∷ hex_digit (x % 16) ∷ t) more.1 ∙ ap (λ (b : List ℕ). hex b ++ rest) w.4,
    )

bytes-again : (n : ℕ) (bs rest : List ℕ) → AreBytes n bs → bytes_in n (hex bs ++ rest) ≡ Some (bs, rest)
bytes-again zero [] rest are = refl
bytes-again zero (x ∷ xs) rest are = absurd (let e : suc (length xs) ≡ 0 = are.0 in omega arith)
bytes-again (suc n) [] rest are = absurd (let e : 0 ≡ suc n = are.0 in omega arith)
bytes-again (suc n) (x ∷ xs) rest are =
    let few : length xs ≡ n = (let e : suc (length xs) ≡ suc n = are.0 in omega arith) in
    ap (λ (o : Option ℕ). byte_before o (bytes_in n (hex xs ++ rest))) (byte_back x are.1.0)
    ∙ ap (byte_before (Some x)) (bytes-again n xs rest (few, are.1.1))

pub reader_bytes : (n : ℕ) → IsReader hex (AreBytes n) (bytes_in n)
reader_bytes n = record { found = bytes-found n; again = bytes-again n }

-- the bytes of all pairs of digits
pub record IsRun (text bs rest : List ℕ) : Type 0 where
  pub is : text ≡ hex bs ++ rest
  pub bytes : AllBytes bs

run_step : (a b : ℕ) (text : List ℕ) (o : Option ℕ) (run : List ℕ × List ℕ) → byte_of a b ≡ o → IsRun text run.0 run.1 → IsRun (a ∷ b ∷ text) (run_with o (a ∷ b ∷ text) run).0 (run_with o (a ∷ b ∷ text) run).1
run_step a b text None run e r = record { is = refl; bytes = tt }
run_step a b text (Some x) run e r = record {
  is = pair_text a b x text e ∙ ap (λ (t : List ℕ). hex_digit (x / 16) ∷ hex_digit (x % 16) ∷ t) r.is;
  bytes = ((pair_is_of a b x e).small, r.bytes);
}

pub run-found : (text : List ℕ) → IsRun text (run_in text).0 (run_in text).1
run-found [] = record { is = refl; bytes = tt }
run-found (a ∷ []) = record { is = refl; bytes = tt }
run-found (a ∷ b ∷ text) = run_step a b text (byte_of a b) (run_in text) refl (run-found text)

-- what stands behind the digits is no pair of them
no_pair : (a b : ℕ) (text : List ℕ) (o : Option ℕ) (run : List ℕ × List ℕ) → option_map {U = ℕ × List ℕ} (λ byte. (byte, text)) o ≡ None → run_with o (a ∷ b ∷ text) run ≡ ([], a ∷ b ∷ text)
no_pair a b text None run e = refl
no_pair a b text (Some x) run e = absurd (none-some (x, text) (sym e))

run_none : (rest : List ℕ) → pair_in rest ≡ None → run_in rest ≡ ([], rest)
run_none [] e = refl
run_none (a ∷ []) e = refl
run_none (a ∷ b ∷ text) e = no_pair a b text (byte_of a b) (run_in text) e

pub run-again : (bs rest : List ℕ) → AllBytes bs → pair_in rest ≡ None → run_in (hex bs ++ rest) ≡ (bs, rest)
run-again [] rest all none = run_none rest none
run-again (x ∷ xs) rest all none =
    let text = hex xs ++ rest in
    ap (λ (o : Option ℕ). run_with o (hex_digit (x / 16) ∷ hex_digit (x % 16) ∷ text) (run_in text)) (byte_back x all.0)
    ∙ ap (λ (r : List ℕ × List ℕ). (x ∷ r.0, r.1)) (run-again xs rest all.1 none)

-- a byte of a list
pub byte_at : (bs : List ℕ) → AllBytes bs → (i : ℕ) → get_or bs i 0 < 256
byte_at [] all i = omega arith
byte_at (x ∷ xs) all zero = all.0
byte_at (x ∷ xs) all (suc i) = byte_at xs all.1 i

byte_small : (k n : ℕ) → byte_of_number k n < 256
byte_small zero n = omega arith
byte_small (suc k) n = omega arith

-- the bytes of a number
pub bytes_small : (k n : ℕ) → AllBytes (bytes_high_first k n)
bytes_small zero n = tt
bytes_small (suc k) n = (byte_small k n, bytes_small k n)

-- a number of 64 bits
number_small : (bs : List ℕ) → AreBytes 8 bs → from_be_bytes w64 bs < 2 ^ 64
number_small bs are =
    let at = byte_at bs are.1 in
    omega (arith, at 0, at 1, at 2, at 3, at 4, at 5, at 6, at 7)

pub reader_datapath : IsReader (λ n. hex (to_be_bytes w64 n)) (λ n. n < 2 ^ 64) datapath_in
unfolding datapath_in
reader_datapath = reader_seen hex (AreBytes 8) (bytes_in 8) (reader_bytes 8) (from_be_bytes w64) (to_be_bytes w64) (λ n. n < 2 ^ 64)
    (λ n small. ((refl, bytes_small 8 n), from_be_bytes-to_be_bytes_8 n small))
    (λ bs are. (number_small bs are, be_bytes_8 bs (from_be_bytes w64 bs) are.0 (byte_at bs are.1) refl))
