-- A header and its bytes give each other back.
use Rattle.std.proofs.Common.{◌≡◌, ℕ, zero, suc, ◌+◌, ◌-◌, ◌*◌, ◌/◌, ◌%◌, ◌^◌, ◌<◌, ◌≤◌, List, [], ◌∷◌, ◌++◌, length, take, drop, refl, sym, ap, ◌∙◌, arith}
use Rattle.std.proofs.lemmas.Nat.{pow-add, div-mul-add}
use Rattle.std.proofs.lemmas.List.{drop-drop, drop_all, take-append-drop, length-drop}
use Rattle.std.proofs.Math.Nat.{add-mul-div_right, div-one, mod-eq_of_lt, mul_assoc, one-le-pow}
use Rattle.std.specs.Int.{byte_at}
use Rattle.std.specs.List.{flat_map}
use Rattle.byteorder.specs.Endian.{big_number, big_bytes}
use Rattle.byteorder.specs.Numbers.{big_from-cons, big_from-lt, big_number-reads_back}
use Rattle.mon_text.specs.Hex.{AllBytes, AreBytes}
use Rattle.mon_text.proofs.InDigits.{byte_at as byte_of_list, bytes_small}
use Rattle.mon_header.specs.declared.header.Header.{Header}
use Rattle.mon_header.specs.Matching.{InRange}
use Rattle.mon_header.specs.Places.{laid}
use Rattle.mon_certificate_file.specs.Headers.{field_bytes, header_bytes, header_from}

-- a byte of a number, by its place
pub byte_at-pow : (k x : ℕ) → byte_at k x ≡ x / 256 ^ k % 256
byte_at-pow zero x = ap (λ (y : ℕ). y % 256) (sym (div-one x))
byte_at-pow (suc k) x = refl

pow_pos256 : (n : ℕ) → zero < 256 ^ n
pow_pos256 n = let h = one-le-pow n 256 (omega arith) in omega arith

-- what stands above the low bytes does not change them
byte-low : (a k place m : ℕ) → place < k → byte_at place (a * 256 ^ k + m) ≡ byte_at place m
byte-low a k place m h =
    let up : ℕ = k - 1 - place in
    let e : up + 1 + place ≡ k = omega arith in
    let power : 256 ^ k ≡ 256 ^ up * 256 * 256 ^ place = ap (λ (n : ℕ). 256 ^ n) (sym e) ∙ (pow-add 256 (up + 1) place ∙ ap (λ (n : ℕ). n * 256 ^ place) (pow-add 256 up 1)) in
    let apart : a * 256 ^ k ≡ a * (256 ^ up * 256) * 256 ^ place = ap (λ (n : ℕ). a * n) power ∙ sym (mul_assoc a (256 ^ up * 256) (256 ^ place)) in
    let even : a * (256 ^ up * 256) ≡ a * 256 ^ up * 256 = sym (mul_assoc a (256 ^ up) 256) in
    let whole : m + a * (256 ^ up * 256) * 256 ^ place ≡ a * 256 ^ k + m = omega arith in
    let div : (a * 256 ^ k + m) / 256 ^ place ≡ m / 256 ^ place + a * (256 ^ up * 256) = ap (λ (n : ℕ). n / 256 ^ place) (sym whole) ∙ add-mul-div_right m (a * (256 ^ up * 256)) (pow_pos256 place) in
    let low : (a * 256 ^ k + m) / 256 ^ place % 256 ≡ m / 256 ^ place % 256 = omega arith in
    byte_at-pow place (a * 256 ^ k + m) ∙ low ∙ sym (byte_at-pow place m)

bytes-low : (count k a m : ℕ) → count ≤ k → big_bytes count (a * 256 ^ k + m) ≡ big_bytes count m
bytes-low zero k a m h = refl
bytes-low (suc count) k a m h =
    ap (λ (b : ℕ). b ∷ big_bytes count (a * 256 ^ k + m)) (byte-low a k count m (omega arith))
    ∙ ap (λ (bs : List ℕ). byte_at count m ∷ bs) (bytes-low count k a m (omega arith))

-- the bytes of the number of some bytes are those bytes
bytes-number : (count : ℕ) (bytes : List ℕ) → AllBytes bytes → count ≤ length bytes → big_bytes count (big_number count bytes) ≡ take count bytes
bytes-number zero bytes all h = refl
bytes-number (suc count) [] all h = absurd (omega arith)
bytes-number (suc count) (b ∷ bytes) all h =
    let below : big_number count bytes < 256 ^ count = big_from-lt 0 count bytes (byte_of_list bytes all.1) in
    let n : ℕ = b * 256 ^ count + big_number count bytes in
    let is : big_number (suc count) (b ∷ bytes) ≡ n = ap (λ (r : ℕ). b * 256 ^ count + r) (big_from-cons 0 count b bytes) in
    let high : byte_at count n ≡ b = byte_at-pow count n ∙ ap (λ (d : ℕ). d % 256) (div-mul-add b (256 ^ count) (big_number count bytes) below) ∙ mod-eq_of_lt all.0 in
    ap (big_bytes (suc count)) is
    ∙ ap (λ (c : ℕ). c ∷ big_bytes count n) high
    ∙ ap (λ (bs : List ℕ). b ∷ bs) (bytes-low count count b (big_number count bytes) (omega arith) ∙ bytes-number count bytes all.1 (omega arith))

all_drop : (n : ℕ) (bytes : List ℕ) → AllBytes bytes → AllBytes (drop n bytes)
all_drop zero bytes all = all
all_drop (suc n) [] all = tt
all_drop (suc n) (b ∷ bytes) all = all_drop n bytes all.1

all_append : (front back : List ℕ) → AllBytes front → AllBytes back → AllBytes (front ++ back)
all_append [] back f b = b
all_append (x ∷ front) back f b = (f.0, all_append front back f.1 b)

-- a field that is cut out of the bytes is written as those bytes
field-written : (bytes rest : List ℕ) (start count : ℕ) → AllBytes bytes → start + count ≤ length bytes → rest ≡ drop (start + count) bytes
    → big_bytes count (big_number count (drop start bytes)) ++ rest ≡ drop start bytes
field-written bytes rest start count all h e =
    let left : count ≤ length (drop start bytes) = simp (length-drop) (omega arith) in
    let own : big_bytes count (big_number count (drop start bytes)) ≡ take count (drop start bytes) = bytes-number count (drop start bytes) (all_drop start bytes all) left in
    let after : rest ≡ drop count (drop start bytes) = e ∙ sym (drop-drop count start bytes) in
    ap (λ (own_bytes : List ℕ). own_bytes ++ rest) own
    ∙ (ap (λ (others : List ℕ). take count (drop start bytes) ++ others) after ∙ take-append-drop count (drop start bytes))

-- 33 bytes are those of the header that they are read as
pub header-written : (bytes : List ℕ) → AreBytes 33 bytes → header_bytes (header_from bytes) ≡ bytes
unfolding laid header_bytes header_from
header-written bytes are =
    let e : length bytes ≡ 33 = are.0 in
    field-written bytes _ 0 2 are.1 (omega arith) (
    field-written bytes _ 2 6 are.1 (omega arith) (
    field-written bytes _ 8 6 are.1 (omega arith) (
    field-written bytes _ 14 2 are.1 (omega arith) (
    field-written bytes _ 16 1 are.1 (omega arith) (
    field-written bytes _ 17 2 are.1 (omega arith) (
    field-written bytes _ 19 1 are.1 (omega arith) (
    field-written bytes _ 20 1 are.1 (omega arith) (
    field-written bytes _ 21 4 are.1 (omega arith) (
    field-written bytes _ 25 4 are.1 (omega arith) (
    field-written bytes _ 29 2 are.1 (omega arith) (
    field-written bytes _ 31 2 are.1 (omega arith) (sym (drop_all 33 bytes (omega arith))))))))))))))

-- a header's bytes are 33
fields-bytes : (fields : List (ℕ × ℕ)) → AllBytes (flat_map field_bytes fields)
fields-bytes [] = tt
fields-bytes (field ∷ fields) = all_append (field_bytes field) (flat_map field_bytes fields) (bytes_small (field.0 / 8) field.1) (fields-bytes fields)

pub header-bytes : (h : Header) → AreBytes 33 (header_bytes h)
unfolding laid header_bytes
header-bytes h = (refl, fields-bytes (laid h))

in_port-read : (h : Header) → InRange h → big_number 2 (drop 0 (header_bytes h)) ≡ h.in_port
unfolding laid header_bytes
in_port-read h r = big_number-reads_back 2 h.in_port (drop 2 (header_bytes h)) r.in_port

dl_src-read : (h : Header) → InRange h → big_number 6 (drop 2 (header_bytes h)) ≡ h.dl_src
unfolding laid header_bytes
dl_src-read h r = big_number-reads_back 6 h.dl_src (drop 8 (header_bytes h)) r.dl_src

dl_dst-read : (h : Header) → InRange h → big_number 6 (drop 8 (header_bytes h)) ≡ h.dl_dst
unfolding laid header_bytes
dl_dst-read h r = big_number-reads_back 6 h.dl_dst (drop 14 (header_bytes h)) r.dl_dst

dl_vlan-read : (h : Header) → InRange h → big_number 2 (drop 14 (header_bytes h)) ≡ h.dl_vlan
unfolding laid header_bytes
dl_vlan-read h r = big_number-reads_back 2 h.dl_vlan (drop 16 (header_bytes h)) r.dl_vlan

dl_vlan_pcp-read : (h : Header) → InRange h → big_number 1 (drop 16 (header_bytes h)) ≡ h.dl_vlan_pcp
unfolding laid header_bytes
dl_vlan_pcp-read h r = big_number-reads_back 1 h.dl_vlan_pcp (drop 17 (header_bytes h)) r.dl_vlan_pcp

dl_type-read : (h : Header) → InRange h → big_number 2 (drop 17 (header_bytes h)) ≡ h.dl_type
unfolding laid header_bytes
dl_type-read h r = big_number-reads_back 2 h.dl_type (drop 19 (header_bytes h)) r.dl_type

nw_tos-read : (h : Header) → InRange h → big_number 1 (drop 19 (header_bytes h)) ≡ h.nw_tos
unfolding laid header_bytes
nw_tos-read h r = big_number-reads_back 1 h.nw_tos (drop 20 (header_bytes h)) r.nw_tos

nw_proto-read : (h : Header) → InRange h → big_number 1 (drop 20 (header_bytes h)) ≡ h.nw_proto
unfolding laid header_bytes
nw_proto-read h r = big_number-reads_back 1 h.nw_proto (drop 21 (header_bytes h)) r.nw_proto

nw_src-read : (h : Header) → InRange h → big_number 4 (drop 21 (header_bytes h)) ≡ h.nw_src
unfolding laid header_bytes
nw_src-read h r = big_number-reads_back 4 h.nw_src (drop 25 (header_bytes h)) r.nw_src

nw_dst-read : (h : Header) → InRange h → big_number 4 (drop 25 (header_bytes h)) ≡ h.nw_dst
unfolding laid header_bytes
nw_dst-read h r = big_number-reads_back 4 h.nw_dst (drop 29 (header_bytes h)) r.nw_dst

tp_src-read : (h : Header) → InRange h → big_number 2 (drop 29 (header_bytes h)) ≡ h.tp_src
unfolding laid header_bytes
tp_src-read h r = big_number-reads_back 2 h.tp_src (drop 31 (header_bytes h)) r.tp_src

tp_dst-read : (h : Header) → InRange h → big_number 2 (drop 31 (header_bytes h)) ≡ h.tp_dst
unfolding laid header_bytes
tp_dst-read h r = big_number-reads_back 2 h.tp_dst (drop 33 (header_bytes h)) r.tp_dst

-- the bytes of a header are read as that header
pub header-read : (h : Header) → InRange h → header_from (header_bytes h) ≡ h
unfolding header_from
header-read h r =
    simp (
      in_port-read h r,
      dl_src-read h r,
      dl_dst-read h r,
      dl_vlan-read h r,
      dl_vlan_pcp-read h r,
      dl_type-read h r,
      nw_tos-read h r,
      nw_proto-read h r,
      nw_src-read h r,
      nw_dst-read h r,
      tp_src-read h r,
      tp_dst-read h r,
    )

number-below : (n start : ℕ) (bytes : List ℕ) → AllBytes bytes → big_number n (drop start bytes) < 256 ^ n
number-below n start bytes all = big_from-lt 0 n (drop start bytes) (byte_of_list (drop start bytes) (all_drop start bytes all))

-- what is read of bytes is within range
pub header-below : (bytes : List ℕ) → AllBytes bytes → InRange (header_from bytes)
unfolding header_from
header-below bytes all = record {
  in_port = number-below 2 0 bytes all;
  dl_src = number-below 6 2 bytes all;
  dl_dst = number-below 6 8 bytes all;
  dl_vlan = number-below 2 14 bytes all;
  dl_vlan_pcp = number-below 1 16 bytes all;
  dl_type = number-below 2 17 bytes all;
  nw_tos = number-below 1 19 bytes all;
  nw_proto = number-below 1 20 bytes all;
  nw_src = number-below 4 21 bytes all;
  nw_dst = number-below 4 25 bytes all;
  tp_src = number-below 2 29 bytes all;
  tp_dst = number-below 2 31 bytes all;
}
