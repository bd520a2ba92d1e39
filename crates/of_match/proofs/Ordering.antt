-- Numbers stand in the order of their bytes, the highest first, and so do matches.
use Rattle.std.proofs.Common.{◌≡◌, ℕ, zero, suc, ◌+◌, ◌*◌, ◌%◌, ◌^◌, ◌<◌, ◌≤◌, Bool, List, [], ◌∷◌, ◌++◌, refl, sym, ap, ◌∙◌, arith}
use Rattle.std.specs.Prelude.{◌==◌, nat_lt, ◌&&◌, ◌||◌}
use Rattle.std.specs.Int.{byte_at, bytes_high_first}
use Rattle.std.proofs.Math.Nat.{mod-lt, mod-eq_of_lt, one-le-pow, mul-le-mul_right, add-mul}
use Rattle.std.proofs.lemmas.Bool.Decides.{nat_tests}
use Rattle.byteorder.specs.Endian.{big_from, big_bytes}
use Rattle.byteorder.specs.Numbers.{big_from-bytes, big_from-cons}
use Rattle.mon_header.specs.Wild.{packed}
use Rattle.mon_header.specs.Matching.{Matching, IsNormal}
use Rattle.mon_header.specs.Order.{key, is_less, match_before}
use Rattle.mon_header.proofs.Packing.{packed-below}
use Rattle.of_match.specs.Layout.{spelled}

-- the first digit decides, and where it is equal the rest
digit-first : (a b c d m n : ℕ) (r : Bool) → (a < b → m < n) → (b < a → n < m) → (a ≡ b → m + d ≡ n + c)
    → (nat_lt m n || ((m == n) && r)) ≡ (nat_lt a b || ((a == b) && (nat_lt c d || ((c == d) && r))))
digit-first a b c d m n r up down level = grind (arith, nat_tests)

higher : (p a b c d : ℕ) → a < b → c < p → a * p + c < b * p + d
higher p a b c d h k =
    let more : (a + 1) * p ≤ b * p = mul-le-mul_right p (omega arith) in
    let apart : (a + 1) * p ≡ a * p + 1 * p = add-mul a 1 p in
    omega arith

-- a number below 256 ^ suc n is its highest byte and the rest
split : (n x : ℕ) → x % 256 ^ suc n ≡ byte_at n x * 256 ^ n + x % 256 ^ n
split n x =
    let whole : big_from 0 (suc n) (bytes_high_first (suc n) x ++ []) ≡ x % 256 ^ suc n = big_from-bytes (suc n) x [] in
    let rest : big_from 1 n (byte_at n x ∷ (bytes_high_first n x ++ [])) ≡ x % 256 ^ n = big_from-cons 0 n (byte_at n x) (bytes_high_first n x ++ []) ∙ big_from-bytes n x [] in
    sym whole ∙ ap (λ (y : ℕ). byte_at n x * 256 ^ n + y) rest

below : (n x : ℕ) → x % 256 ^ n < 256 ^ n
below n x = let e = one-le-pow n 256 (omega arith) in mod-lt x (omega arith)

-- two numbers of n bytes in front of two lists
bytes-less : (n x y : ℕ) (us vs : List ℕ) → (nat_lt (x % 256 ^ n) (y % 256 ^ n) || ((x % 256 ^ n == y % 256 ^ n) && is_less us vs))
    ≡ is_less (bytes_high_first n x ++ us) (bytes_high_first n y ++ vs)
bytes-less zero x y us vs =
    let e : x % 256 ^ 0 ≡ 0 = omega arith in
    let f : y % 256 ^ 0 ≡ 0 = omega arith in
    rw (e, f) refl
bytes-less (suc n) x y us vs =
    let a : ℕ = byte_at n x in
    let b : ℕ = byte_at n y in
    let c : ℕ = x % 256 ^ n in
    let d : ℕ = y % 256 ^ n in
    let first = digit-first a b c d (x % 256 ^ suc n) (y % 256 ^ suc n) (is_less us vs)
    (λ (h : a < b). rw (split n x, split n y) (higher (256 ^ n) a b c d h (below n x)))
    (λ (h : b < a). rw (split n x, split n y) (higher (256 ^ n) b a d c h (below n y)))
    (λ (h : a ≡ b). rw (split n x, split n y) (let e : a * 256 ^ n ≡ b * 256 ^ n = ap (λ (z : ℕ). z * 256 ^ n) h in omega arith)) in
    first ∙ ap (λ (r : Bool). nat_lt a b || ((a == b) && r)) (bytes-less n x y us vs)

-- two lists of numbers stand in the order of two lists of bytes
record Agree (xs ys us vs : List ℕ) : Type 0 where
  same : is_less xs ys ≡ is_less us vs

number : (n x y : ℕ) {xs ys us vs : List ℕ} → x < 256 ^ n → y < 256 ^ n → Agree xs ys us vs
    → Agree (x ∷ xs) (y ∷ ys) (big_bytes n x ++ us) (big_bytes n y ++ vs)
number n x y {xs} {ys} {us} {vs} hx hy agree =
    let e : x % 256 ^ n ≡ x = mod-eq_of_lt hx in
    let f : y % 256 ^ n ≡ y = mod-eq_of_lt hy in
    let bytes : (nat_lt x y || ((x == y) && is_less us vs)) ≡ is_less (big_bytes n x ++ us) (big_bytes n y ++ vs) = rw (e, f) at (bytes-less n x y us vs) in
    record { same = ap (λ (r : Bool). nat_lt x y || ((x == y) && r)) agree.same ∙ bytes }

byte : (x y : ℕ) {xs ys us vs : List ℕ} → Agree xs ys us vs → Agree (x ∷ xs) (y ∷ ys) (x ∷ us) (y ∷ vs)
byte x y agree = record { same = ap (λ (r : Bool). nat_lt x y || ((x == y) && r)) agree.same }

pad : {xs ys us vs : List ℕ} → Agree xs ys us vs → Agree xs ys (0 ∷ us) (0 ∷ vs)
pad agree = record { same = agree.same }

end : Agree [] [] [] []
end = record { same = refl }

agree : (a b : Matching) → IsNormal a → IsNormal b → Agree (key a) (key b) (spelled a) (spelled b)
unfolding key spelled
agree a b p q =
    let f = a.fields in
    let g = b.fields in
    let r = p.range in
    let s = q.range in
    number 4 (packed a.wild) (packed b.wild) (packed-below a.wild p.nw_src_count p.nw_dst_count) (packed-below b.wild q.nw_src_count q.nw_dst_count) (
    number 2 f.in_port g.in_port r.in_port s.in_port (
    number 6 f.dl_src g.dl_src r.dl_src s.dl_src (
    number 6 f.dl_dst g.dl_dst r.dl_dst s.dl_dst (
    number 2 f.dl_vlan g.dl_vlan r.dl_vlan s.dl_vlan (
    byte f.dl_vlan_pcp g.dl_vlan_pcp (pad (
    number 2 f.dl_type g.dl_type r.dl_type s.dl_type (
    byte f.nw_tos g.nw_tos (
    byte f.nw_proto g.nw_proto (pad (pad (
    number 4 f.nw_src g.nw_src r.nw_src s.nw_src (
    number 4 f.nw_dst g.nw_dst r.nw_dst s.nw_dst (
    number 2 f.tp_src g.tp_src r.tp_src s.tp_src (
    number 2 f.tp_dst g.tp_dst r.tp_dst s.tp_dst end)))))))))))))))

pub match-order : (a b : Matching) → IsNormal a → IsNormal b → match_before a b ≡ is_less (spelled a) (spelled b)
match-order a b p q = (agree a b p q).same
