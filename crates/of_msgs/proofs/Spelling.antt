-- A FLOW_MOD that was read is written as it came.
use Rattle.std.proofs.Common.{◌≡◌, ℕ, zero, suc, ◌+◌, ◌*◌, ◌^◌, ◌/◌, ◌%◌, ◌<◌, ◌≤◌, List, [], ◌∷◌, ◌++◌, length, take, drop, slice_index, refl, sym, ap, ap₂, ◌∙◌, append_assoc, arith}
use Rattle.std.specs.Int.{byte_at, bytes_high_first}
use Rattle.std.specs.List.{AllByRecursion}
use Rattle.std.proofs.Math.Nat.{div-one, pow-succ', mul_assoc, add-mul}
use Rattle.std.proofs.lemmas.Nat.{div-mul-add, mod-mul-add}
use Rattle.std.proofs.lemmas.List.{length-append, length-drop, length-take-le, drop-drop, take-append-drop}
use Rattle.byteorder.specs.Endian.{big_bytes, big_from}
use Rattle.byteorder.specs.Numbers.{big_from-cons, big_from-lt}
use Rattle.mon_fields.specs.Fields.{number_at}
use Rattle.of_frame.specs.Kinds.{VERSION, FLOW_MOD}
use Rattle.of_frame.specs.Header.{xid_of, made}
use Rattle.of_msgs.specs.declared.flow_mod.FlowMod.{FlowMod}
use Rattle.of_msgs.specs.FlowMods.{command_number, IsFlowMod, IsFlowModFrame, flow_mod_of, with_flags}

-- each of these is a byte
abbrev AreBytes : List ℕ → Type 0
AreBytes xs = AllByRecursion (λ b. b < 256) xs

byte : (xs : List ℕ) (k : ℕ) → AreBytes xs → slice_index xs k < 256
byte [] zero a = omega arith
byte [] (suc k) a = omega arith
byte (x ∷ t) zero a = a.0
byte (x ∷ t) (suc k) a = byte t k a.1

bytes_behind : (n : ℕ) (xs : List ℕ) → AreBytes xs → AreBytes (drop n xs)
bytes_behind zero xs a = a
bytes_behind (suc n) [] a = a
bytes_behind (suc n) (x ∷ t) a = bytes_behind n t a.1

-- ---- a number's bytes are those that it was read of

-- a byte of a number, by its place
at_power : (k x : ℕ) → byte_at k x ≡ x / 256 ^ k % 256
at_power zero x = ap (λ (y : ℕ). y % 256) (sym (div-one x))
at_power (suc k) x = refl

-- a digit more in front
carried : (h x n r : ℕ) → h * 256 ^ suc n + (x * 256 ^ n + r) ≡ (h * 256 + x) * 256 ^ n + r
carried h x n r =
    let power : 256 ^ suc n ≡ 256 * 256 ^ n = pow-succ' 256 n in
    let moved : h * 256 * 256 ^ n ≡ h * (256 * 256 ^ n) = mul_assoc h 256 (256 ^ n) in
    let both : (h * 256 + x) * 256 ^ n ≡ h * 256 * 256 ^ n + x * 256 ^ n = add-mul (h * 256) x (256 ^ n) in
    rw power (omega (arith, moved, both))

last : (h x : ℕ) → x < 256 → (h * 256 + x) % 256 ≡ x
last h x lt = mod-mul-add h 256 x lt

-- the bytes of a number, whatever stands above them
of_number : (n h : ℕ) (xs : List ℕ) → AreBytes xs → n ≤ length xs → bytes_high_first n (h * 256 ^ n + big_from 0 n xs) ≡ take n xs
of_number zero h xs a le = refl
of_number (suc n) h [] a le = absurd (omega arith)
of_number (suc n) h (x ∷ t) a le =
    let below : big_from 0 n t < 256 ^ n = big_from-lt 0 n t (λ (k : ℕ). byte t k a.1) in
    let value : h * 256 ^ suc n + (x * 256 ^ n + big_from 1 n (x ∷ t)) ≡ (h * 256 + x) * 256 ^ n + big_from 0 n t =
    ap (λ (r : ℕ). h * 256 ^ suc n + (x * 256 ^ n + r)) (big_from-cons 0 n x t) ∙ carried h x n (big_from 0 n t) in
    let first : byte_at n ((h * 256 + x) * 256 ^ n + big_from 0 n t) ≡ x =
    at_power n ((h * 256 + x) * 256 ^ n + big_from 0 n t)
    ∙ (ap (λ (q : ℕ). q % 256) (div-mul-add (h * 256 + x) (256 ^ n) (big_from 0 n t) below) ∙ last h x a.0) in
    let rest : bytes_high_first n ((h * 256 + x) * 256 ^ n + big_from 0 n t) ≡ take n t = of_number n (h * 256 + x) t a.1 (omega arith) in
    ap (bytes_high_first (suc n)) value ∙ ap₂ (λ (b : ℕ) (bs : List ℕ). b ∷ bs) first rest

field : (n place : ℕ) (bytes : List ℕ) → AreBytes bytes → place + n ≤ length bytes → big_bytes n (number_at n place bytes) ≡ take n (drop place bytes)
field n place bytes a le =
    let value : big_from 0 n (drop place bytes) ≡ 0 * 256 ^ n + big_from 0 n (drop place bytes) = omega arith in
    ap (bytes_high_first n) value ∙ of_number n 0 (drop place bytes) (bytes_behind place bytes a) (omega (arith, length-drop place bytes))

-- ---- fields one behind the other

none_taken : (k : ℕ) (xs : List ℕ) → xs ≡ [] → take k xs ≡ []
none_taken zero xs e = refl
none_taken (suc k) xs e = rw e refl

more : (n k : ℕ) (xs : List ℕ) → take n xs ++ take k (drop n xs) ≡ take (n + k) xs
more zero k xs = let e : 0 + k ≡ k = omega arith in rw e refl
more (suc n) k [] = none_taken k [] refl ∙ sym (none_taken (suc n + k) [] refl)
more (suc n) k (x ∷ t) = let e : suc n + k ≡ suc (n + k) = omega arith in rw e (ap (λ (ys : List ℕ). x ∷ ys) (more n k t))

-- one field more
grown : (start k n x : ℕ) (front bytes : List ℕ) → AreBytes bytes → start + k + n ≤ length bytes → front ≡ take k (drop start bytes)
    → x ≡ number_at n (start + k) bytes → front ++ big_bytes n x ≡ take (k + n) (drop start bytes)
grown start k n x front bytes a le before is =
    let there : big_bytes n x ≡ take n (drop k (drop start bytes)) =
    ap (big_bytes n) is ∙ (field n (start + k) bytes a le ∙ ap (take n) (sym (drop-drop k start bytes))) in
    ap₂ (λ (xs ys : List ℕ). xs ++ ys) before there ∙ more k n (drop start bytes)

-- ---- the message

-- the fields before the flags
unfoldable front_of : FlowMod → List ℕ
front_of m =
    big_bytes 8 m.cookie ++ big_bytes 2 (command_number m.command) ++ big_bytes 2 m.idle ++ big_bytes 2 m.hard
    ++ big_bytes 2 m.priority ++ big_bytes 4 m.buffer ++ big_bytes 2 m.out_port

front_read : (bytes : List ℕ) (m : FlowMod) → AreBytes bytes → IsFlowMod bytes m → front_of m ≡ take 22 (drop 48 bytes)
unfolding front_of
front_read bytes m a p =
    let long = p.long in
    let e8 : big_bytes 8 m.cookie ≡ take 8 (drop 48 bytes) = ap (big_bytes 8) p.cookie_at_48 ∙ field 8 48 bytes a (omega arith) in
    let e10 = grown 48 8 2 (command_number m.command) (big_bytes 8 m.cookie) bytes a (omega arith) e8 p.command_at_56 in
    let e12 = grown 48 10 2 m.idle _ bytes a (omega arith) e10 p.idle_at_58 in
    let e14 = grown 48 12 2 m.hard _ bytes a (omega arith) e12 p.hard_at_60 in
    let e16 = grown 48 14 2 m.priority _ bytes a (omega arith) e14 p.priority_at_62 in
    let e20 = grown 48 16 4 m.buffer _ bytes a (omega arith) e16 p.buffer_at_64 in
    grown 48 20 2 m.out_port _ bytes a (omega arith) e20 p.out_port_at_68

same_body : (s t f g r w set : List ℕ) → s ≡ t → f ≡ g → r ≡ w → s ++ (f ++ set) ++ r ≡ t ++ (g ++ set) ++ w
same_body s t f g r w set e1 e2 e3 = cc

-- the body with other flags
body_read : (bytes : List ℕ) (m : FlowMod) (set : ℕ) → AreBytes bytes → IsFlowMod bytes m
    → m.spelled ++ (front_of m ++ big_bytes 2 set) ++ m.raw ≡ take 62 (drop 8 bytes) ++ (big_bytes 2 set ++ drop 72 bytes)
body_read bytes m set a p =
    let parts : m.spelled ++ (front_of m ++ big_bytes 2 set) ++ m.raw ≡ take 40 (drop 8 bytes) ++ (take 22 (drop 48 bytes) ++ big_bytes 2 set) ++ drop 72 bytes =
    same_body m.spelled (take 40 (drop 8 bytes)) (front_of m) (take 22 (drop 48 bytes)) m.raw (drop 72 bytes) (big_bytes 2 set)
    p.match_at_8 (front_read bytes m a p) p.raw_from_72 in
    let ahead : take 40 (drop 8 bytes) ++ take 22 (drop 48 bytes) ≡ take 62 (drop 8 bytes) =
    ap (λ (xs : List ℕ). take 40 (drop 8 bytes) ++ take 22 xs) (sym (drop-drop 40 8 bytes)) ∙ more 40 22 (drop 8 bytes) in
    parts
    ∙ (ap (λ (xs : List ℕ). xs ++ drop 72 bytes) (sym (append_assoc (take 40 (drop 8 bytes)) (take 22 (drop 48 bytes)) (big_bytes 2 set)))
    ∙ (append_assoc (take 40 (drop 8 bytes) ++ take 22 (drop 48 bytes)) (big_bytes 2 set) (drop 72 bytes)
    ∙ ap (λ (xs : List ℕ). xs ++ (big_bytes 2 set ++ drop 72 bytes)) ahead))

-- eight bytes more than that are as many as the frame has
body_length : (bytes : List ℕ) (set : ℕ) → 72 ≤ length bytes → 8 + length (take 62 (drop 8 bytes) ++ (big_bytes 2 set ++ drop 72 bytes)) ≡ length bytes
body_length bytes set long =
    let front : length (take 62 (drop 8 bytes)) ≡ 62 = length-take-le 62 (drop 8 bytes) (omega (arith, length-drop 8 bytes)) in
    omega (arith, length-append (take 62 (drop 8 bytes)) (big_bytes 2 set ++ drop 72 bytes), front, length-drop 72 bytes)

head : (bytes : List ℕ) → 2 ≤ length bytes → slice_index bytes 0 ≡ VERSION → slice_index bytes 1 ≡ FLOW_MOD → take 2 bytes ≡ VERSION ∷ FLOW_MOD ∷ []
head [] le v k = absurd (omega arith)
head (x ∷ []) le v k = absurd (omega arith)
head (x ∷ y ∷ t) le v k = ap₂ (λ (b c : ℕ). b ∷ c ∷ []) v k

-- the header, and what is behind it
headed : (bytes rest : List ℕ) → IsFlowModFrame bytes → 8 ≤ length bytes
    → VERSION ∷ FLOW_MOD ∷ (take 2 (drop 2 bytes) ++ (take 4 (drop 4 bytes) ++ rest)) ≡ take 8 bytes ++ rest
headed bytes rest w le =
    let two : take 2 bytes ≡ VERSION ∷ FLOW_MOD ∷ [] = head bytes (omega arith) w.version w.kind in
    let four : take 2 bytes ++ take 2 (drop 2 bytes) ≡ take 4 bytes = more 2 2 bytes in
    let eight : take 4 bytes ++ take 4 (drop 4 bytes) ≡ take 8 bytes = more 4 4 bytes in
    ap (λ (xs : List ℕ). xs ++ (take 2 (drop 2 bytes) ++ (take 4 (drop 4 bytes) ++ rest))) (sym two)
    ∙ (sym (append_assoc (take 2 bytes) (take 2 (drop 2 bytes)) (take 4 (drop 4 bytes) ++ rest))
    ∙ (ap (λ (xs : List ℕ). xs ++ (take 4 (drop 4 bytes) ++ rest)) four
    ∙ (sym (append_assoc (take 4 bytes) (take 4 (drop 4 bytes)) rest) ∙ ap (λ (xs : List ℕ). xs ++ rest) eight)))

same_frame : (s t x y b c : List ℕ) → s ≡ t → x ≡ y → b ≡ c → VERSION ∷ FLOW_MOD ∷ (s ++ (x ++ b)) ≡ VERSION ∷ FLOW_MOD ∷ (t ++ (y ++ c))
same_frame s t x y b c e1 e2 e3 = cc

-- the frame of a body that is that of the frame, but for the flags
framed : (bytes body : List ℕ) (xid set : ℕ) → IsFlowModFrame bytes → 72 ≤ length bytes → xid ≡ xid_of bytes
    → body ≡ take 62 (drop 8 bytes) ++ (big_bytes 2 set ++ drop 72 bytes) → made FLOW_MOD xid body ≡ with_flags set bytes
framed bytes body xid set w long x e =
    let tail = big_bytes 2 set ++ drop 72 bytes in
    let count : 8 + length body ≡ number_at 2 2 bytes = ap (λ (xs : List ℕ). 8 + length xs) e ∙ (body_length bytes set long ∙ w.frame.exact) in
    let size : big_bytes 2 (8 + length body) ≡ take 2 (drop 2 bytes) = ap (big_bytes 2) count ∙ field 2 2 bytes w.small (omega arith) in
    let id : big_bytes 4 xid ≡ take 4 (drop 4 bytes) = ap (big_bytes 4) x ∙ field 4 4 bytes w.small (omega arith) in
    let parts : made FLOW_MOD xid body ≡ VERSION ∷ FLOW_MOD ∷ (take 2 (drop 2 bytes) ++ (take 4 (drop 4 bytes) ++ (take 62 (drop 8 bytes) ++ tail))) =
    same_frame (big_bytes 2 (8 + length body)) (take 2 (drop 2 bytes)) (big_bytes 4 xid) (take 4 (drop 4 bytes)) body (take 62 (drop 8 bytes) ++ tail) size id e in
    parts
    ∙ (headed bytes (take 62 (drop 8 bytes) ++ tail) w (omega arith)
    ∙ (sym (append_assoc (take 8 bytes) (take 62 (drop 8 bytes)) tail) ∙ ap (λ (xs : List ℕ). xs ++ tail) (more 8 62 bytes)))

pub flagged : (bytes : List ℕ) (m : FlowMod) (set : ℕ) → IsFlowModFrame bytes → IsFlowMod bytes m → flow_mod_of (record m { flags = set }) ≡ with_flags set bytes
unfolding front_of
flagged bytes m set w p = framed bytes (m.spelled ++ (front_of m ++ big_bytes 2 set) ++ m.raw) m.xid set w p.long p.xid_at_4 (body_read bytes m set w.small p)

-- its own flags
same_flags : (bytes : List ℕ) → AreBytes bytes → 72 ≤ length bytes → with_flags (number_at 2 70 bytes) bytes ≡ bytes
same_flags bytes a long =
    ap (λ (xs : List ℕ). take 70 bytes ++ (xs ++ drop 72 bytes)) (field 2 70 bytes a long)
    ∙ (sym (append_assoc (take 70 bytes) (take 2 (drop 70 bytes)) (drop 72 bytes))
    ∙ (ap (λ (xs : List ℕ). xs ++ drop 72 bytes) (more 70 2 bytes) ∙ take-append-drop 72 bytes))

pub written : (bytes : List ℕ) (m : FlowMod) → IsFlowModFrame bytes → IsFlowMod bytes m → flow_mod_of m ≡ bytes
written bytes m w p =
    flagged bytes m m.flags w p ∙ (ap (λ (set : ℕ). with_flags set bytes) p.flags_at_70 ∙ same_flags bytes w.small p.long)
