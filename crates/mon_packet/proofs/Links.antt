-- The header of Ethernet that is written is read again.
use Rattle.std.proofs.Common.{◌≡◌, ◌≢◌, ℕ, ◌+◌, ◌*◌, ◌-◌, ◌/◌, ◌%◌, ◌<◌, ◌≤◌, Bool, true, false, List, ◌++◌, length, drop, Some, refl, sym, ap, ◌∙◌, arith}
use Rattle.std.specs.Prelude.{◌==◌, nat_le}
use Rattle.std.proofs.lemmas.Bool.{le-leb, eq-eqb, eqb-true}
use Rattle.std.proofs.lemmas.Bool.Decides.{nat_tests}
use Rattle.byteorder.specs.Endian.{big_number, big_bytes}
use Rattle.byteorder.specs.Numbers.{big_number-reads_back}
use Rattle.mon_header.specs.declared.header.Header.{Header}
use Rattle.mon_header.specs.Matching.{InRange}
use Rattle.mon_header.proofs.Twelve.{both}
use Rattle.mon_packet.specs.declared.ethernet.Ethernet.{Ethernet}
use Rattle.mon_packet.specs.Frames.{ethernet_header, ethernet_size}
use Rattle.mon_fields.specs.Fields.{number_at}
use Rattle.mon_packet.specs.Reading.{is_type, typed, ethernet_of}
use Rattle.mon_packet.proofs.Choosing.{if-true, if-false, and-false}

type-no-tag : (t : ℕ) → is_type t ≡ true → (t == 0x8100) ≡ false
type-no-tag t e = grind (arith, nat_tests)

typed-read : (bytes : List ℕ) (vlan pcp end s d t : ℕ) → end ≤ length bytes → number_at 2 (end - 2) bytes ≡ t → is_type t ≡ true
    → big_number 6 (drop 6 bytes) ≡ s → big_number 6 (drop 0 bytes) ≡ d
    → typed bytes vlan pcp end ≡ Some (record { dl_src = s; dl_dst = d; dl_vlan = vlan; dl_vlan_pcp = pcp; dl_type = t; size = end })
typed-read bytes vlan pcp end s d t long et ist es ed =
    if-true _ _ _ (both _ _ (le-leb _ _ long) (ap is_type et ∙ ist)) ∙ simp (et, es, ed)

plain-read : (bytes : List ℕ) (s d t : ℕ) → 14 ≤ length bytes → number_at 2 12 bytes ≡ t → is_type t ≡ true
    → big_number 6 (drop 6 bytes) ≡ s → big_number 6 (drop 0 bytes) ≡ d
    → ethernet_of bytes ≡ Some (record { dl_src = s; dl_dst = d; dl_vlan = 0xffff; dl_vlan_pcp = 0; dl_type = t; size = 14 })
unfolding ethernet_of
plain-read bytes s d t long et ist es ed =
    if-false _ _ _ (and-false (nat_le 16 (length bytes)) _ (ap (λ (x : ℕ). x == 0x8100) et ∙ type-no-tag t ist))
    ∙ typed-read bytes 0xffff 0 14 s d t long et ist es ed

tagged-read : (bytes : List ℕ) (s d t v p : ℕ) → 18 ≤ length bytes → number_at 2 12 bytes ≡ 0x8100 → number_at 2 14 bytes ≡ p * 8192 + v
    → v < 4096 → p < 8 → number_at 2 16 bytes ≡ t → is_type t ≡ true
    → big_number 6 (drop 6 bytes) ≡ s → big_number 6 (drop 0 bytes) ≡ d
    → ethernet_of bytes ≡ Some (record { dl_src = s; dl_dst = d; dl_vlan = v; dl_vlan_pcp = p; dl_type = t; size = 18 })
unfolding ethernet_of
tagged-read bytes s d t v p long tag et vs ps ett ist es ed =
    let ev : number_at 2 14 bytes % 4096 ≡ v = rw et (omega arith) in
    let ep : number_at 2 14 bytes / 8192 ≡ p = rw et (omega arith) in
    if-true _ _ _ (both _ _ (le-leb 16 (length bytes) (omega arith)) (ap (λ (x : ℕ). x == 0x8100) tag))
    ∙ ap (λ (x : ℕ). typed bytes x (number_at 2 14 bytes / 8192) 18) ev
    ∙ ap (λ (x : ℕ). typed bytes v x 18) ep
    ∙ typed-read bytes v p 18 s d t long ett ist es ed

-- what the header says
abbrev pub link : Header → Ethernet
link h = record { dl_src = h.dl_src; dl_dst = h.dl_dst; dl_vlan = h.dl_vlan; dl_vlan_pcp = h.dl_vlan_pcp; dl_type = h.dl_type; size = ethernet_size h }

abbrev plain_bytes : Header → List ℕ
plain_bytes h = big_bytes 6 h.dl_dst ++ (big_bytes 6 h.dl_src ++ big_bytes 2 h.dl_type)

abbrev tagged_bytes : Header → List ℕ
tagged_bytes h =
    big_bytes 6 h.dl_dst
    ++ (big_bytes 6 h.dl_src
    ++ (big_bytes 2 0x8100 ++ (big_bytes 2 (h.dl_vlan_pcp * 8192 + h.dl_vlan) ++ big_bytes 2 h.dl_type)))

header-plain : (h : Header) → (h.dl_vlan == 0xffff) ≡ true → ethernet_header h ≡ plain_bytes h
unfolding ethernet_header
header-plain h e = ap (λ (rest : List ℕ). big_bytes 6 h.dl_dst ++ (big_bytes 6 h.dl_src ++ rest)) (if-true _ _ _ e)

header-tagged : (h : Header) → (h.dl_vlan == 0xffff) ≡ false → ethernet_header h ≡ tagged_bytes h
unfolding ethernet_header
header-tagged h e = ap (λ (rest : List ℕ). big_bytes 6 h.dl_dst ++ (big_bytes 6 h.dl_src ++ rest)) (if-false _ _ _ e)

plain-link : (h : Header) (rest : List ℕ) → InRange h → is_type h.dl_type ≡ true
    → ethernet_of (plain_bytes h ++ rest)
    ≡ Some (record { dl_src = h.dl_src; dl_dst = h.dl_dst; dl_vlan = 0xffff; dl_vlan_pcp = 0; dl_type = h.dl_type; size = 14 })
plain-link h rest r t =
    plain-read (plain_bytes h ++ rest) h.dl_src h.dl_dst h.dl_type (omega arith)
    (big_number-reads_back 2 h.dl_type rest r.dl_type) t
    (big_number-reads_back 6 h.dl_src (big_bytes 2 h.dl_type ++ rest) r.dl_src)
    (big_number-reads_back 6 h.dl_dst (big_bytes 6 h.dl_src ++ (big_bytes 2 h.dl_type ++ rest)) r.dl_dst)

tagged-link : (h : Header) (rest : List ℕ) → InRange h → h.dl_vlan < 4096 → h.dl_vlan_pcp < 8 → is_type h.dl_type ≡ true
    → ethernet_of (tagged_bytes h ++ rest)
    ≡ Some (record { dl_src = h.dl_src; dl_dst = h.dl_dst; dl_vlan = h.dl_vlan; dl_vlan_pcp = h.dl_vlan_pcp; dl_type = h.dl_type; size = 18 })
tagged-link h rest r v p t =
    tagged-read (tagged_bytes h ++ rest) h.dl_src h.dl_dst h.dl_type h.dl_vlan h.dl_vlan_pcp (omega arith)
    refl
    (big_number-reads_back 2 (h.dl_vlan_pcp * 8192 + h.dl_vlan) (big_bytes 2 h.dl_type ++ rest) (omega arith)) v p
    (big_number-reads_back 2 h.dl_type rest r.dl_type) t
    (big_number-reads_back 6 h.dl_src (drop 12 (tagged_bytes h ++ rest)) r.dl_src)
    (big_number-reads_back 6 h.dl_dst (drop 6 (tagged_bytes h ++ rest)) r.dl_dst)

by-test : (b : Bool) {P : Type 0} → (b ≡ true → P) → (b ≡ false → P) → P
by-test true f g = f refl
by-test false f g = g refl

-- what is read of the header, and where what follows it begins
pub link-read : (h : Header) (rest : List ℕ) → InRange h → is_type h.dl_type ≡ true
    → (h.dl_vlan ≡ 0xffff → h.dl_vlan_pcp ≡ 0) → (h.dl_vlan ≢ 0xffff → (h.dl_vlan < 4096) × (h.dl_vlan_pcp < 8))
    → (ethernet_of (ethernet_header h ++ rest) ≡ Some (link h)) × (length (ethernet_header h) ≡ ethernet_size h)
link-read h rest r t no_tag tag =
    by-test (h.dl_vlan == 0xffff)
    (λ e.
    let v : h.dl_vlan ≡ 0xffff = eqb-true _ _ e in
    let p : h.dl_vlan_pcp ≡ 0 = no_tag v in
    let size : ethernet_size h ≡ 14 = if-true _ _ _ e in (
      ap (λ (front : List ℕ). ethernet_of (front ++ rest)) (header-plain h e) ∙ plain-link h rest r t ∙ simp (v, p),
      ap (λ (front : List ℕ). length front) (header-plain h e) ∙ sym size,
    ))
    (λ e.
    let n : h.dl_vlan ≢ 0xffff = λ (v : h.dl_vlan ≡ 0xffff). absurd (let y : (h.dl_vlan == 0xffff) ≡ true = eq-eqb _ _ v in cc) in
    let size : ethernet_size h ≡ 18 = if-false _ _ _ e in (
      ap (λ (front : List ℕ). ethernet_of (front ++ rest)) (header-tagged h e)
          ∙ tagged-link h rest r (tag n).0 (tag n).1 t ∙ ap (λ (k : ℕ). Some (record (link h) { size = k })) (sym size),
      ap (λ (front : List ℕ). length front) (header-tagged h e) ∙ sym size,
    ))
