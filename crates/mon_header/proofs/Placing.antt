-- Where the bits of each field stand.
use Rattle.std.proofs.Common.{◌≡◌, ℕ, ◌+◌, ◌-◌, ◌<◌, Bool, false, List, [], ◌∷◌, ◌++◌, get_or, ap, ◌∙◌, arith}
use Rattle.mon_header.specs.declared.header.Header.{Header}
use Rattle.mon_header.specs.Wild.{bit}
use Rattle.mon_header.specs.Places.{laid, bits_of, joined, bit_at}
use Rattle.mon_header.proofs.Bits.{get-within, get-beyond}

abbrev widths : List (ℕ × ℕ) → ℕ
widths [] = 0
widths (field ∷ fields) = field.0 + widths fields

-- a place within the field that stands behind others
place-of : (before after : List (ℕ × ℕ)) (count x n : ℕ) → n < count
    → get_or (joined (before ++ (count, x) ∷ after)) (widths before + n) false ≡ bit x (count - 1 - n)
place-of [] after count x n h =
    let e : 0 + n ≡ n = omega arith in
    ap (λ (p : ℕ). get_or (bits_of count x ++ joined after) p false) e ∙ get-within count x n (joined after) h
place-of (field ∷ fields) after count x n h =
    let rest : List Bool = joined (fields ++ (count, x) ∷ after) in
    let e : field.0 + widths fields + n - field.0 ≡ widths fields + n = omega arith in
    get-beyond field.0 field.1 (field.0 + widths fields + n) rest (omega arith)
    ∙ ap (λ (p : ℕ). get_or rest p false) e
    ∙ place-of fields after count x n h

pub in_port-places : (h : Header) (n : ℕ) → n < 16 → bit_at h (0 + n) ≡ bit h.in_port (15 - n)
unfolding laid
in_port-places h n p = place-of ([]) ((48, h.dl_src) ∷ (48, h.dl_dst) ∷ (16, h.dl_vlan) ∷ (8, h.dl_vlan_pcp) ∷ (16, h.dl_type) ∷ (8, h.nw_tos) ∷ (8, h.nw_proto) ∷ (32, h.nw_src) ∷ (32, h.nw_dst) ∷ (16, h.tp_src) ∷ (16, h.tp_dst) ∷ []) 16 h.in_port n p

pub dl_src-places : (h : Header) (n : ℕ) → n < 48 → bit_at h (16 + n) ≡ bit h.dl_src (47 - n)
unfolding laid
dl_src-places h n p = place-of ((16, h.in_port) ∷ []) ((48, h.dl_dst) ∷ (16, h.dl_vlan) ∷ (8, h.dl_vlan_pcp) ∷ (16, h.dl_type) ∷ (8, h.nw_tos) ∷ (8, h.nw_proto) ∷ (32, h.nw_src) ∷ (32, h.nw_dst) ∷ (16, h.tp_src) ∷ (16, h.tp_dst) ∷ []) 48 h.dl_src n p

pub dl_dst-places : (h : Header) (n : ℕ) → n < 48 → bit_at h (64 + n) ≡ bit h.dl_dst (47 - n)
unfolding laid
dl_dst-places h n p = place-of ((16, h.in_port) ∷ (48, h.dl_src) ∷ []) ((16, h.dl_vlan) ∷ (8, h.dl_vlan_pcp) ∷ (16, h.dl_type) ∷ (8, h.nw_tos) ∷ (8, h.nw_proto) ∷ (32, h.nw_src) ∷ (32, h.nw_dst) ∷ (16, h.tp_src) ∷ (16, h.tp_dst) ∷ []) 48 h.dl_dst n p

pub dl_vlan-places : (h : Header) (n : ℕ) → n < 16 → bit_at h (112 + n) ≡ bit h.dl_vlan (15 - n)
unfolding laid
dl_vlan-places h n p = place-of ((16, h.in_port) ∷ (48, h.dl_src) ∷ (48, h.dl_dst) ∷ []) ((8, h.dl_vlan_pcp) ∷ (16, h.dl_type) ∷ (8, h.nw_tos) ∷ (8, h.nw_proto) ∷ (32, h.nw_src) ∷ (32, h.nw_dst) ∷ (16, h.tp_src) ∷ (16, h.tp_dst) ∷ []) 16 h.dl_vlan n p

pub dl_vlan_pcp-places : (h : Header) (n : ℕ) → n < 8 → bit_at h (128 + n) ≡ bit h.dl_vlan_pcp (7 - n)
unfolding laid
dl_vlan_pcp-places h n p = place-of ((16, h.in_port) ∷ (48, h.dl_src) ∷ (48, h.dl_dst) ∷ (16, h.dl_vlan) ∷ []) ((16, h.dl_type) ∷ (8, h.nw_tos) ∷ (8, h.nw_proto) ∷ (32, h.nw_src) ∷ (32, h.nw_dst) ∷ (16, h.tp_src) ∷ (16, h.tp_dst) ∷ []) 8 h.dl_vlan_pcp n p

pub dl_type-places : (h : Header) (n : ℕ) → n < 16 → bit_at h (136 + n) ≡ bit h.dl_type (15 - n)
unfolding laid
dl_type-places h n p = place-of ((16, h.in_port) ∷ (48, h.dl_src) ∷ (48, h.dl_dst) ∷ (16, h.dl_vlan) ∷ (8, h.dl_vlan_pcp) ∷ []) ((8, h.nw_tos) ∷ (8, h.nw_proto) ∷ (32, h.nw_src) ∷ (32, h.nw_dst) ∷ (16, h.tp_src) ∷ (16, h.tp_dst) ∷ []) 16 h.dl_type n p

pub nw_tos-places : (h : Header) (n : ℕ) → n < 8 → bit_at h (152 + n) ≡ bit h.nw_tos (7 - n)
unfolding laid
nw_tos-places h n p = place-of ((16, h.in_port) ∷ (48, h.dl_src) ∷ (48, h.dl_dst) ∷ (16, h.dl_vlan) ∷ (8, h.dl_vlan_pcp) ∷ (16, h.dl_type) ∷ []) ((8, h.nw_proto) ∷ (32, h.nw_src) ∷ (32, h.nw_dst) ∷ (16, h.tp_src) ∷ (16, h.tp_dst) ∷ []) 8 h.nw_tos n p

pub nw_proto-places : (h : Header) (n : ℕ) → n < 8 → bit_at h (160 + n) ≡ bit h.nw_proto (7 - n)
unfolding laid
nw_proto-places h n p = place-of ((16, h.in_port) ∷ (48, h.dl_src) ∷ (48, h.dl_dst) ∷ (16, h.dl_vlan) ∷ (8, h.dl_vlan_pcp) ∷ (16, h.dl_type) ∷ (8, h.nw_tos) ∷ []) ((32, h.nw_src) ∷ (32, h.nw_dst) ∷ (16, h.tp_src) ∷ (16, h.tp_dst) ∷ []) 8 h.nw_proto n p

pub nw_src-places : (h : Header) (n : ℕ) → n < 32 → bit_at h (168 + n) ≡ bit h.nw_src (31 - n)
unfolding laid
nw_src-places h n p = place-of ((16, h.in_port) ∷ (48, h.dl_src) ∷ (48, h.dl_dst) ∷ (16, h.dl_vlan) ∷ (8, h.dl_vlan_pcp) ∷ (16, h.dl_type) ∷ (8, h.nw_tos) ∷ (8, h.nw_proto) ∷ []) ((32, h.nw_dst) ∷ (16, h.tp_src) ∷ (16, h.tp_dst) ∷ []) 32 h.nw_src n p

pub nw_dst-places : (h : Header) (n : ℕ) → n < 32 → bit_at h (200 + n) ≡ bit h.nw_dst (31 - n)
unfolding laid
nw_dst-places h n p = place-of ((16, h.in_port) ∷ (48, h.dl_src) ∷ (48, h.dl_dst) ∷ (16, h.dl_vlan) ∷ (8, h.dl_vlan_pcp) ∷ (16, h.dl_type) ∷ (8, h.nw_tos) ∷ (8, h.nw_proto) ∷ (32, h.nw_src) ∷ []) ((16, h.tp_src) ∷ (16, h.tp_dst) ∷ []) 32 h.nw_dst n p

pub tp_src-places : (h : Header) (n : ℕ) → n < 16 → bit_at h (232 + n) ≡ bit h.tp_src (15 - n)
unfolding laid
tp_src-places h n p = place-of ((16, h.in_port) ∷ (48, h.dl_src) ∷ (48, h.dl_dst) ∷ (16, h.dl_vlan) ∷ (8, h.dl_vlan_pcp) ∷ (16, h.dl_type) ∷ (8, h.nw_tos) ∷ (8, h.nw_proto) ∷ (32, h.nw_src) ∷ (32, h.nw_dst) ∷ []) ((16, h.tp_dst) ∷ []) 16 h.tp_src n p

pub tp_dst-places : (h : Header) (n : ℕ) → n < 16 → bit_at h (248 + n) ≡ bit h.tp_dst (15 - n)
unfolding laid
tp_dst-places h n p = place-of ((16, h.in_port) ∷ (48, h.dl_src) ∷ (48, h.dl_dst) ∷ (16, h.dl_vlan) ∷ (8, h.dl_vlan_pcp) ∷ (16, h.dl_type) ∷ (8, h.nw_tos) ∷ (8, h.nw_proto) ∷ (32, h.nw_src) ∷ (32, h.nw_dst) ∷ (16, h.tp_src) ∷ []) ([]) 16 h.tp_dst n p
