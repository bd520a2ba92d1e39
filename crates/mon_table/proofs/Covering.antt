-- A match that takes what two others take.
use Rattle.std.proofs.Common.{◌≡◌, ℕ, ◌/◌, ◌*◌, ◌^◌, ◌≤◌, Bool, true, false, refl, sym, ap, subst, ◌∙◌, ◌⊎◌, inl, inr, ⊎_elim}
use Rattle.std.specs.Prelude.{◌==◌, nat_le, not, ◌&&◌, ◌||◌}
use Rattle.std.proofs.lemmas.Bool.{eqb-true, eq-eqb, false≢true}
use Rattle.std.proofs.Math.Nat.{mul-div_cancel}
use Rattle.std.proofs.lemmas.Nat.{pow_pos}
use Rattle.std.proofs.lemmas.Bool.Decides.{leb_tells}
use Rattle.mon_header.specs.declared.header.Header.{Header}
use Rattle.mon_header.specs.declared.wild.Wildcards.{Wildcards}
use Rattle.mon_header.specs.Wild.{packed, unpacked}
use Rattle.mon_header.specs.Matching.{Matching, IsNormal, normal, kept, kept_above, agree_above, takes, covers_field, covers_address, covers}
use Rattle.mon_header.proofs.Agreeing.{agree-up}
use Rattle.mon_header.proofs.Packing.{unpacked-packed}
use Rattle.mon_header.proofs.Fields.{Fields, each, pairs, left, right}
use Rattle.mon_table.specs.Covers.{TakesAll, is_apart, BitsApart, AreApart}

covers-takes : (wide narrow : Bool) (x y z : ℕ) → covers_field wide narrow x y ≡ true → takes narrow y z ≡ true → takes wide x z ≡ true
unfolding takes covers_field
covers-takes true narrow x y z p q = refl
covers-takes false true x y z p q = absurd cc
covers-takes false false x y z p q = eq-eqb x z (eqb-true x y p ∙ eqb-true y z q)

address-takes : (wide narrow x y z : ℕ) → covers_address wide narrow x y ≡ true → agree_above narrow y z ≡ true → agree_above wide x z ≡ true
unfolding covers_address
address-takes wide narrow x y z p q =
    elim (leb_tells narrow wide) as (λ s. (nat_le narrow wide && agree_above wide x y) ≡ true → agree_above wide x z ≡ true) [
      | inl le ↦ rw le.0 (λ h. eq-eqb (x / 2 ^ wide) (z / 2 ^ wide) (eqb-true (x / 2 ^ wide) (y / 2 ^ wide) h ∙ agree-up narrow wide y z le.1 q))
      | inr gt ↦ rw gt.0 (λ h. absurd cc)
    ] p

-- what a match covers, it takes
pub covers-all : (w n : Matching) → covers w n ≡ true → TakesAll w n
unfolding covers
covers-all w n e = λ (h : Header) m.
    (left w n h).1 (each _ _ _ _ _ _ w n h covers-takes address-takes ((pairs covers_field covers_address w n h).0 e) ((right w n h).0 m))

pub takes-itself : (m : Matching) → TakesAll m m
takes-itself m = λ (h : Header) e. e

-- a plain field of a match that is wide enough for another's
abbrev Wide : Bool → Bool → ℕ → ℕ → ℕ → Type 0
Wide v w x y z = (v ≡ true) ⊎ ((w ≡ false) × (x ≡ y))

-- an address
abbrev WideAddress : ℕ → ℕ → ℕ → ℕ → ℕ → Type 0
WideAddress v w x y z = (w ≤ v) × (x / 2 ^ v ≡ y / 2 ^ v)

not-false : (b : Bool) → not b ≡ false → b ≡ true
not-false true e = refl
not-false false e = absurd (false≢true (sym e))

wide-takes : (v w : Bool) (x y z : ℕ) → Wide v w x y z → takes w y z ≡ true → takes v x z ≡ true
unfolding takes
wide-takes true w x y z p q = refl
wide-takes false w x y z p q = ⊎_elim
    (λ (e : false ≡ true). absurd (false≢true e))
    (λ e. eq-eqb x z (e.1 ∙ eqb-true y z (subst (λ (b : Bool). (b || (y == z)) ≡ true) e.0 q)))
    p

wide-agrees : (v w x y z : ℕ) → WideAddress v w x y z → agree_above w y z ≡ true → agree_above v x z ≡ true
wide-agrees v w x y z p q = eq-eqb (x / 2 ^ v) (z / 2 ^ v) (p.1 ∙ agree-up w v y z p.0 q)

same-plain : (x y : ℕ) → false ≡ not (x == y) → x ≡ y
same-plain x y e = eqb-true x y (not-false (x == y) (sym e))

wide-first : (v a b : Bool) (x y z : ℕ) → v ≡ is_apart a b x y → Wide v a (kept v x) x z
wide-first true a b x y z e = inl refl
wide-first false true b x y z e = absurd (false≢true e)
wide-first false false b x y z e = inr (refl, refl)

wide-second : (v a b : Bool) (x y z : ℕ) → v ≡ is_apart a b x y → Wide v b (kept v x) y z
wide-second true a b x y z e = inl refl
wide-second false true b x y z e = absurd (false≢true e)
wide-second false false true x y z e = absurd (false≢true e)
wide-second false false false x y z e = inr (refl, same-plain x y e)

-- the same of nw_tos, of which a match keeps the upper six bits
upper-first : (v a b : Bool) (x y z : ℕ) → v ≡ is_apart a b x y → kept a (x / 4 * 4) ≡ x → Wide v a (kept v (x / 4 * 4)) x z
upper-first true a b x y z e n = inl refl
upper-first false true b x y z e n = absurd (false≢true e)
upper-first false false b x y z e n = inr (refl, n)

upper-second : (v a b : Bool) (x y z : ℕ) → v ≡ is_apart a b x y → kept a (x / 4 * 4) ≡ x → Wide v b (kept v (x / 4 * 4)) y z
upper-second true a b x y z e n = inl refl
upper-second false true b x y z e n = absurd (false≢true e)
upper-second false false true x y z e n = absurd (false≢true e)
upper-second false false false x y z e n = inr (refl, n ∙ same-plain x y e)

address-first : (v a b x y z : ℕ) → BitsApart a b x y v → WideAddress v a (kept_above v x) x z
address-first v a b x y z p = (p.first, mul-div_cancel (x / 2 ^ v) (pow_pos v))

address-second : (v a b x y z : ℕ) → BitsApart a b x y v → WideAddress v b (kept_above v x) y z
address-second v a b x y z p = (p.second, mul-div_cancel (x / 2 ^ v) (pow_pos v) ∙ p.agree)

upper-kept : (a : Matching) → IsNormal a → kept a.wild.nw_tos (a.fields.nw_tos / 4 * 4) ≡ a.fields.nw_tos
unfolding normal
upper-kept a n = ap (λ (m : Matching). m.fields.nw_tos) n.same

fields-first : (w : Wildcards) (a b : Matching) (h : Header) → AreApart a b w → IsNormal a → Fields Wide WideAddress (normal w a.fields) a h
unfolding normal
fields-first w a b h p n = record {
  fields = record {
    in_port = wide-first w.in_port a.wild.in_port b.wild.in_port a.fields.in_port b.fields.in_port h.in_port p.in_port;
    dl_src = wide-first w.dl_src a.wild.dl_src b.wild.dl_src a.fields.dl_src b.fields.dl_src h.dl_src p.dl_src;
    dl_dst = wide-first w.dl_dst a.wild.dl_dst b.wild.dl_dst a.fields.dl_dst b.fields.dl_dst h.dl_dst p.dl_dst;
    dl_vlan = wide-first w.dl_vlan a.wild.dl_vlan b.wild.dl_vlan a.fields.dl_vlan b.fields.dl_vlan h.dl_vlan p.dl_vlan;
    dl_vlan_pcp = wide-first w.dl_vlan_pcp a.wild.dl_vlan_pcp b.wild.dl_vlan_pcp a.fields.dl_vlan_pcp b.fields.dl_vlan_pcp h.dl_vlan_pcp p.dl_vlan_pcp;
    dl_type = wide-first w.dl_type a.wild.dl_type b.wild.dl_type a.fields.dl_type b.fields.dl_type h.dl_type p.dl_type;
    nw_tos = upper-first w.nw_tos a.wild.nw_tos b.wild.nw_tos a.fields.nw_tos b.fields.nw_tos h.nw_tos p.nw_tos (upper-kept a n);
    nw_proto = wide-first w.nw_proto a.wild.nw_proto b.wild.nw_proto a.fields.nw_proto b.fields.nw_proto h.nw_proto p.nw_proto;
    nw_src = address-first w.nw_src a.wild.nw_src b.wild.nw_src a.fields.nw_src b.fields.nw_src h.nw_src p.nw_src;
    nw_dst = address-first w.nw_dst a.wild.nw_dst b.wild.nw_dst a.fields.nw_dst b.fields.nw_dst h.nw_dst p.nw_dst;
    tp_src = wide-first w.tp_src a.wild.tp_src b.wild.tp_src a.fields.tp_src b.fields.tp_src h.tp_src p.tp_src;
    tp_dst = wide-first w.tp_dst a.wild.tp_dst b.wild.tp_dst a.fields.tp_dst b.fields.tp_dst h.tp_dst p.tp_dst;
  };
}

fields-second : (w : Wildcards) (a b : Matching) (h : Header) → AreApart a b w → IsNormal a → Fields Wide WideAddress (normal w a.fields) b h
unfolding normal
fields-second w a b h p n = record {
  fields = record {
    in_port = wide-second w.in_port a.wild.in_port b.wild.in_port a.fields.in_port b.fields.in_port h.in_port p.in_port;
    dl_src = wide-second w.dl_src a.wild.dl_src b.wild.dl_src a.fields.dl_src b.fields.dl_src h.dl_src p.dl_src;
    dl_dst = wide-second w.dl_dst a.wild.dl_dst b.wild.dl_dst a.fields.dl_dst b.fields.dl_dst h.dl_dst p.dl_dst;
    dl_vlan = wide-second w.dl_vlan a.wild.dl_vlan b.wild.dl_vlan a.fields.dl_vlan b.fields.dl_vlan h.dl_vlan p.dl_vlan;
    dl_vlan_pcp = wide-second w.dl_vlan_pcp a.wild.dl_vlan_pcp b.wild.dl_vlan_pcp a.fields.dl_vlan_pcp b.fields.dl_vlan_pcp h.dl_vlan_pcp p.dl_vlan_pcp;
    dl_type = wide-second w.dl_type a.wild.dl_type b.wild.dl_type a.fields.dl_type b.fields.dl_type h.dl_type p.dl_type;
    nw_tos = upper-second w.nw_tos a.wild.nw_tos b.wild.nw_tos a.fields.nw_tos b.fields.nw_tos h.nw_tos p.nw_tos (upper-kept a n);
    nw_proto = wide-second w.nw_proto a.wild.nw_proto b.wild.nw_proto a.fields.nw_proto b.fields.nw_proto h.nw_proto p.nw_proto;
    nw_src = address-second w.nw_src a.wild.nw_src b.wild.nw_src a.fields.nw_src b.fields.nw_src h.nw_src p.nw_src;
    nw_dst = address-second w.nw_dst a.wild.nw_dst b.wild.nw_dst a.fields.nw_dst b.fields.nw_dst h.nw_dst p.nw_dst;
    tp_src = wide-second w.tp_src a.wild.tp_src b.wild.tp_src a.fields.tp_src b.fields.tp_src h.tp_src p.tp_src;
    tp_dst = wide-second w.tp_dst a.wild.tp_dst b.wild.tp_dst a.fields.tp_dst b.fields.tp_dst h.tp_dst p.tp_dst;
  };
}

takes-first : (w : Wildcards) (a b : Matching) → AreApart a b w → IsNormal a → TakesAll (normal w a.fields) a
takes-first w a b p n = λ (h : Header) m.
    (left (normal w a.fields) a h).1 (each _ _ _ _ _ _ (normal w a.fields) a h wide-takes wide-agrees (fields-first w a b h p n) ((right (normal w a.fields) a h).0 m))

takes-second : (w : Wildcards) (a b : Matching) → AreApart a b w → IsNormal a → TakesAll (normal w a.fields) b
takes-second w a b p n = λ (h : Header) m.
    (left (normal w a.fields) b h).1 (each _ _ _ _ _ _ (normal w a.fields) b h wide-takes wide-agrees (fields-second w a b h p n) ((right (normal w a.fields) b h).0 m))

made-so : (w : Wildcards) (a b made : Matching) (n : ℕ) → AreApart a b w → n ≡ packed w → made ≡ normal (unpacked n) a.fields → made ≡ normal w a.fields
made-so w a b made n p e f = f ∙ ap (λ (v : Wildcards). normal v a.fields) (ap unpacked e ∙ unpacked-packed w p.src_count p.dst_count)

pub made-first : (w : Wildcards) (a b made : Matching) (n : ℕ) → AreApart a b w → IsNormal a → n ≡ packed w → made ≡ normal (unpacked n) a.fields → TakesAll made a
made-first w a b made n p s e f = subst (λ (m : Matching). TakesAll m a) (sym (made-so w a b made n p e f)) (takes-first w a b p s)

pub made-second : (w : Wildcards) (a b made : Matching) (n : ℕ) → AreApart a b w → IsNormal a → n ≡ packed w → made ≡ normal (unpacked n) a.fields → TakesAll made b
made-second w a b made n p s e f = subst (λ (m : Matching). TakesAll m b) (sym (made-so w a b made n p e f)) (takes-second w a b p s)

pub ruleset covering = (covers-all, takes-itself)
