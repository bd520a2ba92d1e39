-- The normalised form is one, and is unchanged when it is normalised again.
use Rattle.std.proofs.Common.{◌≡◌, ℕ, ◌*◌, ◌/◌, ◌^◌, ◌≤◌, Bool, true, false, refl, ap, ◌∙◌, arith}
use Rattle.std.proofs.Math.Nat.{mul-div_cancel}
use Rattle.std.proofs.lemmas.Nat.{pow_pos}
use Rattle.mon_header.specs.declared.header.Header.{Header}
use Rattle.mon_header.specs.declared.wild.Wildcards.{Wildcards}
use Rattle.mon_header.specs.Wild.{packed, unpacked}
use Rattle.mon_header.proofs.Packing.{unpacked-packed}
use Rattle.mon_header.specs.Matching.{Matching, normal, kept, kept_above, InRange, IsNormal}

pub kept-twice : (wild : Bool) (x : ℕ) → kept wild (kept wild x) ≡ kept wild x
kept-twice true x = refl
kept-twice false x = refl

pub kept-upper-twice : (wild : Bool) (x : ℕ) → kept wild (kept wild (x / 4 * 4) / 4 * 4) ≡ kept wild (x / 4 * 4)
kept-upper-twice true x = refl
kept-upper-twice false x = omega arith

pub kept_above-twice : (count x : ℕ) → kept_above count (kept_above count x) ≡ kept_above count x
kept_above-twice count x = ap (λ (y : ℕ). y * 2 ^ count) (mul-div_cancel (x / 2 ^ count) (pow_pos count))

pub normal-again : (w : Wildcards) (h : Header) → normal w (normal w h).fields ≡ normal w h
unfolding normal
normal-again w h =
    rw (
      kept-twice w.in_port h.in_port,
      kept-twice w.dl_src h.dl_src,
      kept-twice w.dl_dst h.dl_dst,
      kept-twice w.dl_vlan h.dl_vlan,
      kept-twice w.dl_vlan_pcp h.dl_vlan_pcp,
      kept-twice w.dl_type h.dl_type,
      kept-upper-twice w.nw_tos h.nw_tos,
      kept-twice w.nw_proto h.nw_proto,
      kept_above-twice w.nw_src h.nw_src,
      kept_above-twice w.nw_dst h.nw_dst,
      kept-twice w.tp_src h.tp_src,
      kept-twice w.tp_dst h.tp_dst,
    ) refl

-- fields that are the kept ones of a header make a normalised match
pub kept-is-normal : (w : Wildcards) (h kept_ones : Header) → w.nw_src ≤ 32 → w.nw_dst ≤ 32 → kept_ones ≡ (normal w h).fields → InRange kept_ones
    → IsNormal (record { wild = w; fields = kept_ones })
unfolding normal
kept-is-normal w h kept_ones s d e r = record {
  same = rw (e) (normal-again w h);
  nw_src_count = s;
  nw_dst_count = d;
  range = r;
}

pub kept-is-value : (w v : Wildcards) (h kept_ones : Header) → w ≡ v → kept_ones ≡ (normal w h).fields
    → (let m : Matching = record { wild = w; fields = kept_ones } in m) ≡ normal v h
unfolding normal
kept-is-value w v h kept_ones e f = rw (f, e) refl

pub normal-kept : (m : Matching) → IsNormal m → normal (unpacked (packed m.wild)) m.fields ≡ m
normal-kept m p = ap (λ (w : Wildcards). normal w m.fields) (unpacked-packed m.wild p.nw_src_count p.nw_dst_count) ∙ p.same

-- the law
pub ruleset keeping = (normal-kept)
