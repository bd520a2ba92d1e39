-- The number of wildcards gives them back, where the counts are in range.
use Rattle.std.proofs.Common.{◌≡◌, ℕ, ◌/◌, ◌%◌, ◌^◌, ◌<◌, ◌≤◌, Bool, true, false, refl, sym, ap, ◌∙◌, arith}
use Rattle.std.specs.Prelude.{min, ◌==◌}
use Rattle.mon_header.specs.declared.wild.Wildcards.{Wildcards}
use Rattle.mon_header.specs.Wild.{flag, packed, unpacked}

flag-le : (f : Bool) → flag f ≤ 1
flag-le true = omega arith
flag-le false = omega arith

flag-is : (f : Bool) → (flag f == 1) ≡ f
flag-is true = refl
flag-is false = refl

-- each digit of the number is small
record Small (w : Wildcards) : Type 0 where
  in_port : flag w.in_port ≤ 1
  dl_vlan : flag w.dl_vlan ≤ 1
  dl_src : flag w.dl_src ≤ 1
  dl_dst : flag w.dl_dst ≤ 1
  dl_type : flag w.dl_type ≤ 1
  nw_proto : flag w.nw_proto ≤ 1
  tp_src : flag w.tp_src ≤ 1
  tp_dst : flag w.tp_dst ≤ 1
  dl_vlan_pcp : flag w.dl_vlan_pcp ≤ 1
  nw_tos : flag w.nw_tos ≤ 1
  nw_src : w.nw_src ≤ 32
  nw_dst : w.nw_dst ≤ 32

small : (w : Wildcards) → w.nw_src ≤ 32 → w.nw_dst ≤ 32 → Small w
small w s d = record {
  in_port = flag-le w.in_port;
  dl_vlan = flag-le w.dl_vlan;
  dl_src = flag-le w.dl_src;
  dl_dst = flag-le w.dl_dst;
  dl_type = flag-le w.dl_type;
  nw_proto = flag-le w.nw_proto;
  tp_src = flag-le w.tp_src;
  tp_dst = flag-le w.tp_dst;
  dl_vlan_pcp = flag-le w.dl_vlan_pcp;
  nw_tos = flag-le w.nw_tos;
  nw_src = s;
  nw_dst = d;
}

-- each digit of the number is the flag or the count that stands there
record Digits (w : Wildcards) : Type 0 where
  in_port : packed w / 2 ^ 0 % 2 ≡ flag w.in_port
  dl_vlan : packed w / 2 ^ 1 % 2 ≡ flag w.dl_vlan
  dl_src : packed w / 2 ^ 2 % 2 ≡ flag w.dl_src
  dl_dst : packed w / 2 ^ 3 % 2 ≡ flag w.dl_dst
  dl_type : packed w / 2 ^ 4 % 2 ≡ flag w.dl_type
  nw_proto : packed w / 2 ^ 5 % 2 ≡ flag w.nw_proto
  tp_src : packed w / 2 ^ 6 % 2 ≡ flag w.tp_src
  tp_dst : packed w / 2 ^ 7 % 2 ≡ flag w.tp_dst
  dl_vlan_pcp : packed w / 2 ^ 20 % 2 ≡ flag w.dl_vlan_pcp
  nw_tos : packed w / 2 ^ 21 % 2 ≡ flag w.nw_tos
  nw_src : min (packed w / 2 ^ 8 % 64) 32 ≡ w.nw_src
  nw_dst : min (packed w / 2 ^ 14 % 64) 32 ≡ w.nw_dst

digits : (w : Wildcards) → Small w → Digits w
unfolding packed
digits w f = record {
  in_port = omega arith;
  dl_vlan = omega arith;
  dl_src = omega arith;
  dl_dst = omega arith;
  dl_type = omega arith;
  nw_proto = omega arith;
  tp_src = omega arith;
  tp_dst = omega arith;
  dl_vlan_pcp = omega arith;
  nw_tos = omega arith;
  nw_src = omega arith;
  nw_dst = omega arith;
}

digit-is : (n : ℕ) (f : Bool) → n ≡ flag f → (n == 1) ≡ f
digit-is n f e = ap (λ (x : ℕ). x == 1) e ∙ flag-is f

again : (w : Wildcards) → Small w → unpacked (packed w) ≡ w
unfolding unpacked
again w f =
    let d : Digits w = digits w f in
    simp (
      digit-is _ _ d.in_port,
      digit-is _ _ d.dl_vlan,
      digit-is _ _ d.dl_src,
      digit-is _ _ d.dl_dst,
      digit-is _ _ d.dl_type,
      digit-is _ _ d.nw_proto,
      digit-is _ _ d.tp_src,
      digit-is _ _ d.tp_dst,
      digit-is _ _ d.dl_vlan_pcp,
      digit-is _ _ d.nw_tos,
      d.nw_src,
      d.nw_dst,
    )

pub unpacked-packed : (w : Wildcards) → w.nw_src ≤ 32 → w.nw_dst ≤ 32 → unpacked (packed w) ≡ w
unpacked-packed w s d = again w (small w s d)

pub packed-below : (w : Wildcards) → w.nw_src ≤ 32 → w.nw_dst ≤ 32 → packed w < 2 ^ 32
unfolding packed
packed-below w s d = let f : Small w = small w s d in omega arith

-- one number stands for one set of wildcards
pub packed-same : (v w : Wildcards) → v.nw_src ≤ 32 → v.nw_dst ≤ 32 → w.nw_src ≤ 32 → w.nw_dst ≤ 32 → packed v ≡ packed w → v ≡ w
packed-same v w vs vd ws wd e = sym (unpacked-packed v vs vd) ∙ (ap unpacked e ∙ unpacked-packed w ws wd)
