-- Headers that agree in each field are equal.
use Rattle.std.proofs.Common.{◌≡◌, true, refl}
use Rattle.std.proofs.lemmas.Bool.{eqb-true, eq-eqb}
use Rattle.mon_header.specs.declared.header.Header.{Header}
use Rattle.mon_header.specs.Same.{same_header}
use Rattle.mon_header.proofs.Twelve.{split, join}
use Rattle.mon_header.proofs.Made.{numbers-of}

pub same_header-is : (a b : Header) → same_header a b ≡ true → a ≡ b
unfolding same_header
same_header-is a b e =
    let t = split _ _ _ _ _ _ _ _ _ _ _ _ e in
    let e1 : a.in_port ≡ b.in_port = eqb-true _ _ t.in_port in
    let e2 : a.dl_src ≡ b.dl_src = eqb-true _ _ t.dl_src in
    let e3 : a.dl_dst ≡ b.dl_dst = eqb-true _ _ t.dl_dst in
    let e4 : a.dl_vlan ≡ b.dl_vlan = eqb-true _ _ t.dl_vlan in
    let e5 : a.dl_vlan_pcp ≡ b.dl_vlan_pcp = eqb-true _ _ t.dl_vlan_pcp in
    let e6 : a.dl_type ≡ b.dl_type = eqb-true _ _ t.dl_type in
    let e7 : a.nw_tos ≡ b.nw_tos = eqb-true _ _ t.nw_tos in
    let e8 : a.nw_proto ≡ b.nw_proto = eqb-true _ _ t.nw_proto in
    let e9 : a.nw_src ≡ b.nw_src = eqb-true _ _ t.nw_src in
    let e10 : a.nw_dst ≡ b.nw_dst = eqb-true _ _ t.nw_dst in
    let e11 : a.tp_src ≡ b.tp_src = eqb-true _ _ t.tp_src in
    let e12 : a.tp_dst ≡ b.tp_dst = eqb-true _ _ t.tp_dst in
    cc (numbers-of a, numbers-of b)

pub same_header-self : (a : Header) → same_header a a ≡ true
unfolding same_header
same_header-self a =
    join _ _ _ _ _ _ _ _ _ _ _ _ (record {
      in_port = eq-eqb a.in_port _ refl;
      dl_src = eq-eqb a.dl_src _ refl;
      dl_dst = eq-eqb a.dl_dst _ refl;
      dl_vlan = eq-eqb a.dl_vlan _ refl;
      dl_vlan_pcp = eq-eqb a.dl_vlan_pcp _ refl;
      dl_type = eq-eqb a.dl_type _ refl;
      nw_tos = eq-eqb a.nw_tos _ refl;
      nw_proto = eq-eqb a.nw_proto _ refl;
      nw_src = eq-eqb a.nw_src _ refl;
      nw_dst = eq-eqb a.nw_dst _ refl;
      tp_src = eq-eqb a.tp_src _ refl;
      tp_dst = eq-eqb a.tp_dst _ refl;
    })
