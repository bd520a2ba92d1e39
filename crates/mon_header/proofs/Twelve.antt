-- Something for each of the twelve fields; twelve tests joined into one, and taken apart again.
use Rattle.std.proofs.Common.{◌≡◌, Bool, true, false, refl, ap, ◌∙◌}
use Rattle.std.specs.Prelude.{◌&&◌}

-- one thing for each field, in their order
pub record Twelve (a b c d e f g h i j k l : Type 0) : Type 0 where
  pub in_port : a
  pub dl_src : b
  pub dl_dst : c
  pub dl_vlan : d
  pub dl_vlan_pcp : e
  pub dl_type : f
  pub nw_tos : g
  pub nw_proto : h
  pub nw_src : i
  pub nw_dst : j
  pub tp_src : k
  pub tp_dst : l

pub first : (a b : Bool) → (a && b) ≡ true → a ≡ true
first true b p = refl
first false b p = p

pub second : (a b : Bool) → (a && b) ≡ true → b ≡ true
second true b p = p
second false b p = absurd cc

pub both : (a b : Bool) → a ≡ true → b ≡ true → (a && b) ≡ true
both a b p q = ap (λ (x : Bool). x && b) p ∙ q

-- each of twelve tests holds
abbrev pub Yes : (a b c d e f g h i j k l : Bool) → Type 0
Yes a b c d e f g h i j k l =
    Twelve (a ≡ true) (b ≡ true) (c ≡ true) (d ≡ true) (e ≡ true) (f ≡ true)
    (g ≡ true) (h ≡ true) (i ≡ true) (j ≡ true) (k ≡ true) (l ≡ true)

pub split : (a b c d e f g h i j k l : Bool) → (a && (b && (c && (d && (e && (f && (g && (h && (i && (j && (k && l))))))))))) ≡ true → Yes a b c d e f g h i j k l
split a b c d e f g h i j k l p0 =
    let p1 : (b && (c && (d && (e && (f && (g && (h && (i && (j && (k && l)))))))))) ≡ true = second _ _ p0 in
    let p2 : (c && (d && (e && (f && (g && (h && (i && (j && (k && l))))))))) ≡ true = second _ _ p1 in
    let p3 : (d && (e && (f && (g && (h && (i && (j && (k && l)))))))) ≡ true = second _ _ p2 in
    let p4 : (e && (f && (g && (h && (i && (j && (k && l))))))) ≡ true = second _ _ p3 in
    let p5 : (f && (g && (h && (i && (j && (k && l)))))) ≡ true = second _ _ p4 in
    let p6 : (g && (h && (i && (j && (k && l))))) ≡ true = second _ _ p5 in
    let p7 : (h && (i && (j && (k && l)))) ≡ true = second _ _ p6 in
    let p8 : (i && (j && (k && l))) ≡ true = second _ _ p7 in
    let p9 : (j && (k && l)) ≡ true = second _ _ p8 in
    let p10 : (k && l) ≡ true = second _ _ p9 in
    let p11 : l ≡ true = second _ _ p10 in
    record {
      in_port = first _ _ p0;
      dl_src = first _ _ p1;
      dl_dst = first _ _ p2;
      dl_vlan = first _ _ p3;
      dl_vlan_pcp = first _ _ p4;
      dl_type = first _ _ p5;
      nw_tos = first _ _ p6;
      nw_proto = first _ _ p7;
      nw_src = first _ _ p8;
      nw_dst = first _ _ p9;
      tp_src = first _ _ p10;
      tp_dst = p11;
    }

pub join : (a b c d e f g h i j k l : Bool) → Yes a b c d e f g h i j k l → (a && (b && (c && (d && (e && (f && (g && (h && (i && (j && (k && l))))))))))) ≡ true
join a b c d e f g h i j k l t = both _ _ t.in_port (both _ _ t.dl_src (both _ _ t.dl_dst (both _ _ t.dl_vlan (both _ _ t.dl_vlan_pcp (both _ _ t.dl_type (both _ _ t.nw_tos (both _ _ t.nw_proto (both _ _ t.nw_src (both _ _ t.nw_dst (both _ _ t.tp_src t.tp_dst))))))))))
