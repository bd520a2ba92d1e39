-- What a class says of its headers, and that actions keep it.
use Rattle.std.proofs.Common.{◌≡◌, ℕ, ◌*◌, ◌/◌, ◌%◌, ◌^◌, ◌<◌, ◌≤◌, Bool, true, false, List, [], ◌∷◌, length, drop, Option, Some, None, refl, sym, subst, ap, ◌∙◌, arith}
use Rattle.std.specs.Prelude.{◌==◌, if◌then◌else◌}
use Rattle.std.proofs.lemmas.Bool.{eq-eqb, lt-ltb}
use Rattle.std.proofs.lemmas.Bool.Decides.{nat_tests}
use Rattle.std.proofs.lemmas.List.{at_drop_all}
use Rattle.mon_header.specs.declared.class.Class.{Class}
use Rattle.mon_header.specs.declared.class.Class.TheVariants.{Tcp, Udp, Icmp, OtherIpv4, Plain, Arp}
use Rattle.mon_header.specs.declared.header.Header.{Header}
use Rattle.mon_header.specs.declared.action.Action.{Action}
use Rattle.mon_header.specs.declared.action.Action.TheVariants.{Output, SetVlanVid, SetVlanPcp, StripVlan, SetDlSrc, SetDlDst, SetNwSrc, SetNwDst, SetNwTos, SetTpSrc, SetTpDst, Enqueue, Unknown}
use Rattle.mon_header.specs.Actions.{FitsAction, AllFit}
use Rattle.mon_header.specs.Matching.{InRange}
use Rattle.mon_header.specs.Classes.{fits, has_tag_fields, has_no_network_fields, is_plain_type, has_form, is_in_class, in_class}
use Rattle.mon_header.proofs.Twelve.{first, both, join}
use Rattle.mon_header.proofs.Parting.{IsOf, parts}
use Rattle.mon_header.proofs.Classing.{some-class}
use Rattle.mon_outcome.specs.Acting.{is_untagged, is_ipv4, has_ports, act, apply}
use Rattle.mon_outcome.specs.declared.door.Door.{Door}
use Rattle.mon_outcome.specs.declared.door.Door.TheVariants.{Port, Controller}
use Rattle.mon_outcome.specs.Emitting.{door_of, Emitted, with_emission, emissions, AllShow}
use Rattle.mon_outcome.specs.Shaping.{is_ipv4_class, has_class_ports}

pub range-fits : (h : Header) → InRange h → fits h ≡ true
unfolding fits
range-fits h r =
    join _ _ _ _ _ _ _ _ _ _ _ _ (record {
      in_port = lt-ltb _ _ r.in_port;
      dl_src = lt-ltb _ _ r.dl_src;
      dl_dst = lt-ltb _ _ r.dl_dst;
      dl_vlan = lt-ltb _ _ r.dl_vlan;
      dl_vlan_pcp = lt-ltb _ _ r.dl_vlan_pcp;
      dl_type = lt-ltb _ _ r.dl_type;
      nw_tos = lt-ltb _ _ r.nw_tos;
      nw_proto = lt-ltb _ _ r.nw_proto;
      nw_src = lt-ltb _ _ r.nw_src;
      nw_dst = lt-ltb _ _ r.nw_dst;
      tp_src = lt-ltb _ _ r.tp_src;
      tp_dst = lt-ltb _ _ r.tp_dst;
    })

whole : (c : Class) (h : Header) → IsOf c h → is_in_class c h ≡ true
unfolding is_in_class
whole c h p = both _ _ (range-fits h p.range) (both _ _ p.tag (both _ _ p.tos p.form))

-- IPv4 headers are those of the four classes
pub class-ipv4 : (c : Class) (h : Header) → has_form c h ≡ true → is_ipv4 h ≡ is_ipv4_class c
unfolding has_form is_plain_type
class-ipv4 Tcp h e = first _ _ e
class-ipv4 Udp h e = first _ _ e
class-ipv4 Icmp h e = first _ _ e
class-ipv4 OtherIpv4 h e = first _ _ e
class-ipv4 Plain h e = grind (arith, nat_tests)
class-ipv4 Arp h e = grind (arith, nat_tests)

-- headers with ports are those of two classes
pub class-ports : (c : Class) (h : Header) → has_form c h ≡ true → has_ports h ≡ has_class_ports c
unfolding has_form is_plain_type
class-ports Tcp h e = grind (arith, nat_tests)
class-ports Udp h e = grind (arith, nat_tests)
class-ports Icmp h e = grind (arith, nat_tests)
class-ports OtherIpv4 h e = grind (arith, nat_tests)
class-ports Plain h e = grind (arith, nat_tests)
class-ports Arp h e = grind (arith, nat_tests)

-- an address of IPv4 is no part of a form
nw_src-kept : (c : Class) (h : Header) (b : Bool) (x : ℕ) → has_form c h ≡ true → b ≡ is_ipv4_class c
    → has_form c (record h { nw_src = if b then x else h.nw_src }) ≡ true
unfolding has_form has_no_network_fields
nw_src-kept Tcp h b x e g = e
nw_src-kept Udp h b x e g = e
nw_src-kept Icmp h b x e g = e
nw_src-kept OtherIpv4 h b x e g = e
nw_src-kept Plain h true x e g = absurd cc
nw_src-kept Plain h false x e g = e
nw_src-kept Arp h true x e g = absurd cc
nw_src-kept Arp h false x e g = e

nw_dst-kept : (c : Class) (h : Header) (b : Bool) (x : ℕ) → has_form c h ≡ true → b ≡ is_ipv4_class c
    → has_form c (record h { nw_dst = if b then x else h.nw_dst }) ≡ true
unfolding has_form has_no_network_fields
nw_dst-kept Tcp h b x e g = e
nw_dst-kept Udp h b x e g = e
nw_dst-kept Icmp h b x e g = e
nw_dst-kept OtherIpv4 h b x e g = e
nw_dst-kept Plain h true x e g = absurd cc
nw_dst-kept Plain h false x e g = e
nw_dst-kept Arp h true x e g = absurd cc
nw_dst-kept Arp h false x e g = e

nw_tos-kept : (c : Class) (h : Header) (b : Bool) (x : ℕ) → has_form c h ≡ true → b ≡ is_ipv4_class c
    → has_form c (record h { nw_tos = if b then x else h.nw_tos }) ≡ true
unfolding has_form has_no_network_fields
nw_tos-kept Tcp h b x e g = e
nw_tos-kept Udp h b x e g = e
nw_tos-kept Icmp h b x e g = e
nw_tos-kept OtherIpv4 h b x e g = e
nw_tos-kept Plain h true x e g = absurd cc
nw_tos-kept Plain h false x e g = e
nw_tos-kept Arp h true x e g = absurd cc
nw_tos-kept Arp h false x e g = e

tp_src-kept : (c : Class) (h : Header) (b : Bool) (x : ℕ) → has_form c h ≡ true → b ≡ has_class_ports c
    → has_form c (record h { tp_src = if b then x else h.tp_src }) ≡ true
unfolding has_form has_no_network_fields
tp_src-kept Tcp h b x e g = e
tp_src-kept Udp h b x e g = e
tp_src-kept Icmp h true x e g = absurd cc
tp_src-kept Icmp h false x e g = e
tp_src-kept OtherIpv4 h true x e g = absurd cc
tp_src-kept OtherIpv4 h false x e g = e
tp_src-kept Plain h true x e g = absurd cc
tp_src-kept Plain h false x e g = e
tp_src-kept Arp h true x e g = absurd cc
tp_src-kept Arp h false x e g = e

tp_dst-kept : (c : Class) (h : Header) (b : Bool) (x : ℕ) → has_form c h ≡ true → b ≡ has_class_ports c
    → has_form c (record h { tp_dst = if b then x else h.tp_dst }) ≡ true
unfolding has_form has_no_network_fields
tp_dst-kept Tcp h b x e g = e
tp_dst-kept Udp h b x e g = e
tp_dst-kept Icmp h true x e g = absurd cc
tp_dst-kept Icmp h false x e g = e
tp_dst-kept OtherIpv4 h true x e g = absurd cc
tp_dst-kept OtherIpv4 h false x e g = e
tp_dst-kept Plain h true x e g = absurd cc
tp_dst-kept Plain h false x e g = e
tp_dst-kept Arp h true x e g = absurd cc
tp_dst-kept Arp h false x e g = e

-- a form reads no field of Ethernet but the type
same-form : (c : Class) (h k : Header) → has_form c h ≡ true → k.dl_type ≡ h.dl_type → k.nw_tos ≡ h.nw_tos → k.nw_proto ≡ h.nw_proto
    → k.nw_src ≡ h.nw_src → k.nw_dst ≡ h.nw_dst → k.tp_src ≡ h.tp_src → k.tp_dst ≡ h.tp_dst → has_form c k ≡ true
unfolding has_form has_no_network_fields
same-form Tcp h k e e1 e2 e3 e4 e5 e6 e7 = rw (e1, e3) e
same-form Udp h k e e1 e2 e3 e4 e5 e6 e7 = rw (e1, e3) e
same-form Icmp h k e e1 e2 e3 e4 e5 e6 e7 = rw (e1, e3, e6, e7) e
same-form OtherIpv4 h k e e1 e2 e3 e4 e5 e6 e7 = simp (e1, e3, e6, e7) e
same-form Plain h k e e1 e2 e3 e4 e5 e6 e7 = simp (e1, e2, e3, e4, e5, e6, e7) e
same-form Arp h k e e1 e2 e3 e4 e5 e6 e7 = rw (e1, e2, e6, e7) e

-- a chosen number is small where both are
chosen-small : (b : Bool) (x y size : ℕ) → x < size → y < size → (if b then x else y) < size
chosen-small true x y size p q = p
chosen-small false x y size p q = q

pub masked-small : (tos : ℕ) → tos < 2 ^ 8 → tos / 4 * 4 < 2 ^ 8
masked-small tos h = omega arith

masked-low : (b : Bool) (tos old : ℕ) → (old % 4 == 0) ≡ true → ((if b then tos / 4 * 4 else old) % 4 == 0) ≡ true
masked-low true tos old h = eq-eqb _ _ (omega arith)
masked-low false tos old h = h

acted-range : (action : Action) (h : Header) → FitsAction action → InRange h → InRange (act action h)
acted-range (Output port max_len) h f r = r
acted-range (SetVlanVid vid) h f r =
    record { in_port = r.in_port; dl_src = r.dl_src; dl_dst = r.dl_dst; dl_vlan = omega arith; dl_vlan_pcp = chosen-small (is_untagged h) 0 h.dl_vlan_pcp (2 ^ 8) (omega arith) r.dl_vlan_pcp; dl_type = r.dl_type; nw_tos = r.nw_tos; nw_proto = r.nw_proto; nw_src = r.nw_src; nw_dst = r.nw_dst; tp_src = r.tp_src; tp_dst = r.tp_dst }
acted-range (SetVlanPcp pcp) h f r =
    record { in_port = r.in_port; dl_src = r.dl_src; dl_dst = r.dl_dst; dl_vlan = chosen-small (is_untagged h) 0 h.dl_vlan (2 ^ 16) (omega arith) r.dl_vlan; dl_vlan_pcp = omega arith; dl_type = r.dl_type; nw_tos = r.nw_tos; nw_proto = r.nw_proto; nw_src = r.nw_src; nw_dst = r.nw_dst; tp_src = r.tp_src; tp_dst = r.tp_dst }
acted-range StripVlan h f r = record { in_port = r.in_port; dl_src = r.dl_src; dl_dst = r.dl_dst; dl_vlan = omega arith; dl_vlan_pcp = omega arith; dl_type = r.dl_type; nw_tos = r.nw_tos; nw_proto = r.nw_proto; nw_src = r.nw_src; nw_dst = r.nw_dst; tp_src = r.tp_src; tp_dst = r.tp_dst }
acted-range (SetDlSrc address) h f r = record { in_port = r.in_port; dl_src = f; dl_dst = r.dl_dst; dl_vlan = r.dl_vlan; dl_vlan_pcp = r.dl_vlan_pcp; dl_type = r.dl_type; nw_tos = r.nw_tos; nw_proto = r.nw_proto; nw_src = r.nw_src; nw_dst = r.nw_dst; tp_src = r.tp_src; tp_dst = r.tp_dst }
acted-range (SetDlDst address) h f r = record { in_port = r.in_port; dl_src = r.dl_src; dl_dst = f; dl_vlan = r.dl_vlan; dl_vlan_pcp = r.dl_vlan_pcp; dl_type = r.dl_type; nw_tos = r.nw_tos; nw_proto = r.nw_proto; nw_src = r.nw_src; nw_dst = r.nw_dst; tp_src = r.tp_src; tp_dst = r.tp_dst }
acted-range (SetNwSrc address) h f r = record { in_port = r.in_port; dl_src = r.dl_src; dl_dst = r.dl_dst; dl_vlan = r.dl_vlan; dl_vlan_pcp = r.dl_vlan_pcp; dl_type = r.dl_type; nw_tos = r.nw_tos; nw_proto = r.nw_proto; nw_src = chosen-small (is_ipv4 h) address h.nw_src (2 ^ 32) f r.nw_src; nw_dst = r.nw_dst; tp_src = r.tp_src; tp_dst = r.tp_dst }
acted-range (SetNwDst address) h f r = record { in_port = r.in_port; dl_src = r.dl_src; dl_dst = r.dl_dst; dl_vlan = r.dl_vlan; dl_vlan_pcp = r.dl_vlan_pcp; dl_type = r.dl_type; nw_tos = r.nw_tos; nw_proto = r.nw_proto; nw_src = r.nw_src; nw_dst = chosen-small (is_ipv4 h) address h.nw_dst (2 ^ 32) f r.nw_dst; tp_src = r.tp_src; tp_dst = r.tp_dst }
acted-range (SetNwTos tos) h f r = record { in_port = r.in_port; dl_src = r.dl_src; dl_dst = r.dl_dst; dl_vlan = r.dl_vlan; dl_vlan_pcp = r.dl_vlan_pcp; dl_type = r.dl_type; nw_tos = chosen-small (is_ipv4 h) (tos / 4 * 4) h.nw_tos (2 ^ 8) (masked-small tos f) r.nw_tos; nw_proto = r.nw_proto; nw_src = r.nw_src; nw_dst = r.nw_dst; tp_src = r.tp_src; tp_dst = r.tp_dst }
acted-range (SetTpSrc port) h f r = record { in_port = r.in_port; dl_src = r.dl_src; dl_dst = r.dl_dst; dl_vlan = r.dl_vlan; dl_vlan_pcp = r.dl_vlan_pcp; dl_type = r.dl_type; nw_tos = r.nw_tos; nw_proto = r.nw_proto; nw_src = r.nw_src; nw_dst = r.nw_dst; tp_src = chosen-small (has_ports h) port h.tp_src (2 ^ 16) f r.tp_src; tp_dst = r.tp_dst }
acted-range (SetTpDst port) h f r = record { in_port = r.in_port; dl_src = r.dl_src; dl_dst = r.dl_dst; dl_vlan = r.dl_vlan; dl_vlan_pcp = r.dl_vlan_pcp; dl_type = r.dl_type; nw_tos = r.nw_tos; nw_proto = r.nw_proto; nw_src = r.nw_src; nw_dst = r.nw_dst; tp_src = r.tp_src; tp_dst = chosen-small (has_ports h) port h.tp_dst (2 ^ 16) f r.tp_dst }
acted-range (Enqueue port queue) h f r = r
acted-range (Unknown bytes) h f r = r

acted-tag : (action : Action) (h : Header) → has_tag_fields h ≡ true → has_tag_fields (act action h) ≡ true
unfolding has_tag_fields
acted-tag (Output port max_len) h e = e
acted-tag (SetVlanVid vid) h e =
    let s : vid % 4096 < 4096 = omega arith in
    grind (arith, nat_tests)
acted-tag (SetVlanPcp pcp) h e =
    let s : pcp % 8 < 8 = omega arith in
    grind (arith, nat_tests)
acted-tag StripVlan h e = refl
acted-tag (SetDlSrc address) h e = e
acted-tag (SetDlDst address) h e = e
acted-tag (SetNwSrc address) h e = e
acted-tag (SetNwDst address) h e = e
acted-tag (SetNwTos tos) h e = e
acted-tag (SetTpSrc port) h e = e
acted-tag (SetTpDst port) h e = e
acted-tag (Enqueue port queue) h e = e
acted-tag (Unknown bytes) h e = e

acted-tos : (action : Action) (h : Header) → (h.nw_tos % 4 == 0) ≡ true → ((act action h).nw_tos % 4 == 0) ≡ true
acted-tos (Output port max_len) h e = e
acted-tos (SetVlanVid vid) h e = e
acted-tos (SetVlanPcp pcp) h e = e
acted-tos StripVlan h e = e
acted-tos (SetDlSrc address) h e = e
acted-tos (SetDlDst address) h e = e
acted-tos (SetNwSrc address) h e = e
acted-tos (SetNwDst address) h e = e
acted-tos (SetNwTos tos) h e = masked-low (is_ipv4 h) tos h.nw_tos e
acted-tos (SetTpSrc port) h e = e
acted-tos (SetTpDst port) h e = e
acted-tos (Enqueue port queue) h e = e
acted-tos (Unknown bytes) h e = e

acted-form : (c : Class) (action : Action) (h : Header) → has_form c h ≡ true → has_form c (act action h) ≡ true
acted-form c (Output port max_len) h e = e
acted-form c (SetVlanVid vid) h e = same-form c h _ e refl refl refl refl refl refl refl
acted-form c (SetVlanPcp pcp) h e = same-form c h _ e refl refl refl refl refl refl refl
acted-form c StripVlan h e = same-form c h _ e refl refl refl refl refl refl refl
acted-form c (SetDlSrc address) h e = same-form c h _ e refl refl refl refl refl refl refl
acted-form c (SetDlDst address) h e = same-form c h _ e refl refl refl refl refl refl refl
acted-form c (SetNwSrc address) h e = nw_src-kept c h (is_ipv4 h) address e (class-ipv4 c h e)
acted-form c (SetNwDst address) h e = nw_dst-kept c h (is_ipv4 h) address e (class-ipv4 c h e)
acted-form c (SetNwTos tos) h e = nw_tos-kept c h (is_ipv4 h) (tos / 4 * 4) e (class-ipv4 c h e)
acted-form c (SetTpSrc port) h e = tp_src-kept c h (has_ports h) port e (class-ports c h e)
acted-form c (SetTpDst port) h e = tp_dst-kept c h (has_ports h) port e (class-ports c h e)
acted-form c (Enqueue port queue) h e = e
acted-form c (Unknown bytes) h e = e

pub acted-class : (c : Class) (action : Action) (h : Header) → FitsAction action → is_in_class c h ≡ true → is_in_class c (act action h) ≡ true
acted-class c action h f e =
    let p = parts c h e in
    whole c (act action h) (record {
      range = acted-range action h f p.range;
      tag = acted-tag action h p.tag;
      tos = acted-tos action h p.tos;
      form = acted-form c action h p.form;
    })

pub applied-class : (actions : List Action) (c : Class) (h : Header) → AllFit actions → is_in_class c h ≡ true → is_in_class c (apply actions h) ≡ true
applied-class [] c h f e = e
applied-class (action ∷ actions) c h f e = applied-class actions c (act action h) f.1 (acted-class c action h f.0 e)

one-shows : (d : Option Door) (c : Class) (h : Header) (rest : List Emitted) → is_in_class c h ≡ true → AllShow c rest → AllShow c (with_emission d h rest)
one-shows None c h rest e r = r
one-shows (Some (Port port)) c h rest e r = (e, r)
one-shows (Some (Controller whole)) c h rest e r = (e, r)

pub emissions-show : (actions : List Action) (c : Class) (h : Header) → AllFit actions → is_in_class c h ≡ true → AllShow c (emissions actions h)
emissions-show [] c h f e = tt
emissions-show (action ∷ actions) c h f e =
    one-shows (door_of action h.in_port) c h (emissions actions (act action h)) e
    (emissions-show actions c (act action h) f.1 (acted-class c action h f.0 e))

-- once no action is left, the header is in a class if it was
pub applied-some : (items actions : List Action) (i : ℕ) (h k : Header) → AllFit actions → items ≡ actions → length items ≤ i
    → apply (drop i actions) k ≡ apply actions h → in_class h ≡ true → in_class k ≡ true
applied-some items actions i h k f same long e inside =
    let c = (some-class h).0 inside in
    let all : length actions ≤ i = let P : List Action → Type 0 = λ xs. length xs ≤ i in subst P same long in
    let last : k ≡ apply actions h = sym (at_drop_all (λ (rest : List Action). apply rest k) actions i all) ∙ e in
    ap in_class last ∙ (some-class (apply actions h)).1 (c.0, applied-class actions c.0 h f c.1)
