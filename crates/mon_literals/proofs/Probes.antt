-- The clauses of a class and a port are true where a probe can have the header.
use Rattle.std.proofs.Common.{◌≡◌, ℕ, ◌%◌, ◌^◌, ◌<◌, ◌≤◌, Bool, true, refl, ap, ◌∙◌, ◌++◌, arith}
use Rattle.std.specs.Prelude.{◌==◌, nat_lt, ◌&&◌, ◌||◌}
use Rattle.std.specs.List.{list_all}
use Rattle.std.proofs.lemmas.List.Folds.{list_all-append}
use Rattle.std.proofs.lemmas.Bool.{eqb-true, lt-ltb, and_parts, and_from, or_left}
use Rattle.mon_cnf.specs.Truth.{formula_true}
use Rattle.mon_header.specs.declared.class.Class.{Class}
use Rattle.mon_header.specs.declared.class.Class.TheVariants.{Tcp, Udp, Icmp, OtherIpv4, Plain, Arp}
use Rattle.mon_header.specs.declared.header.Header.{Header}
use Rattle.mon_header.specs.Classes.{fits, has_tag_fields, has_no_network_fields, is_plain_type, has_form, is_in_class, in_class}
use Rattle.mon_header.proofs.Classing.{some-class}
use Rattle.mon_shows.specs.Views.{Viewing, IsView, has_link, is_unicast, is_open, craftable}
use Rattle.mon_literals.specs.Bearing.{Bears}
use Rattle.mon_literals.specs.Conditions.{shared_of, plain_type, no_network_fields, form_of, class_clauses}
use Rattle.mon_literals.proofs.Fields.{HasFields, fields_borne}
use Rattle.mon_literals.proofs.Conditions.{met, and_true, all_asked_true, is_number, is_other, is_below_8, is_below_256, is_multiple_of_4, is_one_station, is_open_to_frames, is_at_least_0600}
use Rattle.std.specs.Cmp.{both_ways}

pair : (a b c d : Bool) → a ≡ c → b ≡ d → (a && b) ≡ (c && d)
pair a b c d e f = ap (λ (x : Bool). x && b) e ∙ ap (λ (x : Bool). c && x) f

last : (a b : Bool) → a ≡ b → (a && true) ≡ b
last a b e = and_true a ∙ e

-- what is asked whatever the class
abbrev is_shared : ℕ → ℕ → Header → Bool
is_shared tag in_port h =
    (h.in_port == in_port)
    && ((h.dl_vlan == tag) && (nat_lt h.dl_vlan_pcp 8 && (is_unicast h.dl_src && (is_open h.dl_dst && (h.nw_tos % 4 == 0)))))

shared_met : (v : ℕ → Bool) (h : Header) (tag in_port : ℕ) → HasFields v h → tag < 2 ^ 16 → in_port < 2 ^ 16
    → list_all (met v) (shared_of tag in_port) ≡ is_shared tag in_port h
shared_met v h tag in_port f t p =
    pair _ _ _ _ (is_number v 0 16 in_port h.in_port f.in_port p) (
    pair _ _ _ _ (is_number v 112 16 tag h.dl_vlan f.dl_vlan t) (
    pair _ _ _ _ (is_below_8 v 128 h.dl_vlan_pcp f.dl_vlan_pcp) (
    pair _ _ _ _ (is_one_station v 16 h.dl_src f.dl_src) (
    is_open_to_frames v 64 h.dl_dst _ f.dl_dst
    ∙ pair _ _ _ _ refl (last _ _ (is_multiple_of_4 v 152 h.nw_tos f.nw_tos))))))

plain_type_met : (v : ℕ → Bool) (h : Header) → HasFields v h → list_all (met v) plain_type ≡ is_plain_type h.dl_type
unfolding is_plain_type
plain_type_met v h f =
    is_at_least_0600 v 136 h.dl_type _ f.dl_type
    ∙ pair _ _ _ _ refl (
    pair _ _ _ _ (is_other v 136 16 0x0800 h.dl_type f.dl_type (omega arith)) (
    pair _ _ _ _ (is_other v 136 16 0x0806 h.dl_type f.dl_type (omega arith)) (
    pair _ _ _ _ (is_other v 136 16 0x8100 h.dl_type f.dl_type (omega arith)) (
    pair _ _ _ _ (is_other v 136 16 0x88a8 h.dl_type f.dl_type (omega arith)) (
    pair _ _ _ _ (is_other v 136 16 0x8808 h.dl_type f.dl_type (omega arith)) (
    last _ _ (is_other v 136 16 0x8809 h.dl_type f.dl_type (omega arith))))))))

no_network_fields_met : (v : ℕ → Bool) (h : Header) → HasFields v h → list_all (met v) no_network_fields ≡ has_no_network_fields h
unfolding has_no_network_fields
no_network_fields_met v h f =
    pair _ _ _ _ (is_number v 152 8 0 h.nw_tos f.nw_tos (omega arith)) (
    pair _ _ _ _ (is_number v 160 8 0 h.nw_proto f.nw_proto (omega arith)) (
    pair _ _ _ _ (is_number v 168 32 0 h.nw_src f.nw_src (omega arith)) (
    pair _ _ _ _ (is_number v 200 32 0 h.nw_dst f.nw_dst (omega arith)) (
    pair _ _ _ _ (is_number v 232 16 0 h.tp_src f.tp_src (omega arith)) (
    last _ _ (is_number v 248 16 0 h.tp_dst f.tp_dst (omega arith)))))))

form_met : (v : ℕ → Bool) (h : Header) (c : Class) → HasFields v h → list_all (met v) (form_of c) ≡ has_form c h
unfolding has_form
form_met v h Tcp f =
    pair _ _ _ _ (is_number v 136 16 0x0800 h.dl_type f.dl_type (omega arith)) (
    last _ _ (is_number v 160 8 6 h.nw_proto f.nw_proto (omega arith)))
form_met v h Udp f =
    pair _ _ _ _ (is_number v 136 16 0x0800 h.dl_type f.dl_type (omega arith)) (
    last _ _ (is_number v 160 8 17 h.nw_proto f.nw_proto (omega arith)))
form_met v h Icmp f =
    pair _ _ _ _ (is_number v 136 16 0x0800 h.dl_type f.dl_type (omega arith)) (
    pair _ _ _ _ (is_number v 160 8 1 h.nw_proto f.nw_proto (omega arith)) (
    pair _ _ _ _ (is_below_256 v 232 h.tp_src f.tp_src) (
    last _ _ (is_below_256 v 248 h.tp_dst f.tp_dst))))
form_met v h OtherIpv4 f =
    pair _ _ _ _ (is_number v 136 16 0x0800 h.dl_type f.dl_type (omega arith)) (
    pair _ _ _ _ (is_other v 160 8 1 h.nw_proto f.nw_proto (omega arith)) (
    pair _ _ _ _ (is_other v 160 8 6 h.nw_proto f.nw_proto (omega arith)) (
    pair _ _ _ _ (is_other v 160 8 17 h.nw_proto f.nw_proto (omega arith)) (
    pair _ _ _ _ (is_number v 232 16 0 h.tp_src f.tp_src (omega arith)) (
    last _ _ (is_number v 248 16 0 h.tp_dst f.tp_dst (omega arith)))))))
form_met v h Plain f =
    list_all-append (met v) plain_type no_network_fields ∙ pair _ _ _ _ (plain_type_met v h f) (no_network_fields_met v h f)
form_met v h Arp f =
    pair _ _ _ _ (is_number v 136 16 0x0806 h.dl_type f.dl_type (omega arith)) (
    pair _ _ _ _ (is_number v 152 8 0 h.nw_tos f.nw_tos (omega arith)) (
    pair _ _ _ _ (is_number v 232 16 0 h.tp_src f.tp_src (omega arith)) (
    last _ _ (is_number v 248 16 0 h.tp_dst f.tp_dst (omega arith)))))

-- six tests hold
record Six (a b c d e f : Bool) : Type 0 where
  port : a ≡ true
  tag : b ≡ true
  priority : c ≡ true
  source : d ≡ true
  target : e ≡ true
  service : f ≡ true

six : (a b c d e f : Bool) → (a && (b && (c && (d && (e && f))))) ≡ true → Six a b c d e f
six a b c d e f p =
    let p1 = and_parts a (b && (c && (d && (e && f)))) p in
    let p2 = and_parts b (c && (d && (e && f))) p1.1 in
    let p3 = and_parts c (d && (e && f)) p2.1 in
    let p4 = and_parts d (e && f) p3.1 in
    let p5 = and_parts e f p4.1 in
    record { port = p1.0; tag = p2.0; priority = p3.0; source = p4.0; target = p5.0; service = p5.1 }

from_six : (a b c d e f : Bool) → Six a b c d e f → (a && (b && (c && (d && (e && f))))) ≡ true
from_six a b c d e f s =
    and_from a _ s.port (and_from b _ s.tag (and_from c _ s.priority (and_from d _ s.source (and_from e f s.target s.service))))

-- a header of the class has the fields of a tag, no bit of the type of service below 4, and the class's form
record Member (c : Class) (h : Header) : Type 0 where
  tagged : has_tag_fields h ≡ true
  service : (h.nw_tos % 4 == 0) ≡ true
  form : has_form c h ≡ true

member : (c : Class) (h : Header) → is_in_class c h ≡ true → Member c h
unfolding is_in_class
member c h p =
    let p1 = and_parts (fits h) (has_tag_fields h && ((h.nw_tos % 4 == 0) && has_form c h)) p in
    let p2 = and_parts (has_tag_fields h) ((h.nw_tos % 4 == 0) && has_form c h) p1.1 in
    let p3 = and_parts (h.nw_tos % 4 == 0) (has_form c h) p2.1 in
    record { tagged = p2.0; service = p3.0; form = p3.1 }

from_member : (c : Class) (h : Header) → fits h ≡ true → Member c h → is_in_class c h ≡ true
unfolding is_in_class
from_member c h fit m = and_from (fits h) _ fit (and_from (has_tag_fields h) _ m.tagged (and_from (h.nw_tos % 4 == 0) (has_form c h) m.service m.form))

tag_fields : (h : Header) → nat_lt h.dl_vlan 4096 ≡ true → nat_lt h.dl_vlan_pcp 8 ≡ true → has_tag_fields h ≡ true
unfolding has_tag_fields
tag_fields h low p = and_from _ (nat_lt h.dl_vlan_pcp 8) (or_left (nat_lt h.dl_vlan 4096) ((h.dl_vlan == 0xffff) && (h.dl_vlan_pcp == 0)) low) p

low_priority : (h : Header) → has_tag_fields h ≡ true → nat_lt h.dl_vlan_pcp 8 ≡ true
unfolding has_tag_fields
low_priority h p =
    let parts = and_parts (nat_lt h.dl_vlan 4096 || ((h.dl_vlan == 0xffff) && (h.dl_vlan_pcp == 0))) (nat_lt h.dl_vlan_pcp 8) p in
    parts.1

-- a probe's header has the view's tag, the source of one station, and a target that frames may go to
record Crafted (view : Viewing) (h : Header) : Type 0 where
  some : in_class h ≡ true
  linked : has_link h.in_port view.links ≡ true
  tag : (h.dl_vlan == view.tag) ≡ true
  source : is_unicast h.dl_src ≡ true
  target : is_open h.dl_dst ≡ true

crafted : (view : Viewing) (h : Header) → craftable view h ≡ true → Crafted view h
unfolding craftable
crafted view h p =
    let p1 = and_parts (in_class h) (has_link h.in_port view.links && ((h.dl_vlan == view.tag) && (is_unicast h.dl_src && is_open h.dl_dst))) p in
    let p2 = and_parts (has_link h.in_port view.links) ((h.dl_vlan == view.tag) && (is_unicast h.dl_src && is_open h.dl_dst)) p1.1 in
    let p3 = and_parts (h.dl_vlan == view.tag) (is_unicast h.dl_src && is_open h.dl_dst) p2.1 in
    let p4 = and_parts (is_unicast h.dl_src) (is_open h.dl_dst) p3.1 in
    record { some = p1.0; linked = p2.0; tag = p3.0; source = p4.0; target = p4.1 }

from_crafted : (view : Viewing) (h : Header) → Crafted view h → craftable view h ≡ true
unfolding craftable
from_crafted view h c =
    and_from (in_class h) _ c.some (
    and_from (has_link h.in_port view.links) _ c.linked (
    and_from (h.dl_vlan == view.tag) _ c.tag (and_from (is_unicast h.dl_src) (is_open h.dl_dst) c.source c.target)))

-- what is asked is what a probe of the class and port has
forth : (h : Header) (view : Viewing) (c : Class) (in_port : ℕ) → fits h ≡ true → view.tag ≤ 4094 → has_link in_port view.links ≡ true
    → (is_shared view.tag in_port h && has_form c h) ≡ true → (craftable view h && (is_in_class c h && (h.in_port == in_port))) ≡ true
forth h view c in_port fit small link p =
    let parts = and_parts (is_shared view.tag in_port h) (has_form c h) p in
    let s = six (h.in_port == in_port) (h.dl_vlan == view.tag) (nat_lt h.dl_vlan_pcp 8) (is_unicast h.dl_src) (is_open h.dl_dst) (h.nw_tos % 4 == 0) parts.0 in
    let vlan : h.dl_vlan ≡ view.tag = eqb-true h.dl_vlan view.tag s.tag in
    let low : nat_lt h.dl_vlan 4096 ≡ true = lt-ltb h.dl_vlan 4096 (omega arith) in
    let is_member : is_in_class c h ≡ true = from_member c h fit (record { tagged = tag_fields h low s.priority; service = s.service; form = parts.1 }) in
    let linked : has_link h.in_port view.links ≡ true = ap (λ (n : ℕ). has_link n view.links) (eqb-true h.in_port in_port s.port) ∙ link in
    let is_crafted : craftable view h ≡ true =
    from_crafted view h (record { some = (some-class h).1 (c, is_member); linked = linked; tag = s.tag; source = s.source; target = s.target }) in
    and_from (craftable view h) _ is_crafted (and_from (is_in_class c h) (h.in_port == in_port) is_member s.port)

back : (h : Header) (view : Viewing) (c : Class) (in_port : ℕ)
    → (craftable view h && (is_in_class c h && (h.in_port == in_port))) ≡ true → (is_shared view.tag in_port h && has_form c h) ≡ true
back h view c in_port p =
    let parts = and_parts (craftable view h) (is_in_class c h && (h.in_port == in_port)) p in
    let inner = and_parts (is_in_class c h) (h.in_port == in_port) parts.1 in
    let m : Member c h = member c h inner.0 in
    let k : Crafted view h = crafted view h parts.0 in
    and_from (is_shared view.tag in_port h) (has_form c h)
    (from_six (h.in_port == in_port) (h.dl_vlan == view.tag) (nat_lt h.dl_vlan_pcp 8) (is_unicast h.dl_src) (is_open h.dl_dst) (h.nw_tos % 4 == 0)
    (record { port = inner.1; tag = k.tag; priority = low_priority h m.tagged; source = k.source; target = k.target; service = m.service }))
    m.form

pub class_true : (v : ℕ → Bool) (h : Header) (view : Viewing) (c : Class) (in_port : ℕ) → Bears v h → IsView view → in_port < 2 ^ 16
    → has_link in_port view.links ≡ true
    → formula_true v (class_clauses view c in_port) ≡ (craftable view h && (is_in_class c h && (h.in_port == in_port)))
unfolding class_clauses
class_true v h view c in_port b i small link =
    let f : HasFields v h = fields_borne v h b in
    let high : view.tag ≤ 4094 = i.tag_high in
    all_asked_true v (shared_of view.tag in_port ++ form_of c)
    ∙ list_all-append (met v) (shared_of view.tag in_port) (form_of c)
    ∙ pair _ _ _ _ (shared_met v h view.tag in_port f (omega arith) small) (form_met v h c f)
    ∙ both_ways _ _ (forth h view c in_port b.fit i.tag_high link) (back h view c in_port)
