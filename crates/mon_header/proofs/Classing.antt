-- A header is in at most one class, and its numbers fit.
use Rattle.std.proofs.Common.{◌≡◌, ℕ, ◌%◌, ◌↔◌, Bool, true, false, cond, refl, sym, ap, ◌∙◌, arith}
use Rattle.std.specs.Prelude.{◌==◌, ◌||◌}
use Rattle.std.proofs.lemmas.Bool.{ltb-true}
use Rattle.std.proofs.lemmas.Bool.Decides.{nat_tests}
use Rattle.mon_header.specs.declared.class.Class.{Class}
use Rattle.mon_header.specs.declared.class.Class.TheVariants.{Tcp, Udp, Icmp, OtherIpv4, Plain, Arp}
use Rattle.mon_header.specs.declared.header.Header.{Header}
use Rattle.mon_header.specs.Assigned.{IPV4_TYPE, ARP_TYPE, ICMP_PROTOCOL, TCP_PROTOCOL, UDP_PROTOCOL}
use Rattle.mon_header.specs.Matching.{InRange}
use Rattle.mon_header.specs.Classes.{fits, has_tag_fields, is_plain_type, has_form, is_in_class, in_class}
use Rattle.mon_header.proofs.Twelve.{split, first, second}

pub fits-range : (h : Header) → fits h ≡ true → InRange h
unfolding fits
fits-range h e =
    let t = split _ _ _ _ _ _ _ _ _ _ _ _ e in
    record {
      in_port = ltb-true _ _ t.in_port;
      dl_src = ltb-true _ _ t.dl_src;
      dl_dst = ltb-true _ _ t.dl_dst;
      dl_vlan = ltb-true _ _ t.dl_vlan;
      dl_vlan_pcp = ltb-true _ _ t.dl_vlan_pcp;
      dl_type = ltb-true _ _ t.dl_type;
      nw_tos = ltb-true _ _ t.nw_tos;
      nw_proto = ltb-true _ _ t.nw_proto;
      nw_src = ltb-true _ _ t.nw_src;
      nw_dst = ltb-true _ _ t.nw_dst;
      tp_src = ltb-true _ _ t.tp_src;
      tp_dst = ltb-true _ _ t.tp_dst;
    }

class-fits : (c : Class) (h : Header) → is_in_class c h ≡ true → fits h ≡ true
unfolding is_in_class
class-fits c h e = first _ _ e

class-form : (c : Class) (h : Header) → is_in_class c h ≡ true → has_form c h ≡ true
unfolding is_in_class
class-form c h e = second (h.nw_tos % 4 == 0) _ (second (has_tag_fields h) _ (second (fits h) _ e))

-- the class that the type and the protocol leave
left_by : ℕ → ℕ → Class
left_by type protocol =
    cond (type == IPV4_TYPE) (cond (protocol == TCP_PROTOCOL) Tcp (cond (protocol == UDP_PROTOCOL) Udp (cond (protocol == ICMP_PROTOCOL) Icmp OtherIpv4)))
    (cond (type == ARP_TYPE) Arp Plain)

form-left : (c : Class) (h : Header) → has_form c h ≡ true → left_by h.dl_type h.nw_proto ≡ c
unfolding has_form is_plain_type left_by
form-left Tcp h e = grind (arith, nat_tests)
form-left Udp h e = grind (arith, nat_tests)
form-left Icmp h e = grind (arith, nat_tests)
form-left OtherIpv4 h e = grind (arith, nat_tests)
form-left Plain h e = grind (arith, nat_tests)
form-left Arp h e = grind (arith, nat_tests)

pub one-class : (c d : Class) (h : Header) → is_in_class c h ≡ true → is_in_class d h ≡ true → c ≡ d
one-class c d h p q = sym (form-left c h (class-form c h p)) ∙ form-left d h (class-form d h q)

either : (a b : Bool) {P : Type 0} → (a || b) ≡ true → (a ≡ true → P) → (b ≡ true → P) → P
either true b e f g = f refl
either false b e f g = g e

left-of : (a b : Bool) → a ≡ true → (a || b) ≡ true
left-of a b e = ap (λ (x : Bool). x || b) e

right-of : (a b : Bool) → b ≡ true → (a || b) ≡ true
right-of true b e = refl
right-of false b e = e

some-in : (h : Header) → in_class h ≡ true → (c : Class) × (is_in_class c h ≡ true)
unfolding in_class
some-in h e =
    either _ _ e (λ p. (Tcp, p)) (λ e1.
    either _ _ e1 (λ p. (Udp, p)) (λ e2.
    either _ _ e2 (λ p. (Icmp, p)) (λ e3.
    either _ _ e3 (λ p. (OtherIpv4, p)) (λ e4.
    either _ _ e4 (λ p. (Plain, p)) (λ p. (Arp, p))))))

in-some : (c : Class) (h : Header) → is_in_class c h ≡ true → in_class h ≡ true
unfolding in_class
in-some Tcp h p = left-of (is_in_class Tcp h) _ p
in-some Udp h p = right-of (is_in_class Tcp h) _ (left-of (is_in_class Udp h) _ p)
in-some Icmp h p = right-of (is_in_class Tcp h) _ (right-of (is_in_class Udp h) _ (left-of (is_in_class Icmp h) _ p))
in-some OtherIpv4 h p =
    right-of (is_in_class Tcp h) _ (right-of (is_in_class Udp h) _ (right-of (is_in_class Icmp h) _ (left-of (is_in_class OtherIpv4 h) _ p)))
in-some Plain h p =
    right-of (is_in_class Tcp h) _ (right-of (is_in_class Udp h) _ (right-of (is_in_class Icmp h) _
    (right-of (is_in_class OtherIpv4 h) _ (left-of (is_in_class Plain h) (is_in_class Arp h) p))))
in-some Arp h p =
    right-of (is_in_class Tcp h) _ (right-of (is_in_class Udp h) _ (right-of (is_in_class Icmp h) _
    (right-of (is_in_class OtherIpv4 h) _ (right-of (is_in_class Plain h) _ p))))

pub some-class : (h : Header) → (in_class h ≡ true) ↔ ((c : Class) × (is_in_class c h ≡ true))
some-class h = (some-in h, λ (s : (c : Class) × (is_in_class c h ≡ true)). in-some s.0 h s.1)

pub class-range : (c : Class) (h : Header) → is_in_class c h ≡ true → InRange h
class-range c h e = fits-range h (class-fits c h e)

-- the law
pub ruleset classing = (some-class, one-class, class-range)
