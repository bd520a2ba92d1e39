-- Literals within the bits of a header.
use Rattle.std.proofs.Common.{◌≡◌, ℕ, zero, suc, ◌+◌, ◌-◌, ◌/◌, ◌^◌, ◌<◌, ◌≤◌, Bool, true, false, if◌then◌else◌, List, [], ◌∷◌, ◌++◌, Option, Some, None, refl, sym, ap, ◌∙◌, subst, arith}
use Rattle.std.specs.Prelude.{◌==◌, nat_le, flat_map}
use Rattle.std.specs.List.{list_all}
use Rattle.std.proofs.lemmas.Bool.{leb-true, and_parts}
use Rattle.mon_cnf.specs.declared.clause.Lit.{Lit}
use Rattle.mon_cnf.specs.Truth.{Within, WithinAll}
use Rattle.mon_header.specs.declared.class.Class.{Class}
use Rattle.mon_header.specs.declared.class.Class.TheVariants.{Tcp, Udp, Icmp, OtherIpv4, Plain, Arp}
use Rattle.mon_header.specs.Matching.{Matching}
use Rattle.mon_header.specs.Places.{bits_of}
use Rattle.mon_outcome.specs.declared.rewrite.Rewrite.{Rewrite}
use Rattle.mon_outcome.specs.Filling.{laid}
use Rattle.mon_shows.specs.Views.{Viewing}
use Rattle.mon_literals.specs.declared.run.Run.{Run}
use Rattle.mon_literals.specs.declared.condition.Condition.{Condition}
use Rattle.mon_literals.specs.declared.condition.Condition.TheVariants.{Is, IsNot}
use Rattle.mon_literals.specs.Clauses.{denied, alone}
use Rattle.mon_literals.specs.Runs.{run, valued, spelled}
use Rattle.mon_literals.specs.Patterns.{compared, compared_above, runs_of, pattern_of}
use Rattle.mon_literals.specs.Conditions.{is_in_header, asked, shared_of, form_of, class_clauses}
use Rattle.mon_literals.specs.Differing.{field_differs, either_differs, fields_differ, differ}
use Rattle.mon_literals.proofs.Differences.{widths, laid_widths}

valued_within : (vars var count number : ℕ) → var + count ≤ vars → Within vars (valued var (bits_of count number))
valued_within vars var zero number h = tt
valued_within vars var (suc count) number h = (omega arith, valued_within vars (suc var) count number (omega arith))

pub spelled_within : (vars : ℕ) (r : Run) → r.start + r.count ≤ vars → Within vars (spelled r)
spelled_within vars r h = valued_within vars r.start r.count r.number h

pub denied_within : (vars : ℕ) (ls : List Lit) → Within vars ls → Within vars (denied ls)
denied_within vars [] w = tt
denied_within vars (l ∷ ls) w = (w.0, denied_within vars ls w.1)

pub alone_within : (vars : ℕ) (ls : List Lit) → Within vars ls → WithinAll vars (alone ls)
alone_within vars [] w = tt
alone_within vars (l ∷ ls) w = ((w.0, tt), alone_within vars ls w.1)

pub both_within : (vars : ℕ) (ls ms : List Lit) → Within vars ls → Within vars ms → Within vars (ls ++ ms)
both_within vars [] ms w x = x
both_within vars (l ∷ ls) ms w x = (w.0, both_within vars ls ms w.1 x)

pub both_within_all : (vars : ℕ) (cs ds : List (List Lit)) → WithinAll vars cs → WithinAll vars ds → WithinAll vars (cs ++ ds)
both_within_all vars [] ds w x = x
both_within_all vars (c ∷ cs) ds w x = (w.0, both_within_all vars cs ds w.1 x)

reach : (vars : ℕ) (r : Run) → 264 ≤ vars → nat_le (r.start + r.count) 264 ≡ true → r.start + r.count ≤ vars
reach vars r h w = let e : r.start + r.count ≤ 264 = leb-true (r.start + r.count) 264 w in omega arith

-- the literals of a condition
pub is_within : (vars : ℕ) (c : Condition) (r : Run) (front ls : List Lit) → 264 ≤ vars → is_in_header c ≡ true → c ≡ Is r → front ≡ []
    → ls ≡ front ++ spelled r → Within vars ls
is_within vars c r front ls h w is e f =
    subst (Within vars) (sym (f ∙ ap (λ (fs : List Lit). fs ++ spelled r) e)) (spelled_within vars r (reach vars r h (ap is_in_header (sym is) ∙ w)))

pub is_not_within : (vars : ℕ) (c : Condition) (r : Run) (front ls : List Lit) → 264 ≤ vars → is_in_header c ≡ true → c ≡ IsNot r → front ≡ []
    → ls ≡ front ++ denied (spelled r) → Within vars ls
is_not_within vars c r front ls h w is e f =
    subst (Within vars) (sym (f ∙ ap (λ (fs : List Lit). fs ++ denied (spelled r)) e))
    (denied_within vars (spelled r) (spelled_within vars r (reach vars r h (ap is_in_header (sym is) ∙ w))))

-- the clauses of conditions
asked_within : (vars : ℕ) (c : Condition) → 264 ≤ vars → is_in_header c ≡ true → WithinAll vars (asked c)
asked_within vars (Is r) h w = alone_within vars (spelled r) (spelled_within vars r (reach vars r h w))
asked_within vars (IsNot r) h w = (denied_within vars (spelled r) (spelled_within vars r (reach vars r h w)), tt)

pub all_asked_within : (vars : ℕ) (cs : List Condition) → 264 ≤ vars → list_all is_in_header cs ≡ true → WithinAll vars (flat_map asked cs)
all_asked_within vars [] h w = tt
all_asked_within vars (c ∷ cs) h w =
    let parts = and_parts (is_in_header c) (list_all is_in_header cs) w in
    both_within_all vars (asked c) (flat_map asked cs) (asked_within vars c h parts.0) (all_asked_within vars cs h parts.1)

pub more_within : (vars more : ℕ) (ls : List Lit) → vars ≤ more → Within vars ls → Within more ls
more_within vars more [] h w = tt
more_within vars more (l ∷ ls) h w = let low : l.var < vars = w.0 in (omega arith, more_within vars more ls h w.1)

pub more_within_all : (vars more : ℕ) (cs : List (List Lit)) → vars ≤ more → WithinAll vars cs → WithinAll more cs
more_within_all vars more [] h w = tt
more_within_all vars more (c ∷ cs) h w = (more_within vars more c h w.0, more_within_all vars more cs h w.1)

-- the literals of a match
compared_within : (wild : Bool) (start count x : ℕ) → start + count ≤ 264 → Within 264 (spelled (compared wild start count x))
compared_within true start count x h = tt
compared_within false start count x h = spelled_within 264 (run start count x) h

address_within : (ignored start x : ℕ) → start + 32 ≤ 264 → Within 264 (spelled (compared_above ignored start x))
address_within ignored start x h = spelled_within 264 (run start (32 - ignored) (x / 2 ^ ignored)) (omega arith)

pub pattern_within : (m : Matching) → Within 264 (pattern_of m)
unfolding runs_of
pattern_within m =
    both_within 264 _ _ (compared_within m.wild.in_port 0 16 m.fields.in_port (omega arith)) (
    both_within 264 _ _ (compared_within m.wild.dl_src 16 48 m.fields.dl_src (omega arith)) (
    both_within 264 _ _ (compared_within m.wild.dl_dst 64 48 m.fields.dl_dst (omega arith)) (
    both_within 264 _ _ (compared_within m.wild.dl_vlan 112 16 m.fields.dl_vlan (omega arith)) (
    both_within 264 _ _ (compared_within m.wild.dl_vlan_pcp 128 8 m.fields.dl_vlan_pcp (omega arith)) (
    both_within 264 _ _ (compared_within m.wild.dl_type 136 16 m.fields.dl_type (omega arith)) (
    both_within 264 _ _ (compared_within m.wild.nw_tos 152 8 m.fields.nw_tos (omega arith)) (
    both_within 264 _ _ (compared_within m.wild.nw_proto 160 8 m.fields.nw_proto (omega arith)) (
    both_within 264 _ _ (address_within m.wild.nw_src 168 m.fields.nw_src (omega arith)) (
    both_within 264 _ _ (address_within m.wild.nw_dst 200 m.fields.nw_dst (omega arith)) (
    both_within 264 _ _ (compared_within m.wild.tp_src 232 16 m.fields.tp_src (omega arith)) (
    both_within 264 _ _ (compared_within m.wild.tp_dst 248 16 m.fields.tp_dst (omega arith)) (
    tt))))))))))))

-- the clauses of a class
asked_in_header : (tag in_port : ℕ) (c : Class) → list_all is_in_header (shared_of tag in_port ++ form_of c) ≡ true
asked_in_header tag in_port Tcp = refl
asked_in_header tag in_port Udp = refl
asked_in_header tag in_port Icmp = refl
asked_in_header tag in_port OtherIpv4 = refl
asked_in_header tag in_port Plain = refl
asked_in_header tag in_port Arp = refl

pub class_within : (view : Viewing) (c : Class) (in_port : ℕ) → WithinAll 264 (class_clauses view c in_port)
unfolding class_clauses
class_within view c in_port = all_asked_within 264 (shared_of view.tag in_port ++ form_of c) (omega arith) (asked_in_header view.tag in_port c)

-- the clause of two rewrites
SomeWithin : Option (List Lit) → Type 0
SomeWithin None = Unit {0}
SomeWithin (Some ls) = Within 264 ls

either_within : (d e : Option (List Lit)) → SomeWithin d → SomeWithin e → SomeWithin (either_differs d e)
unfolding SomeWithin
either_within None e p q = tt
either_within (Some ls) None p q = tt
either_within (Some ls) (Some ms) p q = both_within 264 ls ms p q

fixed_within : (same : Bool) → SomeWithin (if same then Some [] else None)
unfolding SomeWithin
fixed_within true = tt
fixed_within false = tt

field_within : (start count : ℕ) (a b : Option ℕ) → start + count ≤ 264 → SomeWithin (field_differs start count a b)
unfolding SomeWithin
field_within start count None None h = tt
field_within start count None (Some y) h = denied_within 264 (spelled (run start count y)) (spelled_within 264 (run start count y) h)
field_within start count (Some x) None h = denied_within 264 (spelled (run start count x)) (spelled_within 264 (run start count x) h)
field_within start count (Some x) (Some y) h = fixed_within (x == y)

fields_within : (start : ℕ) (xs ys : List (ℕ × Option ℕ)) → start + widths xs ≤ 264 → SomeWithin (fields_differ start xs ys)
unfolding SomeWithin
fields_within start [] ys h = tt
fields_within start (a ∷ xs) [] h = tt
fields_within start (a ∷ xs) (b ∷ ys) h =
    either_within (field_differs start a.0 a.1 b.1) (fields_differ (start + a.0) xs ys)
    (field_within start a.0 a.1 b.1 (omega arith))
    (fields_within (start + a.0) xs ys (omega arith))

pub differ_within : (a b : Rewrite) (d : List Lit) → differ a b ≡ Some d → Within 264 d
unfolding SomeWithin
differ_within a b d e =
    let all : widths (laid a) ≡ 264 = laid_widths a in
    subst SomeWithin e (fields_within 0 (laid a) (laid b) (omega arith))

-- the law
pub ruleset reaching = (pattern_within, class_within, differ_within)
