-- What a job's cases are: each of them has a link, a winner that stands in the table and an emission of it, and each such
-- one is a case.
use Rattle.std.proofs.Common.{◌≡◌, ℕ, zero, suc, ◌+◌, true, false, List, [], ◌∷◌, Option, Some, None, refl, sym, ap, subst, ◌∙◌, arith, inl, inr, ◌⊎◌, ⊎_elim, drop, drop-cons, append_assoc, add-one, length, ◌<◌, ◌++◌}
use Rattle.std.specs.Prelude.{◌==◌}
use Rattle.std.specs.List.{slice_get, Contains}
use Rattle.std.proofs.lemmas.List.Elements.{Contains-append_left, Contains-append_right, Contains-append_cases}
use Rattle.std.proofs.lemmas.Bool.{cases_Bool, or_cases, or_left, or_right, false≢true, eqb-true, eq-eqb}
use Rattle.mon_header.specs.declared.class.Class.{Class}
use Rattle.mon_header.specs.declared.class.Class.TheVariants.{Tcp, Udp, Icmp, OtherIpv4, Plain, Arp}
use Rattle.mon_table.specs.declared.rule.Rule.{Rule}
use Rattle.mon_table.specs.Rules.{identity_of}
use Rattle.mon_table.specs.Tables.{IsTable}
use Rattle.mon_table.specs.Places.{place_of}
use Rattle.mon_outcome.specs.declared.shape.Shape.{Shape}
use Rattle.mon_outcome.specs.Shaping.{shapes_of}
use Rattle.mon_shows.specs.declared.near.Near.{Near}
use Rattle.mon_shows.specs.declared.target.Target.{Target}
use Rattle.mon_shows.specs.declared.target.Target.TheVariants.{Put, Cut, Watch}
use Rattle.mon_shows.specs.Views.{has_link}
use Rattle.mon_job.specs.Jobs.{Task, IsIn}
use Rattle.mon_encode.specs.declared.case.Case.{Case}
use Rattle.mon_encode.specs.Cases.{by_position, of_rule, of_sure, of_any, by_winner, by_port, by_class, all_classes, cases_of, IsCaseOf, present}
use Rattle.mon_header.specs.Matching.{IsNormal}
use Rattle.mon_table.proofs.Listing.{has-all}
use Rattle.mon_shows.specs.Separation.{made_unsure, with_update}
use Rattle.mon_encode.proofs.Updating.{present-there}

abbrev pub case : Class → ℕ → Option ℕ → ℕ → Case
case class in_port winner emission = record { class = class; in_port = in_port; winner = winner; emission = emission }

-- an element of a list that begins with one
first-or-later : (x : Case) (xs : List Case) (c : Case) → Contains (x ∷ xs) c → (x ≡ c) ⊎ Contains xs c
first-or-later x xs c (zero, lt, e) = inl e
first-or-later x xs c (suc k, lt, e) = inr (k, omega arith, e)

first-in : (x : Case) (xs : List Case) (c : Case) → x ≡ c → Contains (x ∷ xs) c
first-in x xs c e = (0, omega arith, e)

later-in : (x : Case) (xs : List Case) (c : Case) → Contains xs c → Contains (x ∷ xs) c
later-in x xs c (k, lt, e) = (suc k, omega arith, e)

none-in : (c : Case) → Contains [] c → ⊥
none-in c (k, lt, e) = absurd (omega arith)

-- the cases of one winner
record AtPosition (class : Class) (in_port : ℕ) (winner : Option ℕ) (from : ℕ) (shapes : List Shape) (c : Case) : Type 0 where
  index : ℕ
  shape : Shape
  there : slice_get shapes index ≡ Some shape
  is : case class in_port winner (from + index) ≡ c

at-position : (class : Class) (in_port : ℕ) (winner : Option ℕ) (from : ℕ) (shapes : List Shape) (c : Case) → Contains (by_position class in_port winner from shapes) c
    → AtPosition class in_port winner from shapes c
at-position class in_port winner from [] c i = absurd (none-in c i)
at-position class in_port winner from (shape ∷ shapes) c i = ⊎_elim
    (λ (e : case class in_port winner from ≡ c).
    let n : from + 0 ≡ from = omega arith in
    record { index = 0; shape = shape; there = refl; is = ap (case class in_port winner) n ∙ e })
    (λ (j : Contains (by_position class in_port winner (suc from) shapes) c).
    let rest = at-position class in_port winner (suc from) shapes c j in
    let n : from + suc rest.index ≡ suc from + rest.index = omega arith in
    record { index = suc rest.index; shape = rest.shape; there = rest.there; is = ap (case class in_port winner) n ∙ rest.is })
    (first-or-later (case class in_port winner from) (by_position class in_port winner (suc from) shapes) c i)

position-in : (class : Class) (in_port : ℕ) (winner : Option ℕ) (from : ℕ) (shapes : List Shape) (index : ℕ) (shape : Shape) → slice_get shapes index ≡ Some shape
    → Contains (by_position class in_port winner from shapes) (case class in_port winner (from + index))
position-in class in_port winner from [] index shape g = absurd (let z : ⊥ = cc in z)
position-in class in_port winner from (s ∷ shapes) zero shape g =
    let n : from ≡ from + 0 = omega arith in
    first-in (case class in_port winner from) (by_position class in_port winner (suc from) shapes) (case class in_port winner (from + 0)) (ap (case class in_port winner) n)
position-in class in_port winner from (s ∷ shapes) (suc index) shape g =
    let n : suc from + index ≡ from + suc index = omega arith in
    later-in (case class in_port winner from) (by_position class in_port winner (suc from) shapes) (case class in_port winner (from + suc index))
    (subst (λ (m : ℕ). Contains (by_position class in_port winner (suc from) shapes) (case class in_port winner m)) n (position-in class in_port winner (suc from) shapes index shape g))

-- the winner stands in the table, and its emission is there
pub record Founded (t : List Rule) (c : Case) : Type 0 where
  pub place : ℕ
  pub rule : Rule
  pub shape : Shape
  pub winner : c.winner ≡ Some place
  pub rule_there : slice_get t place ≡ Some rule
  pub sure : rule.unsure ≡ false
  pub shape_there : slice_get (shapes_of rule.actions c.class c.in_port) c.emission ≡ Some shape

-- what is so of each case
pub record Founding (t : List Rule) (class : Class) (in_port : ℕ) (c : Case) : Type 0 where
  pub is_class : c.class ≡ class
  pub came_in : c.in_port ≡ in_port
  pub founded : (c.winner ≡ None) ⊎ Founded t c

rule-founded : (t : List Rule) (class : Class) (in_port place : ℕ) (r : Rule) (c : Case) → slice_get t place ≡ Some r → r.unsure ≡ false → Contains (of_rule class in_port place r) c → Founding t class in_port c
rule-founded t class in_port place r c g u i =
    let a = at-position class in_port (Some place) 0 (shapes_of r.actions class in_port) c i in
    let n : 0 + a.index ≡ a.index = omega arith in
    let founding : Founding t class in_port (case class in_port (Some place) (0 + a.index)) = record {
      is_class = refl;
      came_in = refl;
      founded = inr (record {
        place = place;
        rule = r;
        shape = a.shape;
        winner = refl;
        rule_there = g;
        sure = u;
        shape_there = ap (slice_get (shapes_of r.actions class in_port)) n ∙ a.there;
      });
    } in
    subst (Founding t class in_port) a.is founding

-- the cases of an unsure rule are none
sure-cases : (class : Class) (in_port place : ℕ) (r : Rule) → r.unsure ≡ false → of_sure class in_port place r ≡ of_rule class in_port place r
sure-cases class in_port place r u = rw u refl

unsure-cases : (class : Class) (in_port place : ℕ) (r : Rule) → r.unsure ≡ true → of_sure class in_port place r ≡ []
unsure-cases class in_port place r u = rw u refl

any-founded : (whole : List Rule) (class : Class) (in_port from : ℕ) (t : List Rule) (c : Case) → ((k : ℕ) (r : Rule) → slice_get t k ≡ Some r → slice_get whole (from + k) ≡ Some r)
    → Contains (of_any class in_port from t) c → Founding whole class in_port c
any-founded whole class in_port from [] c f i = ⊎_elim
    (λ (e : case class in_port None 0 ≡ c).
    let founding : Founding whole class in_port (case class in_port None 0) = record { is_class = refl; came_in = refl; founded = inl refl } in
    subst (Founding whole class in_port) e founding)
    (λ (j : Contains [] c). absurd (none-in c j))
    (first-or-later (case class in_port None 0) [] c i)
any-founded whole class in_port from (r ∷ t) c f i = ⊎_elim
    (λ (j : Contains (of_sure class in_port from r) c). ⊎_elim
    (λ (u : r.unsure ≡ true). absurd (none-in c (subst (λ (cs : List Case). Contains cs c) (unsure-cases class in_port from r u) j)))
    (λ (u : r.unsure ≡ false).
    let n : from + 0 ≡ from = omega arith in
    rule-founded whole class in_port from r c (ap (slice_get whole) (sym n) ∙ f 0 r refl) u
    (subst (λ (cs : List Case). Contains cs c) (sure-cases class in_port from r u) j))
    (cases_Bool r.unsure))
    (λ (j : Contains (of_any class in_port (suc from) t) c).
    any-founded whole class in_port (suc from) t c
    (λ k s g. let n : suc from + k ≡ from + suc k = omega arith in ap (slice_get whole) n ∙ f (suc k) s g) j)
    (Contains-append_cases (of_sure class in_port from r) (of_any class in_port (suc from) t) c i)

winner-founded : (t : List Rule) (x : Target) (class : Class) (in_port : ℕ) (c : Case) → IsTable t → IsIn t x → Contains (by_winner t x class in_port) c → Founding (with_update t x) class in_port c
winner-founded t (Put r old) class in_port c o has i =
    rule-founded (with_update t (Put r old)) class in_port (place_of (identity_of r) t) (made_unsure false r) c
    (present-there t (made_unsure false r) o (has-all (λ s. IsNormal s.matching) t r o.normal has)) refl i
winner-founded t (Cut r) class in_port c o has i =
    any-founded t class in_port 0 t c (λ k s g. let n : 0 + k ≡ k = omega arith in ap (slice_get t) n ∙ g) i
winner-founded t (Watch r) class in_port c o has i =
    rule-founded (with_update t (Watch r)) class in_port (place_of (identity_of r) t) (made_unsure false r) c
    (present-there t (made_unsure false r) o (has-all (λ s. IsNormal s.matching) t r o.normal has)) refl i

-- the port is a link's
pub record Linked (t : List Rule) (links : List Near) (class : Class) (c : Case) : Type 0 where
  pub port : ℕ
  pub link : has_link port links ≡ true
  pub founding : Founding t class port c

port-linked : (t : List Rule) (x : Target) (class : Class) (links : List Near) (c : Case) → IsTable t → IsIn t x → Contains (by_port t x class links) c → Linked (with_update t x) links class c
port-linked t x class [] c o has i = absurd (none-in c i)
port-linked t x class (near ∷ links) c o has i = ⊎_elim
    (λ (j : Contains (by_winner t x class near.port) c).
    record { port = near.port; link = or_left _ _ (eq-eqb near.port near.port refl); founding = winner-founded t x class near.port c o has j })
    (λ (j : Contains (by_port t x class links) c).
    let rest = port-linked t x class links c o has j in
    record { port = rest.port; link = or_right _ _ rest.link; founding = rest.founding })
    (Contains-append_cases (by_winner t x class near.port) (by_port t x class links) c i)

-- what is so of a case of these classes
pub record Fact (t : List Rule) (links : List Near) (c : Case) : Type 0 where
  pub link : has_link c.in_port links ≡ true
  pub founded : (c.winner ≡ None) ⊎ Founded t c

linked-fact : (t : List Rule) (links : List Near) (class : Class) (c : Case) → Linked t links class c → Fact t links c
linked-fact t links class c l = record { link = ap (λ (n : ℕ). has_link n links) l.founding.came_in ∙ l.link; founded = l.founding.founded }

class-fact : (t : List Rule) (x : Target) (links : List Near) (classes : List Class) (c : Case) → IsTable t → IsIn t x → Contains (by_class t x links classes) c → Fact (with_update t x) links c
class-fact t x links [] c o has i = absurd (none-in c i)
class-fact t x links (class ∷ classes) c o has i = ⊎_elim
    (λ (j : Contains (by_port t x class links) c). linked-fact (with_update t x) links class c (port-linked t x class links c o has j))
    (λ (j : Contains (by_class t x links classes) c). class-fact t x links classes c o has j)
    (Contains-append_cases (by_port t x class links) (by_class t x links classes) c i)

pub case-fact : (j : Task) (c : Case) → IsTable j.table → IsIn j.table j.target → IsCaseOf j c → Fact (present j) j.view.links c
unfolding cases_of
case-fact j c o has i = class-fact j.table j.target j.view.links all_classes c o has i

-- and each such one is a case
pub rule-in : (class : Class) (in_port place : ℕ) (r : Rule) (position : ℕ) (shape : Shape) → slice_get (shapes_of r.actions class in_port) position ≡ Some shape
    → Contains (of_rule class in_port place r) (case class in_port (Some place) position)
rule-in class in_port place r position shape g =
    let n : 0 + position ≡ position = omega arith in
    subst (λ (m : ℕ). Contains (of_rule class in_port place r) (case class in_port (Some place) m)) n (position-in class in_port (Some place) 0 (shapes_of r.actions class in_port) position shape g)

pub miss-in : (class : Class) (in_port from : ℕ) (t : List Rule) → Contains (of_any class in_port from t) (case class in_port None 0)
miss-in class in_port from [] = first-in (case class in_port None 0) [] (case class in_port None 0) refl
miss-in class in_port from (r ∷ t) = Contains-append_right (of_sure class in_port from r) (of_any class in_port (suc from) t) (case class in_port None 0) (miss-in class in_port (suc from) t)

any-in : (class : Class) (in_port from : ℕ) (t : List Rule) (k : ℕ) (r : Rule) (position : ℕ) (shape : Shape) → r.unsure ≡ false → slice_get t k ≡ Some r → slice_get (shapes_of r.actions class in_port) position ≡ Some shape
    → Contains (of_any class in_port from t) (case class in_port (Some (from + k)) position)
any-in class in_port from [] k r position shape u g s = absurd (let z : ⊥ = cc in z)
any-in class in_port from (x ∷ t) zero r position shape u g s =
    let same : x ≡ r = cc in
    let n : from ≡ from + 0 = omega arith in
    Contains-append_left (of_sure class in_port from x) (of_any class in_port (suc from) t) (case class in_port (Some (from + 0)) position)
    (subst (λ (m : ℕ). Contains (of_sure class in_port from x) (case class in_port (Some m) position)) n
    (subst (λ (cs : List Case). Contains cs (case class in_port (Some from) position)) (sym (sure-cases class in_port from x (ap (λ (y : Rule). y.unsure) same ∙ u)))
    (rule-in class in_port from x position shape (ap (λ (y : Rule). slice_get (shapes_of y.actions class in_port) position) same ∙ s))))
any-in class in_port from (x ∷ t) (suc k) r position shape u g s =
    let n : suc from + k ≡ from + suc k = omega arith in
    Contains-append_right (of_sure class in_port from x) (of_any class in_port (suc from) t) (case class in_port (Some (from + suc k)) position)
    (subst (λ (m : ℕ). Contains (of_any class in_port (suc from) t) (case class in_port (Some m) position)) n (any-in class in_port (suc from) t k r position shape u g s))

pub cut-in : (class : Class) (in_port : ℕ) (t : List Rule) (k : ℕ) (r : Rule) (position : ℕ) (shape : Shape) → r.unsure ≡ false → slice_get t k ≡ Some r → slice_get (shapes_of r.actions class in_port) position ≡ Some shape
    → Contains (of_any class in_port 0 t) (case class in_port (Some k) position)
cut-in class in_port t k r position shape u g s =
    let n : 0 + k ≡ k = omega arith in
    subst (λ (m : ℕ). Contains (of_any class in_port 0 t) (case class in_port (Some m) position)) n (any-in class in_port 0 t k r position shape u g s)

port-in : (t : List Rule) (x : Target) (class : Class) (links : List Near) (in_port : ℕ) (c : Case) → has_link in_port links ≡ true → Contains (by_winner t x class in_port) c
    → Contains (by_port t x class links) c
port-in t x class [] in_port c l i = absurd (false≢true l)
port-in t x class (near ∷ links) in_port c l i = ⊎_elim
    (λ (e : (near.port == in_port) ≡ true).
    Contains-append_left (by_winner t x class near.port) (by_port t x class links) c
    (subst (λ (n : ℕ). Contains (by_winner t x class n) c) (sym (eqb-true near.port in_port e)) i))
    (λ (e : has_link in_port links ≡ true).
    Contains-append_right (by_winner t x class near.port) (by_port t x class links) c (port-in t x class links in_port c e i))
    (or_cases (near.port == in_port) _ l)

-- a case of one of these classes
among-classes : (t : List Rule) (x : Target) (links : List Near) (classes : List Class) (k : ℕ) (class : Class) (c : Case) → slice_get classes k ≡ Some class
    → Contains (by_port t x class links) c → Contains (by_class t x links classes) c
among-classes t x links [] k class c e i = absurd cc
among-classes t x links (first ∷ classes) zero class c e i =
    let same : first ≡ class = cc in
    Contains-append_left (by_port t x first links) (by_class t x links classes) c (subst (λ (d : Class). Contains (by_port t x d links) c) (sym same) i)
among-classes t x links (first ∷ classes) (suc k) class c e i =
    Contains-append_right (by_port t x first links) (by_class t x links classes) c (among-classes t x links classes k class c e i)

class-in : (t : List Rule) (x : Target) (links : List Near) (class : Class) (c : Case) → Contains (by_port t x class links) c → Contains (by_class t x links all_classes) c
class-in t x links Tcp c i = among-classes t x links all_classes 0 Tcp c refl i
class-in t x links Udp c i = among-classes t x links all_classes 1 Udp c refl i
class-in t x links Icmp c i = among-classes t x links all_classes 2 Icmp c refl i
class-in t x links OtherIpv4 c i = among-classes t x links all_classes 3 OtherIpv4 c refl i
class-in t x links Plain c i = among-classes t x links all_classes 4 Plain c refl i
class-in t x links Arp c i = among-classes t x links all_classes 5 Arp c refl i

pub case-in : (j : Task) (class : Class) (in_port : ℕ) (c : Case) → has_link in_port j.view.links ≡ true → Contains (by_winner j.table j.target class in_port) c → IsCaseOf j c
unfolding cases_of
case-in j class in_port c l i = class-in j.table j.target j.view.links class c (port-in j.table j.target class j.view.links in_port c l i)

-- one more position
pub position-more : (front new : List Case) (class : Class) (in_port : ℕ) (winner : Option ℕ) (n : ℕ) (shapes : List Shape) (all : List Case) → n < length shapes
    → new ≡ front ++ case class in_port winner n ∷ [] → front ++ by_position class in_port winner n (drop n shapes) ≡ all
    → new ++ by_position class in_port winner (n + 1) (drop (n + 1) shapes) ≡ all
position-more front new class in_port winner n [] all lt e s = absurd (omega arith)
position-more front new class in_port winner n (shape ∷ shapes) all lt e s =
    let rest = λ (m : ℕ). by_position class in_port winner m (drop m (shape ∷ shapes)) in
    ap (λ (cs : List Case). cs ++ rest (n + 1)) e
    ∙ (append_assoc front (case class in_port winner n ∷ []) (rest (n + 1))
    ∙ (ap (λ (m : ℕ). front ++ (case class in_port winner n ∷ rest m)) (add-one n)
    ∙ (sym (ap (λ (xs : List Shape). front ++ by_position class in_port winner n xs) (drop-cons (shape ∷ shapes) n shape lt)) ∙ s)))
