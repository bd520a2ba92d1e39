-- Each switch gets a tag, and linked switches get different ones.
use Rattle.std.proofs.Common.{◌≡◌, ◌≢◌, ℕ, ◌∙◌, ap, sym, subst, refl, append_assoc, append-nil, Bool, true, false, ◌||◌, List, [], ◌∷◌, ◌++◌}
use Rattle.std.specs.Prelude.{Option, Some, None, Ok, ◌==◌, if◌then◌else◌, option_and_then}
use Rattle.std.proofs.lemmas.Bool.{eqb-true}
use Rattle.std.proofs.lemmas.List.{map-append}
use Rattle.mon_topo.specs.declared.topology.Link.{Link}
use Rattle.mon_topo.specs.declared.topology.Topology.{Topology}
use Rattle.mon_topo.specs.declared.fault.TopoFault.{TopoFault}
use Rattle.mon_topo.specs.declared.tagged.Tagged.{Tagged}
use Rattle.mon_topo.specs.Links.{is_listed, first_wrong}
use Rattle.mon_topo.specs.Tags.{tag_of, far_end, far_tag, taken, first_free, greedy, switches_of, LinkedDiffer}
use Rattle.mon_topo.specs.Colour.{unless_wrong, coloured}
use Rattle.mon_topo.proofs.Choosing.{is_among, first_free-untaken, among-more, tag_of-more, ends-differ}
use Rattle.mon_topo.proofs.Judging.{HaveTwoEnds, first_wrong-none}

-- a switch and its tag, with those before
abbrev pub with_tag : List Tagged → ℕ → ℕ → List Tagged
with_tag given switch tag = given ++ record { switch = switch; tag = tag } ∷ []

-- the two ends of a link don't have one tag
abbrev pub EndsApart : List Tagged → Link → Type 0
EndsApart given l = l.a ≢ l.b → (u : ℕ) → tag_of l.a given ≡ Some u → tag_of l.b given ≢ Some u

abbrev pub AllApart : List Tagged → List Link → Type 0
AllApart given [] = Unit {0}
AllApart given (l ∷ ls) = EndsApart given l × AllApart given ls

apart-none : (links : List Link) → AllApart [] links
apart-none [] = tt
apart-none (l ∷ ls) = ((λ two u has both. cc), apart-none ls)

at_ends : (given : List Tagged) (l : Link) (tag : ℕ) (is_a is_b : Bool)
    → option_and_then (λ far. tag_of far given) (if is_a then Some l.b else (if is_b then Some l.a else None)) ≢ Some tag
    → (is_a ≡ true → tag_of l.b given ≢ Some tag) × (is_a ≡ false → is_b ≡ true → tag_of l.a given ≢ Some tag)
at_ends given l tag true is_b far = ((λ _. far), (λ e. cc))
at_ends given l tag false true far = ((λ e. cc), (λ _. λ _. far))
at_ends given l tag false false far = ((λ e. cc), (λ _. λ e. cc))

far_apart : (given : List Tagged) (s tag : ℕ) (l : Link) → far_tag s given l ≢ Some tag
    → ((s == l.a) ≡ true → tag_of l.b given ≢ Some tag) × ((s == l.a) ≡ false → (s == l.b) ≡ true → tag_of l.a given ≢ Some tag)
unfolding far_end
far_apart given s tag l far = at_ends given l tag (s == l.a) (s == l.b) far

link-apart : (given : List Tagged) (s tag : ℕ) (l : Link) → far_tag s given l ≢ Some tag → EndsApart given l → EndsApart (with_tag given s tag) l
link-apart given s tag l far old two u has both =
    let ends = far_apart given s tag l far in
    let t : Tagged = record { switch = s; tag = tag } in
    ends-differ (tag_of l.a given) (tag_of l.b given) (s == l.a) (s == l.b) tag u
    (λ is_a is_b. two (sym (eqb-true s l.a is_a) ∙ eqb-true s l.b is_b))
    ends.0 ends.1 (old two)
    (sym (tag_of-more l.a given t) ∙ has)
    (sym (tag_of-more l.b given t) ∙ both)

links-apart : (given : List Tagged) (s tag : ℕ) (links : List Link) → is_among (taken s given links) tag ≡ false → AllApart given links → AllApart (with_tag given s tag) links
links-apart given s tag [] free old = tt
links-apart given s tag (l ∷ ls) free old =
    let parts = among-more (far_tag s given l) (taken s given ls) tag free in
    (link-apart given s tag l parts.0 old.0, links-apart given s tag ls parts.1 old.1)

apart_step : (links : List Link) (tags : List ℕ) (given : List Tagged) (s : ℕ) (ss : List ℕ) (result : List Tagged) (o : Option ℕ)
    → first_free (taken s given links) tags ≡ o
    → AllApart given links
    → option_and_then (λ tag. greedy links tags (with_tag given s tag) ss) o ≡ Some result
    → ((tag : ℕ) → AllApart (with_tag given s tag) links → greedy links tags (with_tag given s tag) ss ≡ Some result → AllApart result links)
    → AllApart result links
apart_step links tags given s ss result None free old is rest = cc
apart_step links tags given s ss result (Some tag) free old is rest =
    rest tag (links-apart given s tag links (first_free-untaken (taken s given links) tags tag free) old) is

greedy-apart : (links : List Link) (tags : List ℕ) (given : List Tagged) (switches : List ℕ) (result : List Tagged) → AllApart given links → greedy links tags given switches ≡ Some result → AllApart result links
greedy-apart links tags given [] result old is =
    let same : given ≡ result = cc in
    subst (λ (g : List Tagged). AllApart g links) same old
greedy-apart links tags given (s ∷ ss) result old is =
    apart_step links tags given s ss result (first_free (taken s given links) tags) refl old is
    (λ tag apart more. greedy-apart links tags (with_tag given s tag) ss result apart more)

switches_step : (links : List Link) (tags : List ℕ) (given : List Tagged) (s : ℕ) (ss : List ℕ) (result : List Tagged) (o : Option ℕ)
    → option_and_then (λ tag. greedy links tags (with_tag given s tag) ss) o ≡ Some result
    → ((tag : ℕ) → greedy links tags (with_tag given s tag) ss ≡ Some result → switches_of result ≡ switches_of (with_tag given s tag) ++ ss)
    → switches_of result ≡ switches_of given ++ s ∷ ss
switches_step links tags given s ss result None is rest = cc
switches_step links tags given s ss result (Some tag) is rest =
    let more : switches_of (with_tag given s tag) ≡ switches_of given ++ s ∷ [] = map-append (λ (t : Tagged). t.switch) given (record { switch = s; tag = tag } ∷ []) in
    rest tag is ∙ (ap (λ xs. xs ++ ss) more ∙ append_assoc (switches_of given) (s ∷ []) ss)

greedy-switches : (links : List Link) (tags : List ℕ) (given : List Tagged) (switches : List ℕ) (result : List Tagged) → greedy links tags given switches ≡ Some result → switches_of result ≡ switches_of given ++ switches
greedy-switches links tags given [] result is =
    let same : given ≡ result = cc in
    sym (ap switches_of same) ∙ sym (append-nil (switches_of given))
greedy-switches links tags given (s ∷ ss) result is =
    switches_step links tags given s ss result (first_free (taken s given links) tags) is
    (λ tag more. greedy-switches links tags (with_tag given s tag) ss result more)

listed_step : (g : Tagged) (gs : List Tagged) (x : ℕ) (test : Bool) → (test || is_listed (switches_of gs) x) ≡ true
    → (is_listed (switches_of gs) x ≡ true → (u : ℕ) × (tag_of x gs ≡ Some u))
    → (u : ℕ) × ((if test then Some g.tag else tag_of x gs) ≡ Some u)
listed_step g gs x true is rest = (g.tag, refl)
listed_step g gs x false is rest = rest is

-- a switch that is listed has a tag
listed-tagged : (given : List Tagged) (x : ℕ) → is_listed (switches_of given) x ≡ true → (u : ℕ) × (tag_of x given ≡ Some u)
listed-tagged [] x is = cc
listed-tagged (g ∷ gs) x is = listed_step g gs x (g.switch == x) is (listed-tagged gs x)

apart-differ : (given : List Tagged) (links : List Link) → HaveTwoEnds (switches_of given) links → AllApart given links → LinkedDiffer given links
apart-differ given [] ends apart = tt
apart-differ given (l ∷ ls) ends apart =
    let tagged = listed-tagged given l.a ends.0.a in (
      (λ same. apart.0 ends.0.apart tagged.0 tagged.1 (sym same ∙ tagged.1)),
      apart-differ given ls ends.1 apart.1,
    )

coloured_parts : (fault : Option TopoFault) (chosen : Option (List Tagged)) (given : List Tagged) → unless_wrong fault chosen ≡ Ok given → (fault ≡ None) × (chosen ≡ Some given)
coloured_parts (Some f) chosen given is = cc
coloured_parts None None given is = cc
coloured_parts None (Some g) given is = let same : g ≡ given = cc in (refl, ap (λ (x : List Tagged). Some x) same)

-- each switch of the topology gets a tag
pub coloured-switches : (t : Topology) (tags : List ℕ) (given : List Tagged) → coloured t tags ≡ Ok given → switches_of given ≡ t.switches
coloured-switches t tags given is =
    let parts = coloured_parts (first_wrong t.switches [] 0 t.links) (greedy t.links tags [] t.switches) given is in
    greedy-switches t.links tags [] t.switches given parts.1

-- the ends of each link get different ones
pub coloured-differ : (t : Topology) (tags : List ℕ) (given : List Tagged) → coloured t tags ≡ Ok given → LinkedDiffer given t.links
coloured-differ t tags given is =
    let parts = coloured_parts (first_wrong t.switches [] 0 t.links) (greedy t.links tags [] t.switches) given is in
    let ends : HaveTwoEnds t.switches t.links = first_wrong-none t.switches [] 0 t.links parts.0 in
    apart-differ given t.links
    (subst (λ (ss : List ℕ). HaveTwoEnds ss t.links) (sym (coloured-switches t tags given is)) ends)
    (greedy-apart t.links tags [] t.switches given (apart-none t.links) parts.1)
