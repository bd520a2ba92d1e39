-- What it means that no link is wrong.
use Rattle.std.proofs.Common.{◌≡◌, ◌≢◌, ℕ, suc, refl, Bool, true, false, not, ◌&&◌, ◌||◌, List, [], ◌∷◌, ◌++◌}
use Rattle.std.specs.Prelude.{Option, Some, None, ◌==◌, if◌then◌else◌}
use Rattle.std.proofs.lemmas.Bool.{eqb-false}
use Rattle.mon_topo.specs.declared.topology.Link.{Link}
use Rattle.mon_topo.specs.declared.fault.TopoFault.{TopoFault}
use Rattle.mon_topo.specs.declared.fault.TopoFault.TheVariants.{UnknownEnd, LinkTwice}
use Rattle.mon_topo.specs.Links.{is_used, is_listed, or_else, wrong, first_wrong}

-- the ends of a link are at two listed switches
pub record HasTwoEnds (switches : List ℕ) (l : Link) : Type 0 where
  pub a : is_listed switches l.a ≡ true
  pub b : is_listed switches l.b ≡ true
  pub apart : l.a ≢ l.b

-- so are those of each link
abbrev pub HaveTwoEnds : List ℕ → List Link → Type 0
HaveTwoEnds switches [] = Unit {0}
HaveTwoEnds switches (l ∷ ls) = HasTwoEnds switches l × HaveTwoEnds switches ls

or_else-none : (one other : Option TopoFault) → or_else one other ≡ None → (one ≡ None) × (other ≡ None)
or_else-none None other is = (refl, is)
or_else-none (Some x) other is = cc

both_tests : (unknown twice : TopoFault) (a b same used : Bool)
    → (if not (a && b) then Some unknown else (if same || used then Some twice else None)) ≡ None
    → (a ≡ true) × (b ≡ true) × (same ≡ false)
both_tests unknown twice false b same used is = cc
both_tests unknown twice true false same used is = cc
both_tests unknown twice true true true used is = cc
both_tests unknown twice true true false used is = (refl, refl, refl)

wrong-none : (switches : List ℕ) (earlier : List Link) (place : ℕ) (l : Link) → wrong switches earlier place l ≡ None → HasTwoEnds switches l
unfolding wrong
wrong-none switches earlier place l is =
    let tests : (is_listed switches l.a ≡ true) × (is_listed switches l.b ≡ true) × ((l.a == l.b) ≡ false) =
    both_tests (UnknownEnd place) (LinkTwice place) (is_listed switches l.a) (is_listed switches l.b) (l.a == l.b) (is_used l.a l.a_port earlier || is_used l.b l.b_port earlier) is in
    record { a = tests.0; b = tests.1; apart = eqb-false l.a l.b tests.2 }

pub first_wrong-none : (switches : List ℕ) (earlier : List Link) (place : ℕ) (links : List Link) → first_wrong switches earlier place links ≡ None → HaveTwoEnds switches links
first_wrong-none switches earlier place [] is = tt
first_wrong-none switches earlier place (l ∷ ls) is =
    let parts = or_else-none (wrong switches earlier place l) (first_wrong switches (earlier ++ l ∷ []) (suc place) ls) is in
    (wrong-none switches earlier place l parts.0, first_wrong-none switches (earlier ++ l ∷ []) (suc place) ls parts.1)
