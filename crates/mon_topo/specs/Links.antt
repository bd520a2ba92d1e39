-- Which links are wrong, and which switch a link leads to.
use Rattle.std.specs.Prelude.{ℕ, suc, Bool, not, ◌==◌, ◌&&◌, ◌||◌, if◌then◌else◌, List, [], ◌∷◌, ◌++◌, Option, Some, None}
use Rattle.std.specs.List.{list_any}
use Rattle.mon_topo.specs.declared.topology.Link.{Link}
use Rattle.mon_topo.specs.declared.fault.TopoFault.{TopoFault}
use Rattle.mon_topo.specs.declared.fault.TopoFault.TheVariants.{UnknownEnd, LinkTwice}

-- an end of the link is at this port of this switch
abbrev pub ends_at : ℕ → ℕ → Link → Bool
ends_at switch port l = ((l.a == switch) && (l.a_port == port)) || ((l.b == switch) && (l.b_port == port))

-- one of these links uses this port of this switch
abbrev pub is_used : ℕ → ℕ → List Link → Bool
is_used switch port links = list_any (ends_at switch port) links

-- the switch is listed
abbrev pub is_listed : List ℕ → ℕ → Bool
is_listed switches switch = list_any (λ listed. listed == switch) switches

-- an end of the link is at no listed switch
abbrev pub is_unknown : List ℕ → Link → Bool
is_unknown switches l = not (is_listed switches l.a && is_listed switches l.b)

-- both ends of the link are at one switch, or it uses a port that an earlier one uses
abbrev pub is_twice : List Link → Link → Bool
is_twice earlier l = (l.a == l.b) || (is_used l.a l.a_port earlier || is_used l.b l.b_port earlier)

-- what is wrong with the link at a place, after the earlier ones
unfoldable pub wrong : List ℕ → List Link → ℕ → Link → Option TopoFault
wrong switches earlier place l =
    if is_unknown switches l then Some (UnknownEnd place)
    else (if is_twice earlier l then Some (LinkTwice place) else None)

-- the one, or else the other
abbrev pub or_else : {A : Type 0} → Option A → Option A → Option A
or_else (Some x) other = Some x
or_else None other = other

-- what is wrong with the first of the links that is wrong; the first of them stands at a place, after the earlier ones
abbrev pub first_wrong : List ℕ → List Link → ℕ → List Link → Option TopoFault
first_wrong switches earlier place [] = None
first_wrong switches earlier place (l ∷ ls) =
    or_else (wrong switches earlier place l) (first_wrong switches (earlier ++ l ∷ []) (suc place) ls)
