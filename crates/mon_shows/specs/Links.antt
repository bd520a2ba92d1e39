-- The links of a switch to its neighbours.
use Rattle.std.specs.Prelude.{◌≡◌, ◌≢◌, ℕ, suc, ◌≤◌, ◌⊎◌, ◌==◌, List, [], ◌∷◌, Option}
use Rattle.std.specs.List.{find}
use Rattle.mon_shows.specs.declared.near.Near.{Near}

-- ports from low on, each above the one before it
abbrev pub PortsAscend : ℕ → List Near → Type 0
PortsAscend low [] = Unit {0}
PortsAscend low (n ∷ ns) = (low ≤ n.port) × PortsAscend (suc n.port) ns

-- the link at a port
abbrev pub link_at : ℕ → List Near → Option Near
link_at port links = find (λ n. n.port == port) links

-- the link is one of these
abbrev pub HasLink : List Near → Near → Type 0
HasLink [] n = ⊥
HasLink (m ∷ ms) n = (n ≡ m) ⊎ HasLink ms n

-- no two links lead to one port of one switch
abbrev pub FarEndsDiffer : List Near → Type 0
FarEndsDiffer links = (m n : Near) → HasLink links m → HasLink links n → m.switch ≡ n.switch → m.far_port ≡ n.far_port → m ≡ n

-- no link leads back to the switch
abbrev pub LeadAway : ℕ → List Near → Type 0
LeadAway switch links = (n : Near) → HasLink links n → n.switch ≢ switch
