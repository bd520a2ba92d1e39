-- The stand-in of a rule that drops: it marks the packets and sends them to a neighbour, which drops what is marked.
use Rattle.std.specs.Prelude.{ℕ, Bool, not, ◌==◌, ◌&&◌, ◌||◌, if◌then◌else◌, List, [], ◌∷◌, Option, None, find, option_map}
use Rattle.std.specs.List.{list_any}
use Rattle.mon_header.specs.declared.action.Action.TheVariants.{Output, SetDlDst}
use Rattle.mon_header.specs.Matching.{Matching}
use Rattle.mon_table.specs.declared.rule.Rule.{Rule}
use Rattle.mon_shows.specs.declared.near.Near.{Near}
use Rattle.mon_shows.specs.Views.{Viewing}

-- the Ethernet address that marks a packet that is to be dropped
abbrev pub drop_mark : ℕ
drop_mark = 0x024d4f4e4f00

-- packets that the match takes can come in at the port
abbrev pub allows_port : Matching → ℕ → Bool
allows_port m port = m.wild.in_port || (m.fields.in_port == port)

-- some other link's port is one at which they can come in
abbrev pub has_other : Matching → List Near → ℕ → Bool
has_other m links port = list_any (λ n. not (n.port == port) && allows_port m n.port) links

-- they can bear the switch's own tag
abbrev pub allows_tag : Matching → ℕ → Bool
allows_tag m tag = m.wild.dl_vlan || (m.fields.dl_vlan == tag)

-- the port by which the stand-in sends: the least one from which the packet comes to a neighbour
abbrev pub stand_in_port : Viewing → Matching → Option ℕ
stand_in_port v m = if allows_tag m v.tag then option_map (λ n. n.port) (find (λ n. has_other m v.links n.port) v.links) else None

abbrev pub stand_in_at : Rule → ℕ → Rule
stand_in_at r port = record r { actions = SetDlDst drop_mark ∷ Output port 0 ∷ [] }

-- of a rule that drops
abbrev pub stand_in : Viewing → Rule → Option Rule
stand_in v r = option_map (stand_in_at r) (stand_in_port v r.matching)
