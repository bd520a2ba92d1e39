-- Rules: their rank, their identity, and the order in which they stand in a table.
use Rattle.std.specs.Prelude.{ℕ, Bool, ◌==◌, nat_lt, ◌&&◌, ◌||◌}
use Rattle.std.specs.Bool.{beq}
use Rattle.mon_header.specs.declared.wild.Wildcards.{Wildcards}
use Rattle.mon_header.specs.Matching.{Matching, effective}
use Rattle.mon_header.specs.Order.{match_before}
use Rattle.mon_header.specs.Same.{same_header}
use Rattle.mon_table.specs.declared.rule.Rule.{Rule}

-- the same fields are not compared, and the same low bits of the addresses
unfoldable pub same_wild : Wildcards → Wildcards → Bool
same_wild a b =
    beq a.in_port b.in_port
    && (beq a.dl_vlan b.dl_vlan
    && (beq a.dl_src b.dl_src
    && (beq a.dl_dst b.dl_dst
    && (beq a.dl_type b.dl_type
    && (beq a.nw_proto b.nw_proto
    && (beq a.tp_src b.tp_src
    && (beq a.tp_dst b.tp_dst
    && (beq a.dl_vlan_pcp b.dl_vlan_pcp
    && (beq a.nw_tos b.nw_tos
    && ((a.nw_src == b.nw_src)
    && (a.nw_dst == b.nw_dst)))))))))))

-- the matches are equal
unfoldable pub same_match : Matching → Matching → Bool
same_match a b = same_wild a.wild b.wild && same_header a.fields b.fields

-- what tells a rule from the others of its table: its effective priority and its match
pub record Identity : Type 0 where
  pub rank : ℕ
  pub matching : Matching

-- the identity of a rule with this match and this priority
abbrev pub identity : Matching → ℕ → Identity
identity m priority = record { rank = effective m priority; matching = m }

-- the effective priority of a rule
abbrev pub rank : Rule → ℕ
rank r = effective r.matching r.priority

-- the identity of a rule
abbrev pub identity_of : Rule → Identity
identity_of r = identity r.matching r.priority

-- the identities are equal
unfoldable pub same_identity : Identity → Identity → Bool
same_identity a b = (a.rank == b.rank) && same_match a.matching b.matching

-- table order: falling effective priority, then rising matches
unfoldable pub comes_before : Identity → Identity → Bool
comes_before a b = nat_lt b.rank a.rank || ((a.rank == b.rank) && match_before a.matching b.matching)
