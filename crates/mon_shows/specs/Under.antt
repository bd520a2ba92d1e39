-- When a table shows no more of a header than another.
use Rattle.std.specs.Prelude.{◌≡◌, true, false, List}
use Rattle.mon_list.specs.Has.{Has}
use Rattle.mon_header.specs.declared.header.Header.{Header}
use Rattle.mon_header.specs.Matching.{matches}
use Rattle.mon_table.specs.declared.rule.Rule.{Rule}
use Rattle.mon_table.specs.Rules.{identity_of}

-- the second table has a rule of the first one's identity and actions
pub record HasLike (u : List Rule) (r : Rule) : Type 0 where
  pub like : Rule
  pub has : Has u like
  pub identity : identity_of like ≡ identity_of r
  pub actions : like.actions ≡ r.actions

-- the table has a sure rule of this one's identity
pub record HasSure (t : List Rule) (s : Rule) : Type 0 where
  pub sure : Rule
  pub has : Has t sure
  pub is_sure : sure.unsure ≡ false
  pub identity : identity_of sure ≡ identity_of s

-- of the rules that match the header, the first table has only such as the second has, sure or not, and where one of
-- the second is sure it has a sure one
pub record Under (h : Header) (t u : List Rule) : Type 0 where
  pub like : (r : Rule) → matches r.matching h ≡ true → Has t r → HasLike u r
  pub sure : (s : Rule) → matches s.matching h ≡ true → s.unsure ≡ false → Has u s → HasSure t s
