-- The table of rules that are given in any order.
use Rattle.std.specs.Prelude.{◌≡◌, ◌↔◌, false, List, [], ◌∷◌}
use Rattle.std.specs.List.{AllByRecursion}
use Rattle.mon_list.specs.Has.{Has}
use Rattle.mon_table.specs.declared.rule.Rule.{Rule}
use Rattle.mon_table.specs.Rules.{identity_of, same_identity}
use Rattle.mon_table.specs.Tables.{IsTable}

-- no two rules have one identity
abbrev pub AreApart : List Rule → Type 0
AreApart [] = Unit {0}
AreApart (r ∷ rs) = AllByRecursion (λ s. same_identity (identity_of s) (identity_of r) ≡ false) rs × AreApart rs

-- the table has these rules and no others
pub record IsTableOf (rules : List Rule) (t : List Rule) : Type 0 where
  pub table : IsTable t
  pub members : (r : Rule) → Has t r ↔ Has rules r
