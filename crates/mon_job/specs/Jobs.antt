-- What a job asks.
use Rattle.std.specs.Prelude.{◌≡◌, ℕ, List, Some, None}
use Rattle.mon_list.specs.Has.{Has}
use Rattle.mon_header.specs.Actions.{AllFit}
use Rattle.mon_header.specs.Matching.{IsNormal}
use Rattle.mon_table.specs.declared.rule.Rule.{Rule}
use Rattle.mon_table.specs.Rules.{identity_of}
use Rattle.mon_table.specs.Edits.{edited}
use Rattle.mon_table.specs.Tables.{IsTable, AllActionsFit, rule_of, slice}
use Rattle.mon_shows.specs.declared.target.Target.{Target}
use Rattle.mon_shows.specs.declared.target.Target.TheVariants.{Put, Cut, Watch}
use Rattle.mon_shows.specs.Separation.{taken_back}
use Rattle.mon_shows.specs.Views.{Viewing, IsView}

-- the numbers of a job, and what it asks: which packet shows, in this view, that the target's update is in the table
pub record Task : Type 0 where
  pub number : ℕ
  pub session : ℕ
  pub slot : ℕ
  pub edit : ℕ
  pub version : ℕ
  pub view : Viewing
  pub table : List Rule
  pub target : Target

-- the rule that was put or cut, or is watched
abbrev pub updated : Target → Rule
updated (Put r old) = r
updated (Cut r) = r
updated (Watch r) = r

-- an old rule has the identity of the rule that took its place
abbrev pub ReplacesItsOwn : Target → Type 0
ReplacesItsOwn (Put r None) = Unit {0}
ReplacesItsOwn (Put r (Some old)) = identity_of old ≡ identity_of r
ReplacesItsOwn (Cut r) = Unit {0}
ReplacesItsOwn (Watch r) = Unit {0}

-- the update is in the table: it has the rule that was put or is watched, and none of the identity of one that was cut
abbrev pub IsIn : List Rule → Target → Type 0
IsIn t (Put r old) = Has t r
IsIn t (Cut r) = rule_of (identity_of r) t ≡ None
IsIn t (Watch r) = Has t r

-- what each job keeps of its table and its target
pub record IsJob (t : List Rule) (x : Target) : Type 0 where
  pub own : ReplacesItsOwn x
  pub there : IsIn t x

-- what a job and its parts keep: the update is in the table; the table, the view, and the rule that taking the update
-- back puts or cuts are well made
pub record Kept (j : Task) : Type 0 where
  pub job : IsJob j.table j.target
  pub table : IsTable j.table
  pub fit : AllActionsFit j.table
  pub view : IsView j.view
  pub back_normal : IsNormal (edited (taken_back j.target)).matching
  pub back_fit : AllFit (edited (taken_back j.target)).actions

-- the job over those rules of its table that overlap the match of the target's rule
abbrev pub sliced : Task → Task
sliced j = record j { table = slice (updated j.target).matching j.table }
