-- A table after the edits of a message.
use Rattle.std.specs.Prelude.{◌≡◌, ◌⊎◌, Bool, true, false, not, ◌&&◌, List, [], ◌∷◌}
use Rattle.mon_list.specs.Has.{Has}
use Rattle.mon_table.specs.declared.rule.Rule.{Rule}
use Rattle.mon_table.specs.declared.edit.Edit.{Edit}
use Rattle.mon_table.specs.Rules.{identity_of, same_identity}
use Rattle.mon_table.specs.Edits.{after, IsRight}
use Rattle.of_msgs.specs.declared.flow_mod.FlowMod.{FlowMod}
use Rattle.mon_edits.specs.Naming.{is_add, is_deletion, is_none, identity_in, named}
use Rattle.mon_edits.specs.Edits.{changed_rule, is_taken}

-- each edit says rightly what stands in its place as it comes
abbrev pub AllRight : List Rule → List Edit → Type 0
AllRight t [] = Unit {0}
AllRight t (x ∷ edits) = IsRight t x × AllRight (after t x) edits

-- an entry of the table that has another identity than the message's
abbrev pub IsOther : List Rule → FlowMod → Rule → Type 0
IsOther t m r = Has t r × (same_identity (identity_of r) (identity_in m) ≡ false)

-- an entry that the deletion names, and that goes
abbrev pub IsTaken : List Rule → FlowMod → Rule → Type 0
IsTaken t m r = Has (named t m) r × (is_taken m r ≡ true)

-- the message is a modification that names some entry
abbrev pub changes_entries : List Rule → FlowMod → Bool
changes_entries t m = not (is_add m.command) && (not (is_deletion m.command) && not (is_none (named t m)))

-- the rule is one of the entries, with the message's actions
abbrev pub IsChanged : FlowMod → List Rule → Rule → Type 0
IsChanged m [] r = ⊥
IsChanged m (s ∷ entries) r = (r ≡ changed_rule m s) ⊎ IsChanged m entries r
