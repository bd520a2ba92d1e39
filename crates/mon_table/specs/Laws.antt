-- What the laws of tables say of an edit and a rule.
use Rattle.std.specs.Prelude.{◌≡◌, false, List}
use Rattle.mon_list.specs.Has.{Has}
use Rattle.mon_table.specs.declared.rule.Rule.{Rule}
use Rattle.mon_table.specs.declared.edit.Edit.{Edit}
use Rattle.mon_table.specs.declared.edit.Edit.TheVariants.{Put, Cut}
use Rattle.mon_table.specs.Rules.{identity_of, same_identity}
use Rattle.mon_table.specs.Edits.{edited}

-- the rule is the one that the edit puts
abbrev pub IsPut : Edit → Rule → Type 0
IsPut (Put s old) r = r ≡ s
IsPut (Cut s) r = ⊥

-- the rule stands in the table, and is of another identity than the edit's
abbrev pub IsLeft : List Rule → Edit → Rule → Type 0
IsLeft t x r = Has t r × (same_identity (identity_of r) (identity_of (edited x)) ≡ false)
