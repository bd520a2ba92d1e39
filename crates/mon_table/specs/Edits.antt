-- Edits of a table, one after the other, and back.
use Rattle.std.specs.Prelude.{◌≡◌, List, [], ◌∷◌, Some, None}
use Rattle.mon_table.specs.declared.rule.Rule.{Rule}
use Rattle.mon_table.specs.declared.edit.Edit.{Edit}
use Rattle.mon_table.specs.declared.edit.Edit.TheVariants.{Put, Cut}
use Rattle.mon_table.specs.Rules.{identity_of}
use Rattle.mon_table.specs.Tables.{without, with_rule, rule_of}

-- the rule that an edit puts or cuts
abbrev pub edited : Edit → Rule
edited (Put r old) = r
edited (Cut r) = r

-- the table after an edit
unfoldable pub after : List Rule → Edit → List Rule
after t (Put r old) = with_rule r t
after t (Cut r) = without (identity_of r) t

-- the table after edits, of which the first stands first
abbrev pub after_all : List Rule → List Edit → List Rule
after_all t [] = t
after_all t (x ∷ edits) = after_all (after t x) edits

-- the edit says rightly what stands in its place
abbrev pub IsRight : List Rule → Edit → Type 0
IsRight t (Put r old) = rule_of (identity_of r) t ≡ old
IsRight t (Cut r) = rule_of (identity_of r) t ≡ Some r

-- the edit that takes an edit back
abbrev pub inverse : Edit → Edit
inverse (Put r None) = Cut r
inverse (Put r (Some old)) = Put old (Some r)
inverse (Cut r) = Put r None

-- the table with an edit taken back
abbrev pub undone : List Rule → Edit → List Rule
undone t x = after t (inverse x)
