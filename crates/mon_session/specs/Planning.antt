-- That the edits of a planned frame stay what they were planned as, until they pass.
use Rattle.std.specs.Prelude.{◌≡◌, ℕ, true, false, List, Some, Ok}
use Rattle.std.specs.List.{AllByRecursion}
use Rattle.mon_header.specs.Matching.{IsNormal}
use Rattle.mon_table.specs.declared.rule.Rule.{Rule}
use Rattle.mon_table.specs.declared.edit.Edit.{Edit}
use Rattle.mon_table.specs.declared.edit.Edit.TheVariants.{Cut}
use Rattle.mon_table.specs.Rules.{identity_of, same_identity}
use Rattle.mon_table.specs.Tables.{IsTable, rule_of}
use Rattle.mon_table.specs.Edits.{edited, after}
use Rattle.of_msgs.specs.declared.flow_mod.FlowMod.{FlowMod}
use Rattle.of_msgs.specs.ReadMods.{flow_mod_in}
use Rattle.mon_edits.specs.Edits.{edits_of}
use Rattle.mon_edits.specs.Laws.{AllRight}
use Rattle.mon_legal.specs.Edits.{Passed}
use Rattle.mon_legal.specs.Held.{Part, fate}
use Rattle.mon_legal.specs.Held.Part.{Changed}
use Rattle.mon_session.specs.Standing.{IsPlanned}

-- an edit that is left is as it was planned: its old rule stands, or was unsure and has vanished
abbrev pub PartIsPlanned : List Rule → Part → Type 0
PartIsPlanned t (Changed came m x first) = IsPlanned x (rule_of (identity_of (edited x)) t)
PartIsPlanned t part = Unit {0}

abbrev pub AllPlanned : List Rule → List Part → Type 0
AllPlanned t parts = AllByRecursion (PartIsPlanned t) parts

-- another edit is of another identity
abbrev pub DiffersFrom : Edit → Part → Type 0
DiffersFrom y (Changed came m x first) = same_identity (identity_of (edited y)) (identity_of (edited x)) ≡ false
DiffersFrom y part = Unit {0}

-- so they are as a frame is planned, because the edits of a message say rightly what stands there (a law of mon_edits, for a match in
-- its normalised form)
abbrev pub PlannedAtFirst : Type 0
PlannedAtFirst = (catching t : List Rule) (edits : List Passed) (frame : List ℕ) → IsTable t
    → ((m : FlowMod) → flow_mod_in frame ≡ Ok m → AllRight t (edits_of t m)) → AllPlanned t (fate catching t edits frame)

-- they stay so where an edit of another identity passes or is taken back, and where an entry vanishes
abbrev pub PlannedBehind : Type 0
PlannedBehind = (t : List Rule) (y : Edit) (parts : List Part) → IsTable t → IsNormal (edited y).matching
    → AllByRecursion (DiffersFrom y) parts → AllPlanned t parts → AllPlanned (after t y) parts

abbrev pub PlannedWithout : Type 0
PlannedWithout = (t : List Rule) (r : Rule) (parts : List Part) → IsTable t → rule_of (identity_of r) t ≡ Some r → r.unsure ≡ true
    → AllPlanned t parts → AllPlanned (after t (Cut r)) parts
