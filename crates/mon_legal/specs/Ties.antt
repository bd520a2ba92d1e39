-- When an edit's rule is tied: lookups in the overlap may then take either rule (OpenFlow 1.0.0, matching).
use Rattle.std.specs.Prelude.{Bool, nat_lt, if◌then◌else◌, List, length}
use Rattle.mon_table.specs.declared.rule.Rule.{Rule}
use Rattle.mon_table.specs.declared.edit.Edit.{Edit}
use Rattle.mon_table.specs.Tables.{tied}
use Rattle.mon_table.specs.Edits.{edited, undone}

-- the larger of two tables; of two of one size the first
abbrev pub larger : List Rule → List Rule → List Rule
larger t u = if nat_lt (length t) (length u) then u else t

-- the edit's rule is tied where it stands: in the table with the edit, or in the one without it if that is larger
abbrev pub tie : List Rule → Edit → Bool
tie t x = tied (larger t (undone t x)) (edited x)
