-- A table with one rule more, or one less.
use Rattle.std.specs.Prelude.{Bool, List, if◌then◌else◌}
use Rattle.mon_table.specs.declared.rule.Rule.{Rule}
use Rattle.mon_table.specs.Rules.{identity_of}
use Rattle.mon_table.specs.Tables.{without, with_rule}

-- the table with the rule in place of the one of its identity, or without that one
abbrev pub changed : Bool → Rule → List Rule → List Rule
changed comes r t = if comes then with_rule r t else without (identity_of r) t
