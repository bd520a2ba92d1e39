-- The lines of a session's table: one for each rule of it.
use Rattle.std.specs.Prelude.{ℕ, List, [], ◌∷◌, ◌++◌, codes, decimal}
use Rattle.mon_table.specs.declared.rule.Rule.{Rule}
use Rattle.of_match.specs.Layout as matches
use Rattle.of_action.specs.Layout as actions
use Rattle.mon_rule_line.specs.RuleWords.{rule_words}

-- the session and the words of a rule
abbrev pub table_line : ℕ → Rule → List ℕ
table_line session rule =
    codes "table " ++ (decimal session ++ (codes " " ++ rule_words rule.priority (matches.spelled rule.matching) (actions.spelled rule.actions) rule.unsure))

-- a line for each rule of a table, in table order
abbrev pub table_lines : ℕ → List Rule → List ℕ
table_lines session [] = []
table_lines session (rule ∷ rules) = table_line session rule ++ table_lines session rules
