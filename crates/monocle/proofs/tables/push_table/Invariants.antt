use Rattle.std.proofs.Common.{◌≡◌, ◌++◌, drop}
use Rattle.mon_rule_line.specs.TableLines.{table_lines}
use Rattle.monocle.proofs.tables.push_table.Given as goal

abbrev pub invariant-loop-place : goal.invariant-loop-place
invariant-loop-place l =
    l.bytes.items ++ table_lines l.session (drop l.place l.table) ≡ l.fn.bytes.items ++ table_lines l.session l.table
