use Rattle.std.proofs.Common.{◌≡◌, ◌∙◌, Some, None, length, option_map, sym}
use Rattle.mon_table.specs.Rules.{identity_of}
use Rattle.mon_table.specs.Tables.{rule_of}
use Rattle.mon_table_file.specs.Lines.{rule_line, FitsRow}
use Rattle.mon_table_file.specs.Reading.{row_in, with_rule}
use Rattle.mon_table_file.proofs.LineReaders.{reader_row, rule_some}
use Rattle.mon_table_file.proofs.SoFar.{shorter, row_of_rule}
use Rattle.mon_table_file.proofs.Ruling.{too_many, not_in_version, twice, one_rule, no_rule, none_read, something}
use Rattle.mon_table_file.proofs.sections.rules_at.Goals as goal

pub returns-then-len-eq-MOST_RULES-clause-stops : goal.returns-then-len-eq-MOST_RULES-clause-stops
returns-then-len-eq-MOST_RULES-clause-stops c =
    let read : Some (c.in-Some.rule, c.in-Some.after.now) ≡ option_map with_rule (row_in c.loop-table.rest.now) = rw c.in-Some.is at c.in_ok-rule.ensures in
    let full : length c.loop-table.table ≡ 4096 = sym c.len.ensures.value ∙ c.if-len-eq-MOST_RULES.true in
    too_many c.args.second c.args.text.now c.loop-table.table c.loop-table.rest.now c.loop-table.invariant c.in-Some.rule c.in-Some.after.now read c.len.ensures.table full

pub returns-then-not-may_stand-clause-stops : goal.returns-then-not-may_stand-clause-stops
returns-then-not-may_stand-clause-stops c =
    let read : Some (c.in-Some.rule, c.in-Some.after.now) ≡ option_map with_rule (row_in c.loop-table.rest.now) = rw c.in-Some.is at c.in_ok-rule.ensures in
    not_in_version c.args.second c.args.text.now c.loop-table.table c.loop-table.rest.now c.loop-table.invariant c.in-Some.rule c.in-Some.after.now read c.len.ensures.table c.if-not-may_stand.ensures

pub returns-in-Some-2-clause-stops : goal.returns-in-Some-2-clause-stops
returns-in-Some-2-clause-stops c =
    let read : Some (c.in-Some.rule, c.in-Some.after.now) ≡ option_map with_rule (row_in c.loop-table.rest.now) = rw c.in-Some.is at c.in_ok-rule.ensures in
    let old : Some c.in-Some-2.field-0 ≡ rule_of (identity_of c.in-Some.rule) c.loop-table.table = sym c.in-Some-2.is ∙ c.in_ok-put.ensures.old in
    twice c.args.second c.args.text.now c.loop-table.table c.loop-table.rest.now c.loop-table.invariant c.in-Some.rule c.in-Some.after.now read c.in-Some-2.field-0 c.len.ensures.table old

pub loop-table-smaller : goal.loop-table-smaller
loop-table-smaller c =
    let read : Some (c.in-Some.rule, c.in-Some.after.now) ≡ option_map with_rule (row_in c.loop-table.rest.now) = rw c.in-Some.is at c.in_ok-rule.ensures in
    let row = row_of_rule (row_in c.loop-table.rest.now) c.in-Some.rule c.in-Some.after.now read in
    shorter rule_line FitsRow row_in reader_row rule_some c.loop-table.rest.now c.in-Some.after.now row.row row.is

pub loop-table-preserved : goal.loop-table-preserved
loop-table-preserved c =
    let read : Some (c.in-Some.rule, c.in-Some.after.now) ≡ option_map with_rule (row_in c.loop-table.rest.now) = rw c.in-Some.is at c.in_ok-rule.ensures in
    let none : None ≡ rule_of (identity_of c.in-Some.rule) c.loop-table.table = sym c.in-None.is ∙ c.in_ok-put.ensures.old in
    one_rule c.args.second c.args.text.now c.loop-table.table c.loop-table.rest.now c.loop-table.invariant c.in-Some.rule c.in-Some.after.now read
    c.put.new.self (λ e. c.if-len-eq-MOST_RULES.false (c.len.ensures.value ∙ e)) c.if-not-may_stand.ensures none c.in_ok-put.ensures.put

pub returns-then-not-is_empty-clause-stops : goal.returns-then-not-is_empty-clause-stops
returns-then-not-is_empty-clause-stops c =
    no_rule c.args.second c.args.text.now c.loop-table.table c.loop-table.rest.now c.loop-table.invariant c.keeps.ensures.table (something c.loop-table.rest.now c.if-not-is_empty.ensures)
    (none_read (row_in c.loop-table.rest.now) (rw c.in_default.is at c.in_ok-rule.ensures))
