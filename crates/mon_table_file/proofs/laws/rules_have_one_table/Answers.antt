use Rattle.mon_table_file.proofs.Apart.{has-table, one-table}
use Rattle.mon_table_file.proofs.laws.rules_have_one_table.Goals as goal

pub returns-clause-some : goal.returns-clause-some
returns-clause-some c = has-table

pub returns-clause-one : goal.returns-clause-one
returns-clause-one c = one-table
