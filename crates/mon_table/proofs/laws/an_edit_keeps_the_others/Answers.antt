use Rattle.mon_table.proofs.Members.{members-law, after-table}
use Rattle.mon_table.proofs.laws.an_edit_keeps_the_others.Goals as goal

pub returns-clause-members : goal.returns-clause-members
returns-clause-members c = members-law

pub returns-clause-table : goal.returns-clause-table
returns-clause-table c = after-table
