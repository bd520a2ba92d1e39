use Rattle.mon_table.proofs.Members.{one-list-law}
use Rattle.mon_table.proofs.laws.a_table_is_its_rules.Goals as goal

pub returns : goal.returns
returns c = one-list-law
