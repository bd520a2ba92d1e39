use Rattle.mon_table.proofs.Members.{one-rule}
use Rattle.mon_table.proofs.laws.one_rule_has_an_identity.Goals as goal

pub returns : goal.returns
returns c = one-rule
