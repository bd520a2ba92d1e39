use Rattle.mon_table.proofs.Vanishing.{winners-sure, sure-misses}
use Rattle.mon_table.proofs.laws.sure_rules_win_by_priority.Goals as goal

pub returns-clause-winners : goal.returns-clause-winners
returns-clause-winners c = winners-sure

pub returns-clause-misses : goal.returns-clause-misses
returns-clause-misses c = sure-misses
