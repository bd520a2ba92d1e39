use Rattle.mon_table.proofs.Vanishing.{winners-left, misses-left}
use Rattle.mon_table.proofs.laws.what_is_gone_hid_nothing.Goals as goal

pub returns-clause-winners : goal.returns-clause-winners
returns-clause-winners c = winners-left

pub returns-clause-misses : goal.returns-clause-misses
returns-clause-misses c = misses-left
