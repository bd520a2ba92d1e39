use Rattle.mon_table.proofs.Vanishing.{no-winner}
use Rattle.mon_table.proofs.laws.what_none_wins_may_miss.Goals as goal

pub returns : goal.returns
returns c = no-winner
