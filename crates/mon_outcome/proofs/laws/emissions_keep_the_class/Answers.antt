use Rattle.mon_outcome.proofs.Classes.{emissions-show}
use Rattle.mon_outcome.proofs.laws.emissions_keep_the_class.Goals as goal

pub returns : goal.returns
returns c = emissions-show
