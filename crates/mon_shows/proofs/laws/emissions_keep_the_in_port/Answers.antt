use Rattle.mon_shows.proofs.Keeping.{among-keeps}
use Rattle.mon_shows.proofs.laws.emissions_keep_the_in_port.Goals as goal

pub returns : goal.returns
returns c = among-keeps
