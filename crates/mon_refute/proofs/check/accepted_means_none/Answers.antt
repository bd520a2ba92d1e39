use Rattle.mon_refute.proofs.Sound.{accepted_none}
use Rattle.mon_refute.proofs.check.accepted_means_none.Goals as goal

pub returns : goal.returns
returns c = accepted_none
