use Rattle.mon_session.proofs.GoesOn.{standing-goes-on}
use Rattle.mon_session.proofs.laws.standing_goes_on.Goals as goal

pub returns : goal.returns
returns c = standing-goes-on
