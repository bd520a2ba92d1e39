use Rattle.mon_legal.proofs.Offered.{jobs-are-offered}
use Rattle.mon_legal.proofs.laws.offers_follow_from_the_order.Goals as goal

pub returns : goal.returns
returns c = jobs-are-offered
