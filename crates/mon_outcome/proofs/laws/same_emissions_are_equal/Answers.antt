use Rattle.mon_outcome.proofs.Equality.{emission-same}
use Rattle.mon_outcome.proofs.laws.same_emissions_are_equal.Goals as goal

pub returns : goal.returns
returns c = emission-same
