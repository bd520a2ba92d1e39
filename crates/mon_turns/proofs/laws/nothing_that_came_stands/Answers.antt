use Rattle.mon_turns.proofs.Givens.{nothing-stands}
use Rattle.mon_turns.proofs.laws.nothing_that_came_stands.Goals as goal

pub returns : goal.returns
returns c = nothing-stands
