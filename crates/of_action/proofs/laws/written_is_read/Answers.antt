use Rattle.of_action.proofs.RoundTrip.{again}
use Rattle.of_action.proofs.laws.written_is_read.Goals as goal

pub returns : goal.returns
returns c = again
