use Rattle.of_match.proofs.Ordering.{match-order}
use Rattle.of_match.proofs.laws.order_is_of_bytes.Goals as goal

pub returns : goal.returns
returns c = match-order
