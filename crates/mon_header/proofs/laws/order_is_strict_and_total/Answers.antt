use Rattle.mon_header.proofs.Sorting.{before-neither}
use Rattle.mon_header.proofs.laws.order_is_strict_and_total.Goals as goal

pub returns-clause-neither : goal.returns-clause-neither
returns-clause-neither c = before-neither
