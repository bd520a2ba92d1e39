use Rattle.mon_text.proofs.Fronts.{value_is}
use Rattle.mon_text.proofs.numbers.number_at.Goals as goal

pub returns-clause-value : goal.returns-clause-value
returns-clause-value c = value_is c.args.bytes.now c.spelled_at.result c.spelled_at.ensures
