use Rattle.mon_refute.proofs.LineTexts.{no_count_end}
use Rattle.mon_refute.proofs.read.count_at.Goals as goal

pub returns-in-None : goal.returns-in-None
returns-in-None c = no_count_end c.args.bytes.now c.in-Some.number.now c.in-Some-number_at.rest.now c.in-Some-number_at.count c.in-Some.ensures.found c.in-Some-number_at.ensures.spelled c.in-None.ensures.found
