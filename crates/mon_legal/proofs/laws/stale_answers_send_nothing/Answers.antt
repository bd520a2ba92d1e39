use Rattle.mon_legal.proofs.Ignored.{stale-are-ignored}
use Rattle.mon_legal.proofs.laws.stale_answers_send_nothing.Goals as goal

pub returns : goal.returns
returns c = stale-are-ignored
