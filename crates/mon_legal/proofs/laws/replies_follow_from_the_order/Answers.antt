use Rattle.mon_legal.proofs.Waiting.{replies-wait}
use Rattle.mon_legal.proofs.laws.replies_follow_from_the_order.Goals as goal

pub returns : goal.returns
returns c = replies-wait
