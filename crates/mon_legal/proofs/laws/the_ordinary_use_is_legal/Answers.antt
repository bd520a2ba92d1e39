use Rattle.mon_legal.proofs.Ordinary.{legal}
use Rattle.mon_legal.proofs.laws.the_ordinary_use_is_legal.Goals as goal

pub returns : goal.returns
returns c = legal
