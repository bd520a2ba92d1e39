use Rattle.mon_outcome.proofs.Classes.{applied-class}
use Rattle.mon_outcome.proofs.laws.apply_keeps_the_class.Goals as goal

pub returns : goal.returns
returns c = applied-class
