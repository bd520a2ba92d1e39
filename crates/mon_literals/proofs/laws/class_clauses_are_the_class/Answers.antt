use Rattle.mon_literals.proofs.Probes.{class_true}
use Rattle.mon_literals.proofs.laws.class_clauses_are_the_class.Goals as goal

pub returns : goal.returns
returns c = class_true
