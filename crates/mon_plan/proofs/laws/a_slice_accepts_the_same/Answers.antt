use Rattle.mon_plan.proofs.Planning.{whole-probe, whole-overlap}
use Rattle.mon_plan.proofs.laws.a_slice_accepts_the_same.Goals as goal

pub returns-clause-probe : goal.returns-clause-probe
returns-clause-probe c = whole-probe

pub returns-clause-overlap : goal.returns-clause-overlap
returns-clause-overlap c = whole-overlap
