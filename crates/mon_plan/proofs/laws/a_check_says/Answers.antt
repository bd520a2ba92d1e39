use Rattle.mon_plan.proofs.Checking.{accepted-says, refused-says}
use Rattle.mon_plan.proofs.laws.a_check_says.Goals as goal

pub returns-clause-accepted : goal.returns-clause-accepted
returns-clause-accepted c = accepted-says

pub returns-clause-refused : goal.returns-clause-refused
returns-clause-refused c = refused-says
