use Rattle.mon_session.proofs.Whole.{steps_stand}
use Rattle.mon_session.proofs.laws.a_step_is_an_entry.Goals as goal

pub returns : goal.returns
returns c = steps_stand
