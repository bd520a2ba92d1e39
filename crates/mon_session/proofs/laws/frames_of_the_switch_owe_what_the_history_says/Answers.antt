use Rattle.mon_session.proofs.Owing.{frames-owe}
use Rattle.mon_session.proofs.laws.frames_of_the_switch_owe_what_the_history_says.Goals as goal

pub returns : goal.returns
returns c = frames-owe
