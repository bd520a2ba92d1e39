use Rattle.mon_session.proofs.Rejected.{rejecting}
use Rattle.mon_session.proofs.laws.a_rejected_edit_is_taken_back.Goals as goal

pub returns : goal.returns
returns c = rejecting
