use Rattle.mon_session.proofs.Twins.{one-test}
use Rattle.mon_session.proofs.unsettled.same.Goals as goal

pub returns : goal.returns
returns c = one-test _ _ _ c.same_actions.ensures
