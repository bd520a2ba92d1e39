use Rattle.mon_turns.proofs.Versions.{versions-rise}
use Rattle.mon_turns.proofs.laws.versions_rise_with_their_session.Goals as goal

pub returns : goal.returns
returns c = versions-rise
