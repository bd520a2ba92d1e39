use Rattle.mon_turns.proofs.Told.{one-state}
use Rattle.mon_turns.proofs.laws.one_log_gives_one_state.Goals as goal

pub returns : goal.returns
returns c = one-state
