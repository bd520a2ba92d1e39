use Rattle.mon_turns.proofs.Wholes.{whole-turns}
use Rattle.mon_turns.proofs.laws.turns_end_where_nothing_comes.Goals as goal

pub returns : goal.returns
returns c = whole-turns
