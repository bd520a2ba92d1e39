use Rattle.mon_turns.proofs.Behind.{answers-are-followed}
use Rattle.mon_turns.proofs.laws.answers_are_followed.Goals as goal

pub returns : goal.returns
returns c = answers-are-followed
