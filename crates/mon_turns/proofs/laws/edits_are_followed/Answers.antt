use Rattle.mon_turns.proofs.Behind.{edits-are-followed}
use Rattle.mon_turns.proofs.laws.edits_are_followed.Goals as goal

pub returns : goal.returns
returns c = edits-are-followed
