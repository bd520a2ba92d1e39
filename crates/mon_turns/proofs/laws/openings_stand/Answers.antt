use Rattle.mon_turns.proofs.Opens.{openings-stand}
use Rattle.mon_turns.proofs.laws.openings_stand.Goals as goal

pub returns : goal.returns
returns c = openings-stand
