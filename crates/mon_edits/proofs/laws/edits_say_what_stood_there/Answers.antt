use Rattle.mon_edits.proofs.Righting.{right-law}
use Rattle.mon_edits.proofs.laws.edits_say_what_stood_there.Goals as goal

pub returns : goal.returns
returns c = right-law
