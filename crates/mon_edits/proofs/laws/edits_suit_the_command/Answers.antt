use Rattle.mon_edits.proofs.Members.{suits-law}
use Rattle.mon_edits.proofs.laws.edits_suit_the_command.Goals as goal

pub returns : goal.returns
returns c = suits-law
