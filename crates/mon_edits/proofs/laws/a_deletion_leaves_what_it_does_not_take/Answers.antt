use Rattle.mon_edits.proofs.Members.{deletion-law}
use Rattle.mon_edits.proofs.laws.a_deletion_leaves_what_it_does_not_take.Goals as goal

pub returns : goal.returns
returns c = deletion-law
