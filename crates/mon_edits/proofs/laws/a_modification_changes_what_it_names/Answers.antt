use Rattle.mon_edits.proofs.Changing.{change-law}
use Rattle.mon_edits.proofs.laws.a_modification_changes_what_it_names.Goals as goal

pub returns : goal.returns
returns c = change-law
