use Rattle.mon_edits.proofs.Adding.{goes-on}
use Rattle.mon_edits.proofs.laws.an_add_goes_on_as_it_came.Goals as goal

pub returns : goal.returns
returns c = goes-on
