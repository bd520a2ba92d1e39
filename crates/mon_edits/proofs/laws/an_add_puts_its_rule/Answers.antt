use Rattle.mon_edits.proofs.Changing.{add-law}
use Rattle.mon_edits.proofs.laws.an_add_puts_its_rule.Goals as goal

pub returns : goal.returns
returns c = add-law
