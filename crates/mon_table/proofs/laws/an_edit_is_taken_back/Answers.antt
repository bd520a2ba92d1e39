use Rattle.mon_table.proofs.Undoing.{undone-after}
use Rattle.mon_table.proofs.laws.an_edit_is_taken_back.Goals as goal

pub returns : goal.returns
returns c = undone-after
