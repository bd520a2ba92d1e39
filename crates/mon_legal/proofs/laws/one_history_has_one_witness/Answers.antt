use Rattle.mon_legal.proofs.Witness.{one-witness}
use Rattle.mon_legal.proofs.laws.one_history_has_one_witness.Goals as goal

pub returns : goal.returns
returns c = one-witness
