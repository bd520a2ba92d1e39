use Rattle.of_action.proofs.FirstFault.{is_first, only_first}
use Rattle.of_action.proofs.laws.a_fault_is_the_first.Goals as goal

pub returns : goal.returns
returns c = λ bytes place. (is_first bytes place, only_first bytes place)
