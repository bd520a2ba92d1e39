use Rattle.of_frame.proofs.Slices.{faulty-stays}
use Rattle.of_frame.proofs.laws.a_fault_stays.Goals as goal

pub returns : goal.returns
returns c = faulty-stays
