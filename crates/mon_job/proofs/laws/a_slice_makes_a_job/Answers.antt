use Rattle.mon_job.proofs.Asking.{slice-asks}
use Rattle.mon_job.proofs.laws.a_slice_makes_a_job.Goals as goal

pub returns : goal.returns
returns c = slice-asks
