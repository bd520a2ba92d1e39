use Rattle.mon_trace.proofs.FirstBad.{first_bad}
use Rattle.mon_trace.proofs.laws.a_fault_is_the_first_bad_line.Goals as goal

pub returns : goal.returns
returns c = first_bad
