use Rattle.mon_job.proofs.Separating.{slice-separates, slice-verdicts}
use Rattle.mon_job.proofs.laws.a_slice_asks_the_same.Goals as goal

pub returns-clause-separates : goal.returns-clause-separates
returns-clause-separates c = slice-separates

pub returns-clause-verdicts : goal.returns-clause-verdicts
returns-clause-verdicts c = slice-verdicts
