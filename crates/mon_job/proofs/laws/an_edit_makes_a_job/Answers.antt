use Rattle.mon_job.proofs.Asking.{put-asks, cut-asks}
use Rattle.mon_job.proofs.laws.an_edit_makes_a_job.Goals as goal

pub returns-clause-put : goal.returns-clause-put
returns-clause-put c = put-asks

pub returns-clause-cut : goal.returns-clause-cut
returns-clause-cut c = cut-asks
