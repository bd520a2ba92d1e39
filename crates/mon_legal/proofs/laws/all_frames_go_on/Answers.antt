use Rattle.mon_legal.proofs.Carrying.{frames-go-on, frames-went-on}
use Rattle.mon_legal.proofs.laws.all_frames_go_on.Goals as goal

pub returns-clause-so_far : goal.returns-clause-so_far
returns-clause-so_far c = frames-go-on

pub returns-clause-ended : goal.returns-clause-ended
returns-clause-ended c = frames-went-on
