use Rattle.mon_session.proofs.Olds.{all-olds}
use Rattle.mon_session.proofs.fate.edits_have_their_old.Goals as goal

pub returns : goal.returns
returns c = all-olds
