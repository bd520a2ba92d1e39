use Rattle.mon_legal.proofs.Proxys.{own-are-proxys}
use Rattle.mon_legal.proofs.laws.own_frames_are_the_proxys.Goals as goal

pub returns : goal.returns
returns c = own-are-proxys
