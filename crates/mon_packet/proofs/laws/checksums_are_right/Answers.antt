use Rattle.mon_packet.proofs.SumsOfFrames.{frame-checked}
use Rattle.mon_packet.proofs.laws.checksums_are_right.Goals as goal

pub returns : goal.returns
returns c = frame-checked
