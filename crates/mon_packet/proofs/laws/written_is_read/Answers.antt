use Rattle.mon_packet.proofs.RoundTrip.{frame-read}
use Rattle.mon_packet.proofs.laws.written_is_read.Goals as goal

pub returns : goal.returns
returns c = frame-read
