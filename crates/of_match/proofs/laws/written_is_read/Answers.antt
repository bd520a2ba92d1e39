use Rattle.of_match.proofs.RoundTrip.{match-read}
use Rattle.of_match.proofs.laws.written_is_read.Goals as goal

pub returns : goal.returns
returns c = match-read
