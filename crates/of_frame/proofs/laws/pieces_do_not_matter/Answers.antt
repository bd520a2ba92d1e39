use Rattle.of_frame.proofs.Slices.{pieces-joined}
use Rattle.of_frame.proofs.laws.pieces_do_not_matter.Goals as goal

pub returns : goal.returns
returns c = pieces-joined
