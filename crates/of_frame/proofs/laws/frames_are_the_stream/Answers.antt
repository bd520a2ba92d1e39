use Rattle.of_frame.proofs.Stream.{stream-into}
use Rattle.of_frame.proofs.laws.frames_are_the_stream.Goals as goal

pub returns : goal.returns
returns c = stream-into
