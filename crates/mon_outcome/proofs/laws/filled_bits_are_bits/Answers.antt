use Rattle.mon_outcome.proofs.Bitwise.{filled-at}
use Rattle.mon_outcome.proofs.laws.filled_bits_are_bits.Goals as goal

pub returns : goal.returns
returns c = filled-at
