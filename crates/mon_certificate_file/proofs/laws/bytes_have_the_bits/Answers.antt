use Rattle.mon_certificate_file.proofs.FieldBits.{header-bits}
use Rattle.mon_certificate_file.proofs.laws.bytes_have_the_bits.Goals as goal

pub returns : goal.returns
returns c = header-bits
