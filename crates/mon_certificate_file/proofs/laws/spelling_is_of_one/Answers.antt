use Rattle.mon_certificate_file.proofs.Spelling.{spelled-once}
use Rattle.mon_certificate_file.proofs.laws.spelling_is_of_one.Goals as goal

pub returns : goal.returns
returns c = spelled-once
