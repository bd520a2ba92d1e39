use Rattle.mon_text.proofs.OneOffset.{one_offset}
use Rattle.mon_refute.specs.Text.{IsLogText}
use Rattle.mon_refute.proofs.read.one_line_is_the_first_bad_one.Goals as goal

pub returns : goal.returns
returns c = one_offset IsLogText
