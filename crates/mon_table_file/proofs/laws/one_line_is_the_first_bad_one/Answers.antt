use Rattle.mon_text.proofs.OneOffset.{one_offset}
use Rattle.mon_table_file.specs.TableFile.{IsTableText}
use Rattle.mon_table_file.proofs.laws.one_line_is_the_first_bad_one.Goals as goal

pub returns : goal.returns
returns c = one_offset IsTableText
