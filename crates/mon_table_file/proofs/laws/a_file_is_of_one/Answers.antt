use Rattle.mon_table_file.proofs.Heads.{one_file}
use Rattle.mon_table_file.proofs.laws.a_file_is_of_one.Goals as goal

pub returns : goal.returns
returns c = one_file
