use Rattle.mon_table_file.proofs.Heads.{one_file}
use Rattle.mon_table_file.proofs.reading.read_table.Goals as goal

pub returns-in-Ok-clause-only : goal.returns-in-Ok-clause-only
returns-in-Ok-clause-only c v t f = one_file c.args.text.now _ v _ t c.in-Ok.ensures.found f
