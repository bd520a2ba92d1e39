use Rattle.mon_cnf.specs.declared.clause.Lit.{Lit}
use Rattle.mon_refute.specs.Text.{FitsLiteral}
use Rattle.mon_refute.specs.Reading.{literal_word}
use Rattle.mon_refute.proofs.WordKinds.{literal_fits, literal_same}
use Rattle.mon_refute.proofs.Items.{no_item}
use Rattle.mon_refute.proofs.read.literal_at.Goals as goal

pub returns-in-None : goal.returns-in-None
returns-in-None c = no_item Lit literal_word FitsLiteral literal_fits literal_same c.args.bytes.now c.in-Some.rest.now c.in-Some.w c.in-Some.ensures c.in-None.ensures
