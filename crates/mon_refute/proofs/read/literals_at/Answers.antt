use Rattle.mon_cnf.specs.declared.clause.Lit.{Lit}
use Rattle.mon_refute.specs.Text.{FitsLiteral}
use Rattle.mon_refute.specs.Reading.{literal_word}
use Rattle.mon_refute.proofs.WordKinds.{literal_fits, literal_same}
use Rattle.mon_refute.proofs.Items.{list_none}
use Rattle.mon_refute.proofs.read.literals_at.Goals as goal

pub returns-in_default : goal.returns-in_default
returns-in_default c = list_none Lit literal_word FitsLiteral literal_fits literal_same c.args.bytes.now c.loop-item.clause c.loop-item.rest.now c.loop-item.invariant c.in_default.ensures
