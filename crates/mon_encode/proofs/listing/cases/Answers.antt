use Rattle.mon_encode.proofs.Covering.{covers}
use Rattle.mon_encode.proofs.listing.cases.Goals as goal

pub returns-clause-complete : goal.returns-clause-complete
returns-clause-complete c = covers c.args.j.now c.keeps.ensures
