use Rattle.std.proofs.Common.{◌∙◌}
use Rattle.mon_shows.proofs.Looking.{must-is}
use Rattle.mon_shows.proofs.lookup.must_show.Goals as goal

pub returns : goal.returns
returns c = c.must_show_in.ensures ∙ must-is c.args.h.now c.args.e.now c.args.u.now c.keeps.ensures.table.order
