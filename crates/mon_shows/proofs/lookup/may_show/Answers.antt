use Rattle.std.proofs.Common.{◌∙◌}
use Rattle.mon_shows.proofs.Looking.{may-is}
use Rattle.mon_shows.proofs.lookup.may_show.Goals as goal

pub returns : goal.returns
returns c = c.may_show_in.ensures ∙ may-is c.args.h.now c.args.e.now c.args.u.now c.keeps.ensures.table.order
