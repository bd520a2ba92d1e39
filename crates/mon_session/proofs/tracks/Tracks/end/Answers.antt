use Rattle.std.proofs.Common.{sym, subst}
use Rattle.mon_session.specs.Tracks.{AllGone}
use Rattle.mon_session.proofs.Probed.{gone_left}
use Rattle.mon_session.proofs.tracks.Tracks.end.Goals as goal

pub invariant_of-self : goal.invariant_of-self
invariant_of-self c = subst AllGone (sym c.take_out.ensures) (gone_left c.args.number c.self.inside.items.items c.self.invariant)
