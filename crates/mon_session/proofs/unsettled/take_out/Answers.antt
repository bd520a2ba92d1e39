use Rattle.std.proofs.Common.{ap}
use Rattle.mon_session.proofs.Passings.{out_taken, out_left, if_none}
use Rattle.mon_session.proofs.unsettled.take_out.Goals as goal

pub returns-clause-taken : goal.returns-clause-taken
returns-clause-taken c =
    out_taken c.args.number _ _ c.args.edits.now.items c.remove.result c.args.edits.now.ok.0 c.newer-place.ensures
    c.remove.ensures.variant.0 c.remove.ensures.succeeds

pub returns-clause-left : goal.returns-clause-left
returns-clause-left c =
    out_left c.requires.0 c.args.number _ _ c.args.edits.now.items c.remove.new.self.items c.remove.result c.requires.1 c.args.edits.now.ok.0 c.newer-place.ensures
    c.remove.ensures.variant.0 c.remove.ensures.variant.1 c.remove.ensures.items (λ e. ap (λ q. q.items) (if_none c.remove.result c.remove.ensures.unchanged e))
