use Rattle.std.proofs.Common.{sym, ◌∙◌}
use Rattle.mon_table.specs.Rules.{identity}
use Rattle.mon_session.specs.Walks.{Known}
use Rattle.mon_session.proofs.Removing.{vanish_is}
use Rattle.mon_session.proofs.session.Session.vanish.Goals as goal

pub returns-clause-gone : goal.returns-clause-gone
returns-clause-gone c =
    let k : Known = c.args.self.now in
    vanish_is (identity c.args.m.now c.args.priority) k.now.unsettled k.now.guards k _ c.raise.new.self c.cut.new.self c.self.view_is c.in_ok-raise.ensures.raised c.in_ok-cut.ensures.cut
    (sym c.may_vanish.ensures ∙ c.if-not-may_vanish.false)
