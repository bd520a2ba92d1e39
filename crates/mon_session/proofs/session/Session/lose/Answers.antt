use Rattle.std.proofs.Common.{ap, sym, ◌∙◌}
use Rattle.std.proofs.lemmas.Result.{on_ok_weaker}
use Rattle.mon_session.specs.Walks.{Known}
use Rattle.mon_session.proofs.Removing.{lost_at}
use Rattle.mon_session.proofs.session.Session.lose.Goals as goal

pub returns-clause-lost : goal.returns-clause-lost
returns-clause-lost c =
    let k : Known = c.args.self.now in
    on_ok_weaker c.vanish.result
    (λ w. w ∙ lost_at k c.args.frame.now c.bytes-bytes.result.now c.match_gone-m.result c.u16_at-priority.result
    (ap (λ (x : Known). x.now.armed) (sym c.self.view_is) ∙ c.if-not-self.false) (sym c.is_vanished.ensures.value ∙ c.if-not-is_vanished.false) c.bytes-bytes.ensures.value
    c.match_gone-m.ensures c.u16_at-priority.ensures)
    c.vanish.ensures.gone
