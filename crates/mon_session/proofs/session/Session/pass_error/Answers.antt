use Rattle.std.proofs.Common.{List, ap, sym, ◌∙◌}
use Rattle.mon_legal.specs.Runs.{Run}
use Rattle.mon_legal.specs.Directly.{Due}
use Rattle.mon_session.specs.Walks.{Known, walks}
use Rattle.mon_session.specs.Dues.{met}
use Rattle.mon_session.proofs.Erring.{passes_on, not_own}
use Rattle.mon_session.proofs.session.Session.pass_error.Goals as goal

pub returns-then-xid-ne-OWN_XID-clause-walk : goal.returns-then-xid-ne-OWN_XID-clause-walk
returns-then-xid-ne-OWN_XID-clause-walk c =
    let k : Known = c.args.self.now in
    λ (run : Run). c.in_ok-send_back.ensures.walk run
    ∙ ap (λ (ds : List Due). walks run k (met ds)) (sym (passes_on k.number k.now.armed c.args.frame (not_own c.args.frame c.xid.result c.xid.ensures c.if-xid-ne-OWN_XID.true)))
