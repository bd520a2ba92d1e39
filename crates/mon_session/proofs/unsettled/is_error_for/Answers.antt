use Rattle.std.proofs.Common.{sym, ◌∙◌}
use Rattle.mon_session.proofs.Erring.{error_for}
use Rattle.mon_session.proofs.unsettled.is_error_for.Goals as goal

pub returns : goal.returns
returns c =
    error_for c.same_bytes.result c.args.error.now c.args.frame.now c.bytes-bytes.result.now c.bytes.result.now c.front.result.now c.front-2.result.now
    (sym c.kind.ensures ∙ c.if-kind-ne-ERROR.false) (sym c.xid.ensures ∙ (c.if-xid.false ∙ c.xid-2.ensures)) c.bytes-bytes.ensures.value c.bytes.ensures.value
    c.if-bytes-lt12.false c.front.ensures c.front-2.ensures c.same_bytes.ensures
