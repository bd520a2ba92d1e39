use Rattle.std.proofs.Common.{◌∙◌}
use Rattle.std.proofs.lemmas.Result.{IfOk-weaker}
use Rattle.of_msgs.proofs.Written.{error_read_back}
use Rattle.of_msgs.proofs.error.error_frame.Goals as goal

pub returns-clause-read_back : goal.returns-clause-read_back
returns-clause-read_back c = IfOk-weaker c.make.result _ _ (λ frame e. error_read_back c.args.kind c.args.code _ c.args.failed.now _ frame _ c.ranges.kind.fits c.ranges.code.fits c.xid.ensures c.bytes.ensures.value e (c.deref.ensures.value ∙ c.in_ok-body.ensures.value)) c.make.ensures
