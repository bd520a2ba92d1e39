use Rattle.std.proofs.Common.{◌∙◌}
use Rattle.std.proofs.lemmas.Result.{IfOk-weaker}
use Rattle.of_msgs.proofs.Written.{read_back}
use Rattle.of_msgs.proofs.writing.write_flow_mod.Goals as goal

pub returns-clause-read_back : goal.returns-clause-read_back
returns-clause-read_back c = IfOk-weaker c.make.result _ _ (λ frame e. read_back c.args.m.now frame _ c.numbers_fit.ensures e (c.deref.ensures.value ∙ c.in_ok-body.ensures)) c.make.ensures
