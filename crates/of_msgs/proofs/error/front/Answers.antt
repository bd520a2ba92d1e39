use Rattle.std.proofs.Common.{sym, arith}
use Rattle.std.proofs.lemmas.List.{take_all}
use Rattle.of_msgs.proofs.error.front.Goals as goal

pub returns-then-bytes-lt-KEPT-clause-value : goal.returns-then-bytes-lt-KEPT-clause-value
returns-then-bytes-lt-KEPT-clause-value c = sym (take_all 64 c.args.bytes.now (omega arith))
