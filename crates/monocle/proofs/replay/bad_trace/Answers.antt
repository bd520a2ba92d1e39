use Rattle.std.proofs.Common.{◌∙◌, refl}
use Rattle.std.specs.Prelude.{codes}
use Rattle.monocle.proofs.Calling.{called-as}
use Rattle.monocle.proofs.Ending.{bad-said, bad-want}
use Rattle.monocle.proofs.replay.bad_trace.Goals as goal

pub returns-in-Ok-clause-called : goal.returns-in-Ok-clause-called
returns-in-Ok-clause-called g c =
    called-as c.refused.ensures.called (bad-said (codes "monocle: trace") c.as_bytes.result.now c.args.offset c.refused.result c.refused.ensures.status (c.as_bytes.ensures.value ∙ c.in-Ok.ensures))

pub returns-in-Err-clause-called : goal.returns-in-Err-clause-called
returns-in-Err-clause-called g c =
    called-as c.out_of_memory.ensures.called (bad-want (codes "monocle: trace") c.args.offset c.out_of_memory.result c.out_of_memory.ensures.status)
