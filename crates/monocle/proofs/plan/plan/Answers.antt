use Rattle.monocle.proofs.Calling.{called-behind}
use Rattle.monocle.proofs.Ending.{reads-silent, plan-written, plan-want}
use Rattle.monocle.proofs.plan.plan.Goals as goal

pub returns-in-Ok-plan_text-clause-ended : goal.returns-in-Ok-plan_text-clause-ended
returns-in-Ok-plan_text-clause-ended g c =
    called-behind c.in-Ok.ensures.quiet c.put.ensures.ended (reads-silent c.args.source.now)
    (plan-written (g.D.Desk.files c.args.desk.now) c.args.source.now c.args.workers c.args.certificates c.put.result)

pub returns-clause-ended : goal.returns-clause-ended
returns-clause-ended g c =
    called-behind c.in-Ok.ensures.quiet c.out_of_memory.ensures.called (reads-silent c.args.source.now)
    (plan-want (g.D.Desk.files c.args.desk.now) c.args.source.now c.args.workers c.args.certificates c.out_of_memory.result c.out_of_memory.ensures.status)
