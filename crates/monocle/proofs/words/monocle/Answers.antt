use Rattle.monocle.proofs.Calling.{called-as}
use Rattle.monocle.proofs.Ending.{check-end, plan-end, replay-end}
use Rattle.monocle.proofs.words.monocle.Goals as goal

pub returns-in-Ok-Check-clause-ended : goal.returns-in-Ok-Check-clause-ended
returns-in-Ok-Check-clause-ended g c =
    called-as c.check.ensures.ended
    (check-end (g.D.Desk.files c.args.desk.now) c.args.words.now c.in-Ok-Check.field-0 c.in-Ok-Check.source c.in-Ok-Check.certificates c.as_str-in-Ok-Check.result.now c.check.result
    c.in-Ok-Check.ensures.spelled c.in-Ok-Check.field-0-is c.as_str-in-Ok-Check.ensures)

pub returns-in-Ok-Replay-clause-ended : goal.returns-in-Ok-Replay-clause-ended
returns-in-Ok-Replay-clause-ended g c =
    called-as c.replay.ensures.ended
    (replay-end (g.D.Desk.files c.args.desk.now) c.args.words.now c.in-Ok-Replay.field-0 c.in-Ok-Replay.settings c.in-Ok-Replay.trace c.as_str.result.now c.as_str-in-Ok-Replay.result.now c.replay.result
    c.in-Ok-Replay.ensures.spelled c.in-Ok-Replay.field-0-is c.as_str.ensures c.as_str-in-Ok-Replay.ensures)

pub returns-in-Ok-Plan-clause-ended : goal.returns-in-Ok-Plan-clause-ended
returns-in-Ok-Plan-clause-ended g c =
    called-as c.plan.ensures.ended
    (plan-end (g.D.Desk.files c.args.desk.now) c.args.words.now c.in-Ok-Plan.field-0 c.in-Ok-Plan.source c.in-Ok-Plan.workers c.in-Ok-Plan.certificates c.plan.result
    c.in-Ok-Plan.ensures.spelled c.in-Ok-Plan.field-0-is)
