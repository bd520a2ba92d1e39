use Rattle.std.proofs.Common.{Err, inl, ◌∙◌, ap, refl}
use Rattle.monocle.proofs.Calling.{called-as, called-behind}
use Rattle.monocle.proofs.Ending.{replay-written, replay-bad, replay-want}
use Rattle.monocle.proofs.replay.replay.Goals as goal

pub returns-in-Ok-answer-clause-ended : goal.returns-in-Ok-answer-clause-ended
returns-in-Ok-answer-clause-ended g c =
    called-behind c.in-Ok.ensures.quiet c.put.ensures.ended (λ calls. refl)
    (replay-written (g.D.Desk.files c.args.desk.now) c.args.settings.now c.args.trace.now c.put.result)

pub returns-in-Err-Bad-clause-ended : goal.returns-in-Err-Bad-clause-ended
returns-in-Err-Bad-clause-ended g c =
    called-behind c.in-Ok.ensures.quiet c.bad_trace.ensures.called (λ calls. refl)
    (replay-bad (g.D.Desk.files c.args.desk.now) c.args.settings.now c.args.trace.now c.in-Ok.traced c.bad_trace.result c.in-Err-Bad.offset c.in-Ok.ensures.found
    (c.answer.ensures.bad c.in-Err-Bad.offset (c.in-Err-Bad.is ∙ ap Err c.in-Err-Bad.field-0-is)))

pub returns-in-Err-OutOfMemory-clause-ended : goal.returns-in-Err-OutOfMemory-clause-ended
returns-in-Err-OutOfMemory-clause-ended g c =
    called-behind c.in-Ok.ensures.quiet c.out_of_memory.ensures.called (λ calls. refl)
    (replay-want (g.D.Desk.files c.args.desk.now) c.args.settings.now c.args.trace.now c.out_of_memory.result c.out_of_memory.ensures.status)

pub returns-in-Err-clause-ended : goal.returns-in-Err-clause-ended
returns-in-Err-clause-ended g c = called-as c.in-Err.ensures.ended (λ calls end. inl end)
