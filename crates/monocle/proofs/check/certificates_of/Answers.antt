use Rattle.std.proofs.Common.{Err, ◌∙◌, ap, refl}
use Rattle.monocle.proofs.Calling.{called-behind}
use Rattle.monocle.proofs.Ending.{file-bad, file-want}
use Rattle.monocle.proofs.Judging.{no-certificates}
use Rattle.monocle.proofs.check.certificates_of.Goals as goal

pub returns-in-Ok-bad_text-clause-ended : goal.returns-in-Ok-bad_text-clause-ended
returns-in-Ok-bad_text-clause-ended g c =
    called-behind c.in_ok-text.ensures.quiet c.refused.ensures.called (λ calls. refl)
    (file-bad (g.D.Desk.files c.args.desk.now) c.args.name.now c.in-Err-Bad.offset c.as_bytes.result.now c.refused.result c.refused.ensures.status
    (no-certificates (g.D.Desk.files c.args.desk.now) c.args.name.now _ _ c.in-Err-Bad.offset c.in_ok-text.ensures.content c.deref.ensures.value
    (c.certificates_in.ensures.bad c.in-Err-Bad.offset (c.in-Err-Bad.is ∙ ap Err c.in-Err-Bad.field-0-is))
    (c.certificates_in.ensures.at c.in-Err-Bad.offset (c.in-Err-Bad.is ∙ ap Err c.in-Err-Bad.field-0-is)))
    (c.as_bytes.ensures.value ∙ c.in-Ok-bad_text.ensures))

pub returns-in-Err-Bad-clause-ended : goal.returns-in-Err-Bad-clause-ended
returns-in-Err-Bad-clause-ended g c =
    called-behind c.in_ok-text.ensures.quiet c.out_of_memory.ensures.called (λ calls. refl)
    (file-want (g.D.Desk.files c.args.desk.now) c.args.name.now c.out_of_memory.result c.out_of_memory.ensures.status)

pub returns-clause-ended : goal.returns-clause-ended
returns-clause-ended g c =
    called-behind c.in_ok-text.ensures.quiet c.out_of_memory-in-Err-OutOfMemory.ensures.called (λ calls. refl)
    (file-want (g.D.Desk.files c.args.desk.now) c.args.name.now c.out_of_memory-in-Err-OutOfMemory.result c.out_of_memory-in-Err-OutOfMemory.ensures.status)
