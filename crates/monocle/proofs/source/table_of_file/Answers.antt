use Rattle.std.proofs.Common.{Err, ◌∙◌, ap, refl}
use Rattle.monocle.proofs.Calling.{called-behind}
use Rattle.monocle.proofs.Ending.{table-bad, table-want}
use Rattle.monocle.proofs.Judging.{no-table}
use Rattle.monocle.proofs.source.table_of_file.Goals as goal

pub returns-in-Ok-bad_text-clause-ended : goal.returns-in-Ok-bad_text-clause-ended
returns-in-Ok-bad_text-clause-ended g c =
    called-behind c.in_ok-text.ensures.quiet c.refused.ensures.called (λ calls. refl)
    (table-bad (g.D.Desk.files c.args.desk.now) c.args.name.now c.in-Err-Bad.offset c.as_bytes.result.now c.refused.result c.refused.ensures.status
    (no-table (g.D.Desk.files c.args.desk.now) c.args.name.now _ _ c.in-Err-Bad.offset c.in_ok-text.ensures.content c.deref.ensures.value
    (c.table_in.ensures.bad c.in-Err-Bad.offset (c.in-Err-Bad.is ∙ ap Err c.in-Err-Bad.field-0-is))
    (c.table_in.ensures.at c.in-Err-Bad.offset (c.in-Err-Bad.is ∙ ap Err c.in-Err-Bad.field-0-is)))
    (c.as_bytes.ensures.value ∙ c.in-Ok-bad_text.ensures))

pub returns-in-Err-Bad-clause-ended : goal.returns-in-Err-Bad-clause-ended
returns-in-Err-Bad-clause-ended g c =
    called-behind c.in_ok-text.ensures.quiet c.out_of_memory.ensures.called (λ calls. refl)
    (table-want (g.D.Desk.files c.args.desk.now) c.args.name.now c.out_of_memory.result c.out_of_memory.ensures.status)

pub returns-clause-ended : goal.returns-clause-ended
returns-clause-ended g c =
    called-behind c.in_ok-text.ensures.quiet c.out_of_memory-in-Err-OutOfMemory.ensures.called (λ calls. refl)
    (table-want (g.D.Desk.files c.args.desk.now) c.args.name.now c.out_of_memory-in-Err-OutOfMemory.result c.out_of_memory-in-Err-OutOfMemory.ensures.status)
