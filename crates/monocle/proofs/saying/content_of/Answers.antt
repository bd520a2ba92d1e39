use Rattle.std.proofs.Common.{refl, ◌∙◌}
use Rattle.mon_world.specs.declared.calls.Call.TheVariants.{Read}
use Rattle.monocle.proofs.Calling.{called-behind, undone}
use Rattle.monocle.proofs.Ending.{read-failed, read-want}
use Rattle.monocle.proofs.saying.content_of.Goals as goal

pub returns-in-Ok-unread-clause-ended : goal.returns-in-Ok-unread-clause-ended
returns-in-Ok-unread-clause-ended g c =
    called-behind
    (record { silent = c.read.ensures.said; told = undone (Read c.args.name.now) c.read.result _ _ _ c.in-Err-Failed.is c.read.ensures.called })
    c.refused.ensures.called (λ calls. refl)
    (read-failed c.args.name.now c.as_bytes.result.now c.refused.result c.refused.ensures.status (c.as_bytes.ensures.value ∙ c.in-Ok-unread.ensures))

pub returns-in-Err-clause-ended : goal.returns-in-Err-clause-ended
returns-in-Err-clause-ended g c =
    called-behind
    (record { silent = c.read.ensures.said; told = undone (Read c.args.name.now) c.read.result _ _ _ c.in-Err-Failed.is c.read.ensures.called })
    c.out_of_memory.ensures.called (λ calls. refl) (read-want c.args.name.now c.out_of_memory.result c.out_of_memory.ensures.status)

pub returns-in-Err-OutOfMemory-clause-ended : goal.returns-in-Err-OutOfMemory-clause-ended
returns-in-Err-OutOfMemory-clause-ended g c =
    called-behind
    (record { silent = c.read.ensures.said; told = undone (Read c.args.name.now) c.read.result _ _ _ c.in-Err-OutOfMemory.is c.read.ensures.called })
    c.out_of_memory-in-Err-OutOfMemory.ensures.called (λ calls. refl)
    (read-want c.args.name.now c.out_of_memory-in-Err-OutOfMemory.result c.out_of_memory-in-Err-OutOfMemory.ensures.status)
