use Rattle.std.proofs.Common.{refl}
use Rattle.mon_world.specs.declared.calls.Call.TheVariants.{Write}
use Rattle.monocle.proofs.Calling.{called-behind, undone}
use Rattle.monocle.proofs.Ending.{write-failed, write-want}
use Rattle.monocle.proofs.saying.put.Goals as goal

pub returns-in-Err-Failed-clause-ended : goal.returns-in-Err-Failed-clause-ended
returns-in-Err-Failed-clause-ended g c =
    called-behind
    (record { silent = c.write.ensures.said; told = undone Write c.write.result _ _ _ c.in-Err-Failed.is c.write.ensures.called })
    c.refused.ensures.called (λ calls. refl) (write-failed c.args.status c.refused.result c.refused.ensures.status)

pub returns-in-Err-OutOfMemory-clause-ended : goal.returns-in-Err-OutOfMemory-clause-ended
returns-in-Err-OutOfMemory-clause-ended g c =
    called-behind
    (record { silent = c.write.ensures.said; told = undone Write c.write.result _ _ _ c.in-Err-OutOfMemory.is c.write.ensures.called })
    c.out_of_memory.ensures.called (λ calls. refl) (write-want c.args.status c.out_of_memory.result c.out_of_memory.ensures.status)
