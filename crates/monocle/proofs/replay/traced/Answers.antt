use Rattle.std.proofs.Common.{Err, ◌∙◌, ap, refl, true, [], ◌∷◌}
use Rattle.mon_world.specs.declared.calls.Call.TheVariants.{Read}
use Rattle.monocle.proofs.Calling.{called-behind, quiet-behind}
use Rattle.monocle.proofs.Ending.{trace-end, no-trace-at, trace-bad, trace-want}
use Rattle.monocle.proofs.replay.traced.Goals as goal

pub returns-in-Err-clause-ended : goal.returns-in-Err-clause-ended
returns-in-Err-clause-ended g c =
    called-behind c.in_ok-content_of.ensures.quiet c.in-Err.ensures.ended (λ calls. refl)
    (trace-end (g.D.Desk.files c.args.desk.now) c.args.settings.now c.args.trace.now c.in-Err.status)

pub returns-in-Err-Bad-clause-ended : goal.returns-in-Err-Bad-clause-ended
returns-in-Err-Bad-clause-ended g c =
    called-behind
    (quiet-behind (Read c.args.settings.now true ∷ []) (Read c.args.trace.now true ∷ []) _ _ _ _ _ _ c.in_ok-content_of.ensures.quiet c.in-Ok.ensures.quiet)
    c.bad_trace.ensures.called (λ calls. refl)
    (trace-bad (g.D.Desk.files c.args.desk.now) c.args.settings.now c.args.trace.now c.bad_trace.result c.in-Err-Bad.offset
    (no-trace-at (g.D.Desk.files c.args.desk.now) (g.D.Desk.files c.content_of.new.desk) c.args.settings.now c.args.trace.now _ _ _
    c.in_ok-content_of.ensures.files c.in_ok-content_of.ensures.content c.in-Ok.ensures.content c.in-Err-Bad.offset c.deref.ensures.value
    (c.trace_in.ensures.bad c.in-Err-Bad.offset (c.in-Err-Bad.is ∙ ap Err c.in-Err-Bad.field-0-is))))

pub returns-clause-ended : goal.returns-clause-ended
returns-clause-ended g c =
    called-behind
    (quiet-behind (Read c.args.settings.now true ∷ []) (Read c.args.trace.now true ∷ []) _ _ _ _ _ _ c.in_ok-content_of.ensures.quiet c.in-Ok.ensures.quiet)
    c.out_of_memory.ensures.called (λ calls. refl)
    (trace-want (g.D.Desk.files c.args.desk.now) c.args.settings.now c.args.trace.now c.out_of_memory.result c.out_of_memory.ensures.status)
