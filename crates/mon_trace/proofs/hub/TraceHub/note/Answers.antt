use Rattle.std.proofs.Common.{◌++◌, ◌∷◌, ℕ, sym, subst}
use Rattle.mon_world.specs.declared.history.Entry.TheVariants.{Noted}
use Rattle.mon_trace.specs.Outputs.{lines_text}
use Rattle.mon_trace.specs.Run.{line_of}
use Rattle.mon_trace.specs.Woven.{IsRun, woven}
use Rattle.mon_trace.proofs.Weaving.{run_noted, keeps_more}
use Rattle.mon_trace.proofs.hub.TraceHub.note.Goals as goal

pub invariant_of-self-2 : goal.invariant_of-self-2
invariant_of-self-2 c =
    let inside = c.self.inside in
    let inv = c.self.invariant in
    let t = inside.trace in
    let entry = Noted c.args.note.now in
    let h = woven t.events inside.given inside.outputs in
    let run : IsRun t inside.given inside.losing inside.lost c.in_ok-jobs.jobs (lines_text inside.outputs ++ line_of inside.number entry) (entry ∷ h) =
    subst (λ (k : ℕ). IsRun t inside.given inside.losing inside.lost k (lines_text inside.outputs ++ line_of inside.number entry) (entry ∷ h)) (sym c.in_ok-jobs.ensures)
    (run_noted t inside.given inside.losing inside.lost inside.jobs inside.number (lines_text inside.outputs) h c.args.note.now inv.run inv.numbered) in
    let more = keeps_more t inside.given inside.losing inside.lost c.in_ok-jobs.jobs inside.number inside.bad entry inside.outputs c.push_note.new.self inv.order inv.was_bad c.in_ok-push_note.ensures.pushed run in
    record { order = more.order; run = more.run; numbered = inv.numbered; was_bad = more.was_bad; failed = inv.failed }
