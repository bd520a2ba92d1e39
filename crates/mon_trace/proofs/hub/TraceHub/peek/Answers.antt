use Rattle.std.proofs.Common.{◌≡◌, List, ap, subst}
use Rattle.std.specs.Prelude.{IfOk}
use Rattle.mon_world.specs.Logs.{NamesOpened, opened_in}
use Rattle.mon_trace.specs.Grammar.{Recorded}
use Rattle.mon_trace.specs.Outputs.{lines_text}
use Rattle.mon_trace.specs.Run.{Running, event_at}
use Rattle.mon_trace.specs.Woven.{woven}
use Rattle.mon_trace.proofs.Weaving.{run_named, ok_is}
use Rattle.mon_trace.proofs.hub.TraceHub.peek.Goals as goal

pub returns-clause-names : goal.returns-clause-names
returns-clause-names c =
    let inside = c.self.inside in
    let t = inside.trace in
    ok_is c.event.result (event_at t.events inside.given) (NamesOpened (opened_in c.args.self.now.log))
    (subst (λ (es : List Recorded). IfOk c.event.result (λ event. event ≡ event_at es inside.given)) c.events.ensures.value c.event.ensures)
    (subst (λ (r : Running). NamesOpened (opened_in r.log) (event_at t.events inside.given)) c.self.view_is
    (run_named t inside.given inside.losing inside.lost inside.jobs (lines_text inside.outputs) (woven t.events inside.given inside.outputs) c.self.invariant.run))
