use Rattle.std.proofs.Common.{◌≡◌, ◌∙◌, ◌+◌, ◌∷◌, List, ℕ, suc, length, ap, sym, subst, arith}
use Rattle.std.specs.Prelude.{IfSome, reverse}
use Rattle.mon_world.specs.declared.history.Entry.{Entry}
use Rattle.mon_world.specs.declared.history.Entry.TheVariants.{Given}
use Rattle.mon_world.specs.Logs.{inputs}
use Rattle.mon_trace.specs.Outputs.{lines_text}
use Rattle.mon_trace.specs.Run.{Running, event_at, losing_before, WasBad}
use Rattle.mon_trace.specs.Woven.{InOrder, IsRun, woven}
use Rattle.mon_trace.proofs.Weaving.{woven_given, in_order_more, run_given, was_more, running}
use Rattle.mon_trace.proofs.hub.TraceHub.advance.Goals as goal

pub invariant_of-self : goal.invariant_of-self
invariant_of-self c =
    let inside = c.self.inside in
    let inv = c.self.invariant in
    let t = inside.trace in
    let n = inside.given in
    let before = woven t.events n inside.outputs in
    let next : suc n ≡ c.args.given = omega (arith, c.requires.given, ap (λ (r : Running). length (inputs r.log)) c.self.view_is, inv.run.count) in
    let losing : c.args.losing ≡ losing_before t (suc n) =
    c.requires.losing ∙ ap (λ (r : Running). losing_before r.trace c.args.given) (sym c.self.view_is) ∙ ap (losing_before t) (sym next) in
    let more = woven_given t.events n inside.outputs inv.order in
    record {
      order = subst (λ (k : ℕ). InOrder k inside.outputs) next (in_order_more n inside.outputs inv.order);
      run = subst (λ (k : ℕ). IsRun t k c.args.losing inside.lost inside.jobs (lines_text inside.outputs) (woven t.events k inside.outputs)) next
          (subst (λ (h : List Entry). IsRun t (suc n) c.args.losing inside.lost inside.jobs (lines_text inside.outputs) h) (sym more)
          (run_given t n inside.losing inside.lost inside.jobs c.args.losing (lines_text inside.outputs) before losing inv.run));
      numbered = c.requires.number;
      was_bad = subst (λ (k : ℕ). IfSome inside.bad (λ offset. WasBad t offset (woven t.events k inside.outputs))) next
          (subst (λ (h : List Entry). IfSome inside.bad (λ offset. WasBad t offset h)) (sym more)
          (was_more t inside.bad (Given (event_at t.events n)) before inv.was_bad));
      failed = inv.failed;
    }

pub returns : goal.returns
returns c =
    let inside = c.self.inside in
    let t = inside.trace in
    let n = inside.given in
    let next : suc n ≡ c.args.given = omega (arith, c.requires.given, ap (λ (r : Running). length (inputs r.log)) c.self.view_is, c.self.invariant.run.count) in
    ap (λ (k : ℕ). running t (woven t.events k inside.outputs) (reverse inside.calls.items) inside.faults inside.bad) (sym next)
    ∙ ap (λ (h : List Entry). running t h (reverse inside.calls.items) inside.faults inside.bad) (woven_given t.events n inside.outputs c.self.invariant.order)
    ∙ ap (λ (k : ℕ). running t (Given (event_at t.events k) ∷ woven t.events n inside.outputs) (reverse inside.calls.items) inside.faults inside.bad) c.self.invariant.run.count
    ∙ ap (λ (r : Running). record r { log = Given (event_at r.trace.events (length (inputs r.log))) ∷ r.log }) c.self.view_is
