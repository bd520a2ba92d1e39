use Rattle.std.proofs.Common.{ℕ, ◌+◌, Bool, ap}
use Rattle.mon_world.specs.Logs.{entry_of}
use Rattle.mon_trace.specs.Outputs.{lines_text}
use Rattle.mon_trace.specs.Run.{lost_after}
use Rattle.mon_trace.specs.Woven.{woven}
use Rattle.mon_trace.proofs.Weaving.{run_put, keeps_more}
use Rattle.mon_trace.proofs.hub.TraceHub.take.Goals as goal

pub invariant_of-self-then-lost : goal.invariant_of-self-then-lost
invariant_of-self-then-lost c =
    let own = c.self.inside in
    let more = keeps_more own.trace own.given own.losing (own.lost + 1) own.jobs own.number own.bad (entry_of c.is_lost-lost.result c.args.out.now) own.outputs c.push.new.self c.self.invariant.order c.self.invariant.was_bad c.in_ok-push.ensures.pushed
    (run_put own.trace own.given own.losing own.lost (own.lost + 1) own.jobs own.number (lines_text own.outputs) (woven own.trace.events own.given own.outputs) c.args.out.now c.is_lost-lost.result c.is_lost-lost.ensures (ap (λ (x : Bool). lost_after x own.lost) c.if-lost.true) c.self.invariant.run c.self.invariant.numbered) in
    record { order = more.order; run = more.run; numbered = c.self.invariant.numbered; was_bad = more.was_bad; failed = c.self.invariant.failed }

pub invariant_of-self-else-lost : goal.invariant_of-self-else-lost
invariant_of-self-else-lost c =
    let own = c.self.inside in
    let more = keeps_more own.trace own.given own.losing own.lost own.jobs own.number own.bad (entry_of c.is_lost-lost.result c.args.out.now) own.outputs c.push.new.self c.self.invariant.order c.self.invariant.was_bad c.in_ok-push.ensures.pushed
    (run_put own.trace own.given own.losing own.lost own.lost own.jobs own.number (lines_text own.outputs) (woven own.trace.events own.given own.outputs) c.args.out.now c.is_lost-lost.result c.is_lost-lost.ensures (ap (λ (x : Bool). lost_after x own.lost) c.if-lost.false) c.self.invariant.run c.self.invariant.numbered) in
    record { order = more.order; run = more.run; numbered = c.self.invariant.numbered; was_bad = more.was_bad; failed = c.self.invariant.failed }
