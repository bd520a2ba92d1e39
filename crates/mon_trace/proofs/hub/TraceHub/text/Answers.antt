use Rattle.std.proofs.Common.{◌≡◌, ◌≤◌, ◌∷◌, length, subst}
use Rattle.std.specs.Prelude.{reverse}
use Rattle.mon_world.specs.declared.event.Event.TheVariants.{Stop}
use Rattle.mon_world.specs.Logs.{inputs, StopsNow, NoStop}
use Rattle.mon_trace.specs.Run.{Running, events_of, LosesBy, text}
use Rattle.mon_trace.specs.Woven.{woven}
use Rattle.mon_trace.proofs.Whole.{whole, few}
use Rattle.mon_trace.proofs.hub.TraceHub.text.Goals as goal

pub returns-clause-loses : goal.returns-clause-loses
returns-clause-loses c = subst (λ (r : Running). LosesBy r.trace r.log) c.self.view_is c.self.invariant.run.loses

pub returns-clause-whole : goal.returns-clause-whole
returns-clause-whole c =
    subst (λ (r : Running). StopsNow (inputs r.log) → inputs r.log ≡ Stop ∷ reverse (events_of r.trace)) c.self.view_is
    (whole c.self.inside.trace.events (inputs (woven c.self.inside.trace.events c.self.inside.given c.self.inside.outputs)) c.keeps.ensures.unstopped c.self.invariant.run.given)

pub returns-clause-few : goal.returns-clause-few
returns-clause-few c =
    subst (λ (r : Running). NoStop (inputs r.log) → length (inputs r.log) ≤ length r.trace.events) c.self.view_is
    (few c.self.inside.trace.events (inputs (woven c.self.inside.trace.events c.self.inside.given c.self.inside.outputs)) c.self.invariant.run.given)
