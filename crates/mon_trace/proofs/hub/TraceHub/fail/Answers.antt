use Rattle.std.proofs.Common.{◌≡◌, [], refl, sym, subst}
use Rattle.mon_trace.specs.Run.{Running, IsNextBad}
use Rattle.mon_trace.specs.Woven.{woven}
use Rattle.mon_trace.proofs.Weaving.{is_some-not_none}
use Rattle.mon_trace.proofs.hub.TraceHub.fail.Goals as goal

pub invariant_of-self : goal.invariant_of-self
invariant_of-self c =
    let inside = c.self.inside in
    let inv = c.self.invariant in
    record {
      order = inv.order;
      run = inv.run;
      numbered = inv.numbered;
      was_bad = record {
        since = [];
        before = woven inside.trace.events inside.given inside.outputs;
        gates = c.args.gates.now;
        log_is = refl;
        is_bad = subst (λ (r : Running). IsNextBad r.trace c.args.gates.now c.args.offset r.log) (sym c.self.view_is) c.requires;
      };
      failed = λ none. absurd (is_some-not_none c.args.offset none);
    }
