use Rattle.std.proofs.Common.{◌≡◌, ◌∙◌, ◌≤◌, ℕ, ap, sym, subst, arith}
use Rattle.mon_world.specs.Causes.{counted}
use Rattle.mon_trace.specs.Run.{Running}
use Rattle.mon_trace.proofs.hub.TraceHub.give.Goals as goal

pub returns-then-refuses-clause-cause : goal.returns-then-refuses-clause-cause
returns-then-refuses-clause-cause c =
    let same : c.tell.new.self.faults ≡ c.args.self.now.faults = ap (λ (r : Running). r.faults) c.in-Ok-tell.ensures.told in
    let is : c.fail.new.self.faults ≡ counted c.args.self.now.faults = ap (λ (r : Running). r.faults) c.fail.ensures.failed ∙ ap counted same in
    record {
      later = subst (λ (n : ℕ). n ≤ c.fail.new.self.faults) same c.fail.ensures.later;
      failed = λ _. subst (λ (n : ℕ). counted c.args.self.now.faults ≤ n) (sym is) (omega arith);
    }
