use Rattle.std.proofs.Common.{drop}
use Rattle.mon_plan.specs.Sharing.{IsPlanned, every}
use Rattle.mon_plan.proofs.Sharing.{Fits}
use Rattle.mon_plan.proofs.plan.plan_share.Given as goal

abbrev pub invariant-loop-place : goal.invariant-loop-place
invariant-loop-place l = record {
  fits : Fits (IsPlanned l.v l.t) (every l.step l.first l.t) (every l.step l.others (drop l.place l.t)) l.certificates;
}
