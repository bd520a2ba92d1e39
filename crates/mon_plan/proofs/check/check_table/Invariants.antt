use Rattle.std.proofs.Common.{◌≡◌, take, drop}
use Rattle.mon_solve.specs.Accepting.{CertificateIsTrue}
use Rattle.mon_plan.specs.Planning.{Each, watch_of}
use Rattle.mon_plan.specs.Checking.{checked_from, checked}
use Rattle.mon_plan.proofs.check.check_table.Given as goal

abbrev pub invariant-loop-place : goal.invariant-loop-place
invariant-loop-place l = record {
  value : checked_from l.v l.t l.place (drop l.place l.t) (drop l.place l.certificates) ≡ checked l.v l.t l.certificates;
  truth : Each (λ r c. CertificateIsTrue (watch_of l.v l.t r) c) (take l.place l.t) (take l.place l.certificates);
}
