use Rattle.std.proofs.Common.{◌≡◌, take}
use Rattle.std.specs.List.{count_by}
use Rattle.mon_plan.specs.Counting.{is_probe, is_nothing, is_overlap}
use Rattle.mon_plan.proofs.summary.Summary.of.Given as goal

abbrev pub invariant-loop-certificate : goal.invariant-loop-certificate
invariant-loop-certificate l = record {
  probes : l.probes ≡ count_by is_probe (take l.certificate-index l.certificate-items);
  indistinguishable : l.indistinguishable ≡ count_by is_nothing (take l.certificate-index l.certificate-items);
  overlap : l.overlap ≡ count_by is_overlap (take l.certificate-index l.certificate-items);
}
