use Rattle.std.proofs.Common.{◌≡◌, true, take}
use Rattle.std.specs.Prelude.{All}
use Rattle.mon_solve.specs.Answers.{HasNone}
use Rattle.mon_solve.specs.Accepting.{are_refuted}
use Rattle.mon_solve.proofs.certify.search.Given as goal

abbrev pub invariant-loop-case : goal.invariant-loop-case
invariant-loop-case l = record {
  accepted : are_refuted l.j (take l.case-index l.case-items) l.logs ≡ true;
  none : All (HasNone l.j) (take l.case-index l.case-items);
}
