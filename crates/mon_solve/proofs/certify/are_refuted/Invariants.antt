use Rattle.std.proofs.Common.{◌≡◌, take, drop}
use Rattle.std.specs.Prelude.{All}
use Rattle.mon_solve.specs.Answers.{HasNone}
use Rattle.mon_solve.specs.Accepting.{are_refuted}
use Rattle.mon_solve.proofs.certify.are_refuted.Given as goal

abbrev pub invariant-loop-place : goal.invariant-loop-place
invariant-loop-place l = record {
  value : are_refuted l.j (drop l.place l.cases) (drop l.place l.logs) ≡ are_refuted l.j l.cases l.logs;
  none : All (HasNone l.j) (take l.place l.cases);
}
