use Rattle.std.proofs.Common.{◌≡◌, ◌++◌, ℕ, take, drop, map}
use Rattle.mon_legal.specs.Edits.{older}
use Rattle.mon_session.specs.Passing.{Falls}
use Rattle.mon_session.proofs.unsettled.age_in.Given as goal

abbrev pub invariant-loop-place : goal.invariant-loop-place
invariant-loop-place l = record {
  later : l.edits.items ≡ map older (take l.place l.fn.edits.items) ++ drop l.place l.fn.edits.items;
  falls : (n : ℕ) → Falls n l.fn.edits.items → Falls n l.edits.items;
}
