use Rattle.std.proofs.Common.{◌≡◌, drop, take, length, ◌++◌}
use Rattle.mon_cnf.specs.Truth.{WithinAll}
use Rattle.mon_refute.specs.Follow.{all_follow, ends_empty, literals_of}
use Rattle.mon_refute.specs.Marks.{AreClear}
use Rattle.mon_refute.proofs.check.is_accepted.Given as goal

abbrev pub invariant-loop-i : goal.invariant-loop-i
invariant-loop-i l = record {
  clear : AreClear l.marks;
  within : WithinAll (length l.fn.marks) (l.cs ++ literals_of (take l.i l.log));
  so_far : all_follow (length l.fn.marks) l.cs l.log ≡ all_follow (length l.fn.marks) (l.cs ++ literals_of (take l.i l.log)) (drop l.i l.log);
  last : l.ends ≡ ends_empty (take l.i l.log);
}
