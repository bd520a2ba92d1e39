use Rattle.std.proofs.Common.{◌≡◌, ◌≤◌, ◌+◌, ◌++◌, map, length, vec_len, vec_capacity}
use Rattle.mon_pool.specs.Plain.{verdict_of}
use Rattle.std.specs.Vec.Iter.{into_iter_items}
use Rattle.mon_pool.proofs.closing.verdicts_of.Given as goal

abbrev pub invariant-loop-answer : goal.invariant-loop-answer
invariant-loop-answer l = record {
  all : l.into.items ++ map verdict_of (into_iter_items l.answer-iterator) ≡ map verdict_of l.fn.answers.items;
  room : vec_len l.into + length (into_iter_items l.answer-iterator) ≤ vec_capacity l.into;
}
