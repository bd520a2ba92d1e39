use Rattle.std.proofs.Common.{◌≡◌}
use Rattle.mon_pool.specs.Places.{IsSideOf, offered_by, answered_by, unanswered_of, published_of, versions_of, last_of}
use Rattle.mon_pool.proofs.pool.Pool.take_fitting.Given as goal

abbrev pub invariant-loop : goal.invariant-loop
invariant-loop g l = record {
  side : IsSideOf l.self l.side;
  offered : offered_by l.side ≡ offered_by l.fn.side;
  last : last_of l.side ≡ last_of l.fn.side;
  answered : answered_by l.side ≡ answered_by l.fn.side;
  out : unanswered_of l.side ≡ unanswered_of l.fn.side;
  published : published_of l.side ≡ published_of l.fn.side;
  versions : versions_of l.side ≡ versions_of l.fn.side;
  jobs : l.side.jobs ≡ l.fn.side.jobs;
  waiting : l.side.waiting ≡ l.fn.side.waiting;
}
