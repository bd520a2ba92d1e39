use Rattle.std.proofs.Common.{◌≡◌, ◌-◌, [], All, vec_len}
use Rattle.crossbeam_queue.specs.Passes.{view, IsPassOf}
use Rattle.mon_board.specs.Seats.{IsLookerOf}
use Rattle.mon_tally.specs.Tallies.{tally}
use Rattle.mon_pool.proofs.pool.Pool.new.Given as goal

abbrev pub invariant-loop-i : goal.invariant-loop-i
invariant-loop-i l = record {
  jobs : IsPassOf l.jobs l.job_pass × (view l.job_pass ≡ tally (65 - l.i) [] [] []);
  answers : IsPassOf l.answers l.answer_pass × (view l.answer_pass ≡ tally (65 - l.i) [] [] []);
  looker : IsLookerOf l.board l.looker;
  count : vec_len l.passes ≡ l.i;
  workers : All (λ p. IsPassOf l.jobs p.jobs × IsPassOf l.answers p.answers × IsLookerOf l.board p.looker) l.passes.items;
}
