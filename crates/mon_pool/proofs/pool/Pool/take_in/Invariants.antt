use Rattle.std.proofs.Common.{◌≡◌, ◌+◌, All, vec_len}
use Rattle.crossbeam_queue.specs.Passes.{view, IsPassOf}
use Rattle.mon_board.specs.Seats.{IsWriterOf, published_by}
use Rattle.mon_board.specs.Versions.{AllPublished}
use Rattle.mon_pool.specs.Plain.{jobs_of}
use Rattle.mon_pool.specs.Places.{IsWorkerOf, seen_of}
use Rattle.mon_pool.specs.declared.pass.Pass.{Pass}
use Rattle.mon_pool.proofs.pool.Pool.take_in.Given as goal

abbrev pub invariant-loop-i : goal.invariant-loop-i
invariant-loop-i l = record {
  places : IsPassOf l.self.jobs l.jobs × IsPassOf l.self.answers l.answers × IsWriterOf l.self.board l.writer;
  workers : All (IsWorkerOf l.self) l.passes.items;
  count : vec_len l.passes + l.i ≡ vec_len l.initial.passes;
  job_parts : (view l.jobs).parts ≡ (view l.initial.jobs).parts + l.i;
  answer_parts : (view l.answers).parts ≡ (view l.initial.answers).parts + l.i;
  kept_jobs : ((view l.jobs).put ≡ (view l.initial.jobs).put) × ((view l.jobs).dropped ≡ (view l.initial.jobs).dropped);
  kept_answers : ((view l.answers).taken ≡ (view l.initial.answers).taken) × ((view l.answers).dropped ≡ (view l.initial.answers).dropped);
  tied : jobs_of (view l.answers).put ≡ (view l.jobs).taken;
  published : published_by l.writer ≡ published_by l.initial.writer;
  shown : All (λ (p : Pass). AllPublished (published_by l.initial.writer) (seen_of p)) l.passes.items → All (λ (p : Pass). AllPublished (published_by l.initial.writer) (seen_of p)) l.initial.passes.items;
}
