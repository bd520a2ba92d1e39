use Rattle.std.proofs.Common.{rules}
use Rattle.mon_pool.proofs.Marking.{jobs_snoc, shows_new}
use Rattle.mon_pool.proofs.stop.BoardStopStop.ask.Goals as goal

pub invariant_of-self-then-seen-self-clause-jobs : goal.invariant_of-self-then-seen-self-clause-jobs
invariant_of-self-then-seen-self-clause-jobs c = jobs_snoc _ _ c.args.self.now.slot c.look-seen.result c.look-seen.ensures.seen (search rules) c.args.self.now.jobs

pub invariant_of-self-2-clause-jobs : goal.invariant_of-self-2-clause-jobs
invariant_of-self-2-clause-jobs c = jobs_snoc _ _ c.args.self.now.slot c.look-seen.result c.look-seen.ensures.seen (search rules) c.args.self.now.jobs

pub invariant_of-self-2-clause-saw : goal.invariant_of-self-2-clause-saw
invariant_of-self-2-clause-saw c = shows_new _ _ c.args.self.now.slot c.look-seen.result c.look-seen.ensures.seen
