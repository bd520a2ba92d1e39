use Rattle.std.proofs.Common.{rules}
use Rattle.mon_pool.proofs.Striking.{pushed}
use Rattle.mon_pool.proofs.unanswered.Unanswered.push.Goals as goal

pub invariant_of-self : goal.invariant_of-self
invariant_of-self c = record {
  rising = pushed c.args.self.now.jobs.items _ c.args.job c.args.self.now.last _ c.push_reserved.ensures.items (search rules) c.args.self.now.rising c.requires.number;
}
