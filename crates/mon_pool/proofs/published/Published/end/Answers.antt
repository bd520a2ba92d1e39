use Rattle.std.proofs.Common.{◌≤◌, sym, subst}
use Rattle.mon_board.specs.Seats.{published_by}
use Rattle.mon_board.specs.Versions.{Marks, last}
use Rattle.mon_pool.specs.Sides.{AreLast}
use Rattle.mon_pool.proofs.Versions.{end_more, end_is}
use Rattle.mon_pool.proofs.published.Published.end.Goals as goal

pub invariant_of-self-clause-are_last : goal.invariant_of-self-clause-are_last
invariant_of-self-clause-are_last c = subst (λ (m : Marks). AreLast c.args.self.now.versions.items m) (sym c.publish.ensures.published) (end_more c.args.self.now.versions.items (published_by c.args.self.now.writer) c.args.self.now.are_last)

pub invariant_of-self-clause-ended : goal.invariant_of-self-clause-ended
invariant_of-self-clause-ended c = subst (λ (m : Marks). last m 64 ≤ 1) (sym c.publish.ensures.published) (end_is (published_by c.args.self.now.writer))
