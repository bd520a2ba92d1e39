use Rattle.std.proofs.Common.{◌≤◌, ◌<◌, ℕ, set, sym, subst, ◌∙◌}
use Rattle.mon_board.specs.Seats.{published_by}
use Rattle.mon_board.specs.Versions.{Marks, last}
use Rattle.mon_pool.specs.Sides.{AreLast}
use Rattle.mon_pool.proofs.Versions.{one_more, end_stays}
use Rattle.mon_pool.proofs.published.Published.publish.Goals as goal

pub invariant_of-self-clause-are_last : goal.invariant_of-self-clause-are_last
invariant_of-self-clause-are_last c =
    subst (λ (m : Marks). AreLast (set c.args.self.now.versions.items c.args.slot c.args.version) m) (sym c.publish.ensures.published)
    (one_more c.args.self.now.versions.items (published_by c.args.self.now.writer) c.args.slot c.args.version (subst (λ (n : ℕ). c.args.slot < n) (sym c.args.self.now.count ∙ c.args.self.now.versions.ok.0) c.requires.slot) c.args.self.now.are_last)

pub invariant_of-self-clause-ended : goal.invariant_of-self-clause-ended
invariant_of-self-clause-ended c = subst (λ (m : Marks). last m 64 ≤ 1) (sym c.publish.ensures.published) (end_stays (published_by c.args.self.now.writer) c.args.slot c.args.version c.requires.slot c.args.self.now.ended)
