use Rattle.std.proofs.Common.{rules, ◌∙◌}
use Rattle.mon_board.specs.Seats.{seen_by}
use Rattle.mon_pool.proofs.Marking.{end_snoc, saw_end}
use Rattle.mon_pool.proofs.pool.Pool.has_ended.Goals as goal

pub invariant_of-pass-clause-saw : goal.invariant_of-pass-clause-saw
invariant_of-pass-clause-saw c = end_snoc _ (seen_by c.args.pass.now.looker) c.look.result c.look.ensures.seen ∙ c.args.pass.now.saw

pub returns-then-look-eq1-clause-ended : goal.returns-then-look-eq1-clause-ended
returns-then-look-eq1-clause-ended c = saw_end _ (seen_by c.args.pass.now.looker) c.look.result c.look.ensures.seen (search rules)
