use Rattle.std.proofs.Common.{sym, ◌∙◌, arith}
use Rattle.mon_shows.proofs.Looking.{none-below}
use Rattle.mon_shows.proofs.lookup.any_at.Goals as goal

pub returns-then-own-rank : goal.returns-then-own-rank
returns-then-own-rank c =
    sym (none-below c.args.h.now c.args.rank c.args.u.now c.loop-place.place c.rule-rule.result (omega arith) c.rule-rule.ensures c.keeps.ensures.table.order (omega arith))
    ∙ c.loop-place.invariant
