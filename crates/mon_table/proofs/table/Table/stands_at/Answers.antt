use Rattle.mon_table.proofs.Tabling.{stands-there, stands-nowhere}
use Rattle.mon_table.proofs.table.Table.stands_at.Goals as goal

pub returns-then-place-self-clause-value : goal.returns-then-place-self-clause-value
returns-then-place-self-clause-value c =
    stands-there c.effective.result c.args.m.now c.args.priority c.args.place c.self.inside.count c.self.inside.chunks.items c.deref.result.now c.args.self.now c.rule_at.result.now c.has_identity.result
    c.effective.ensures c.deref.ensures.value c.self.view_is c.self.invariant.counted c.if-place-self.true c.rule_at.ensures c.has_identity.ensures

pub returns-else-place-self-clause-value : goal.returns-else-place-self-clause-value
returns-else-place-self-clause-value c =
    stands-nowhere c.args.m.now c.args.priority c.args.place c.self.inside.count c.self.inside.chunks.items c.args.self.now c.self.view_is c.self.invariant.counted c.if-place-self.false
