use Rattle.mon_table.proofs.Parting.{remove-one, first-read}
use Rattle.mon_table.proofs.chunks.remove_chunk.Goals as goal

pub returns-clause-rules : goal.returns-clause-rules
returns-clause-rules c = remove-one c.args.chunks.now.items c.remove.new.self.items c.args.at c.remove.ensures.items c.requires.one

pub returns-clause-old : goal.returns-clause-old
returns-clause-old c =
    first-read c.args.chunks.now.items c.args.at c.index.result.now c.deref.result.now c.in_ok-rule.rule c.requires.chunk c.index.ensures c.deref.ensures c.requires.one c.in_ok-rule.ensures
