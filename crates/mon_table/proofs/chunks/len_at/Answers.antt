use Rattle.std.proofs.Common.{◌∙◌, length, sym, ap}
use Rattle.mon_table.proofs.Seeking.{read-chunk}
use Rattle.mon_table.proofs.chunks.len_at.Goals as goal

pub returns-clause-len : goal.returns-clause-len
returns-clause-len c = ap length (sym (read-chunk c.args.chunks.now c.args.at c.index-chunks-at.result c.rules.result.now c.requires c.index-chunks-at.is (c.rules.ensures.rules ∙ c.deref.ensures)))
