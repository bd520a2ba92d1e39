use Rattle.std.proofs.Common.{sym}
use Rattle.mon_table_file.proofs.Deciding.{not_vids}
use Rattle.mon_table_file.proofs.judging.vids_of.Goals as goal

pub returns-then-not-accepts : goal.returns-then-not-accepts
returns-then-not-accepts c = not_vids c.args.tags.now c.loop-tag.vids c.loop-tag.tag-index c.loop-tag-test.true c.loop-tag.invariant (sym c.if-not-accepts.ensures)
