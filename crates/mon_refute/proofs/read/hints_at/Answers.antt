use Rattle.std.proofs.Common.{ℕ}
use Rattle.mon_refute.specs.Text.{FitsHint}
use Rattle.mon_refute.specs.Reading.{hint_word}
use Rattle.mon_refute.proofs.WordKinds.{hint_fits, hint_same}
use Rattle.mon_refute.proofs.Items.{list_none}
use Rattle.mon_refute.proofs.read.hints_at.Goals as goal

pub returns-in_default : goal.returns-in_default
returns-in_default c = list_none ℕ hint_word FitsHint hint_fits hint_same c.args.bytes.now c.loop-item.hints c.loop-item.rest.now c.loop-item.invariant c.in_default.ensures
