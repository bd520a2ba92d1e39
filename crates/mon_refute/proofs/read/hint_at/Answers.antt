use Rattle.std.proofs.Common.{ℕ}
use Rattle.mon_refute.specs.Text.{FitsHint}
use Rattle.mon_refute.specs.Reading.{hint_word}
use Rattle.mon_refute.proofs.WordKinds.{hint_fits, hint_same}
use Rattle.mon_refute.proofs.Items.{no_item}
use Rattle.mon_refute.proofs.read.hint_at.Goals as goal

pub returns-in-None : goal.returns-in-None
returns-in-None c = no_item ℕ hint_word FitsHint hint_fits hint_same c.args.bytes.now c.in-Some.rest.now c.in-Some.w c.in-Some.ensures c.in-None.ensures
