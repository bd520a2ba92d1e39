use Rattle.std.proofs.Common.{[], rules}
use Rattle.mon_plain.proofs.Looks.{all_on_more}
use Rattle.mon_plain.proofs.pick.open_from.Goals as goal

pub loop-place-preserved : goal.loop-place-preserved
loop-place-preserved c z = all_on_more c.args.marks.now c.args.f.now.clauses c.loop-place.place (search rules) (c.loop-place.invariant z) (c.in_default.ensures [])
