use Rattle.std.proofs.Common.{[], rules}
use Rattle.mon_trail.proofs.Looks.{all_on_more}
use Rattle.mon_trail.proofs.pick.pick_open.Goals as goal

pub loop-place-preserved : goal.loop-place-preserved
loop-place-preserved c = all_on_more c.args.marks.now c.args.f.now.clauses c.loop-place.place (search rules) c.loop-place.invariant (c.in_default.ensures [])
