-- Everything comes in its order.
use Rattle.std.specs.Prelude.{false, refl}
use Rattle.mon_legal.specs.Passing.{FramesGoInOrder}
use Rattle.mon_legal.specs.Story.{run, emission, probe_out, armed, the_ordinary_use}
use Rattle.mon_legal.proofs.Computed.{computed}

pub until_armed : FramesGoInOrder run armed
unfolding computed
until_armed = (tt, refl, (tt, refl, (refl, refl, (tt, refl, (tt, refl, (refl, refl, (tt, refl, (tt, refl, (refl, refl, (tt, (false, refl), (tt, (false, refl), (tt, (false, refl), (tt, (false, refl), (tt, (false, refl), (tt, refl, (refl, refl, (tt, (false, refl), (tt, (false, refl), (tt, (false, refl), (tt, (false, refl), (tt, (false, refl), (tt, refl, (refl, refl, (tt, (false, refl), (tt, (false, refl), (tt, (false, refl), (tt, (false, refl), (tt, (false, refl), (tt, refl, (refl, refl, (tt, (false, refl), (tt, (false, refl), (tt, refl, (refl, refl, (tt, (false, refl), (tt, (false, refl), (tt, refl, (refl, refl, (tt, (false, refl), (tt, (false, refl), (tt, refl, (refl, refl, (refl, refl, (refl, refl, (refl, refl, tt)))))))))))))))))))))))))))))))))))))))))))))

pub stands : FramesGoInOrder run the_ordinary_use
unfolding computed
stands = (refl, refl, (tt, (false, refl), (tt, refl, (tt, refl, (tt, refl, (refl, refl, (tt, (1, probe_out, false, refl), (tt, (emission, refl), (refl, refl, (refl, refl, (tt, refl, (refl, refl, (tt, refl, (tt, (false, refl), (tt, refl, (tt, refl, (tt, refl, (tt, (false, refl), (tt, refl, (tt, refl, (tt, refl, (refl, refl, until_armed))))))))))))))))))))))
