-- No tick came.
use Rattle.std.specs.Prelude.{refl}
use Rattle.mon_legal.specs.Ticking.{TicksAreMet}
use Rattle.mon_legal.specs.Story.{run, armed, the_ordinary_use}
use Rattle.mon_legal.proofs.Computed.{computed}

pub until_armed : TicksAreMet run armed
unfolding computed
until_armed = (tt, refl, (tt, refl, (tt, refl, (tt, refl, (tt, refl, (tt, refl, (tt, refl, (tt, refl, (tt, refl, (tt, refl, (tt, refl, (tt, refl, (tt, refl, (tt, refl, (tt, refl, (tt, refl, (tt, refl, (tt, refl, (tt, refl, (tt, refl, (tt, refl, (tt, refl, (tt, refl, (tt, refl, (tt, refl, (tt, refl, (tt, refl, (tt, refl, (tt, refl, (tt, refl, (tt, refl, (tt, refl, (tt, refl, (tt, refl, (tt, refl, (tt, refl, (tt, refl, (tt, refl, (tt, refl, (tt, refl, (tt, refl, (tt, refl, (tt, refl, (tt, refl, (tt, refl, tt)))))))))))))))))))))))))))))))))))))))))))))

pub stands : TicksAreMet run the_ordinary_use
unfolding computed
stands = (tt, refl, (tt, refl, (tt, refl, (tt, refl, (tt, refl, (tt, refl, (tt, refl, (tt, refl, (tt, refl, (tt, refl, (tt, refl, (tt, refl, (tt, refl, (tt, refl, (tt, refl, (tt, refl, (tt, refl, (tt, refl, (tt, refl, (tt, refl, (tt, refl, (tt, refl, until_armed))))))))))))))))))))))
