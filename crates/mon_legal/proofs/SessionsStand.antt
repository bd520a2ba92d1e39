-- Sessions last.
use Rattle.std.specs.Prelude.{refl}
use Rattle.std.proofs.Common.{arith}
use Rattle.mon_legal.specs.Lasting.{SessionsLast}
use Rattle.mon_legal.specs.Story.{run, the_ordinary_use}
use Rattle.mon_legal.proofs.Computed.{computed}

pub stands : SessionsLast run the_ordinary_use
unfolding computed
stands = (record { losses = (refl, (refl, (refl, tt))); few = omega arith }, record { ends = tt; closed = refl; armed = refl; silent = tt }, (tt, record { ends = tt; closed = refl; armed = refl; silent = refl }, (tt, record { ends = tt; closed = refl; armed = refl; silent = refl }, (tt, record { ends = tt; closed = refl; armed = refl; silent = refl }, (tt, record { ends = tt; closed = refl; armed = refl; silent = refl }, (record { losses = (refl, (refl, (refl, tt))); few = omega arith }, record { ends = tt; closed = refl; armed = refl; silent = tt }, (tt, record { ends = tt; closed = refl; armed = refl; silent = refl }, (tt, record { ends = tt; closed = refl; armed = refl; silent = tt }, (record { losses = (refl, (refl, (refl, tt))); few = omega arith }, record { ends = tt; closed = refl; armed = refl; silent = tt }, (record { losses = (refl, (refl, (refl, tt))); few = omega arith }, record { ends = tt; closed = refl; armed = refl; silent = tt }, (tt, record { ends = tt; closed = refl; armed = refl; silent = refl }, (record { losses = (refl, (refl, (refl, tt))); few = omega arith }, record { ends = tt; closed = refl; armed = refl; silent = tt }, (tt, record { ends = tt; closed = refl; armed = refl; silent = refl }, (tt, record { ends = tt; closed = refl; armed = refl; silent = refl }, (tt, record { ends = tt; closed = refl; armed = refl; silent = refl }, (tt, record { ends = tt; closed = refl; armed = refl; silent = refl }, (tt, record { ends = tt; closed = refl; armed = refl; silent = refl }, (tt, record { ends = tt; closed = refl; armed = refl; silent = refl }, (tt, record { ends = tt; closed = refl; armed = refl; silent = refl }, (tt, record { ends = tt; closed = refl; armed = refl; silent = refl }, (tt, record { ends = tt; closed = refl; armed = refl; silent = refl }, (record { losses = (refl, (refl, (refl, tt))); few = omega arith }, record { ends = tt; closed = refl; armed = refl; silent = tt }, (tt, record { ends = tt; closed = refl; armed = refl; silent = refl }, (tt, record { ends = tt; closed = refl; armed = refl; silent = refl }, (record { losses = (refl, (refl, (refl, tt))); few = omega arith }, record { ends = tt; closed = refl; armed = refl; silent = tt }, (tt, record { ends = tt; closed = refl; armed = refl; silent = refl }, (tt, record { ends = tt; closed = refl; armed = refl; silent = refl }, (record { losses = (refl, (refl, (refl, tt))); few = omega arith }, record { ends = tt; closed = refl; armed = refl; silent = tt }, (tt, record { ends = tt; closed = refl; armed = refl; silent = refl }, (tt, record { ends = tt; closed = refl; armed = refl; silent = refl }, (record { losses = (refl, (refl, (refl, tt))); few = omega arith }, record { ends = tt; closed = refl; armed = refl; silent = tt }, (tt, record { ends = tt; closed = refl; armed = refl; silent = refl }, (tt, record { ends = tt; closed = refl; armed = refl; silent = refl }, (tt, record { ends = tt; closed = refl; armed = refl; silent = refl }, (tt, record { ends = tt; closed = refl; armed = refl; silent = refl }, (tt, record { ends = tt; closed = refl; armed = refl; silent = refl }, (tt, record { ends = tt; closed = refl; armed = refl; silent = refl }, (record { losses = (refl, (refl, (refl, tt))); few = omega arith }, record { ends = tt; closed = refl; armed = refl; silent = tt }, (tt, record { ends = tt; closed = refl; armed = refl; silent = refl }, (tt, record { ends = tt; closed = refl; armed = refl; silent = refl }, (tt, record { ends = tt; closed = refl; armed = refl; silent = refl }, (tt, record { ends = tt; closed = refl; armed = refl; silent = refl }, (tt, record { ends = tt; closed = refl; armed = refl; silent = refl }, (tt, record { ends = tt; closed = refl; armed = refl; silent = refl }, (record { losses = (refl, (refl, (refl, tt))); few = omega arith }, record { ends = tt; closed = refl; armed = refl; silent = tt }, (tt, record { ends = tt; closed = refl; armed = refl; silent = refl }, (tt, record { ends = tt; closed = refl; armed = refl; silent = refl }, (tt, record { ends = tt; closed = refl; armed = refl; silent = refl }, (tt, record { ends = tt; closed = refl; armed = refl; silent = refl }, (tt, record { ends = tt; closed = refl; armed = refl; silent = refl }, (tt, record { ends = tt; closed = refl; armed = refl; silent = refl }, (record { losses = (refl, (refl, (refl, tt))); few = omega arith }, record { ends = tt; closed = refl; armed = refl; silent = tt }, (tt, record { ends = tt; closed = refl; armed = refl; silent = refl }, (tt, record { ends = tt; closed = refl; armed = refl; silent = refl }, (tt, record { ends = tt; closed = refl; armed = refl; silent = refl }, (record { losses = (refl, (refl, (refl, tt))); few = omega arith }, record { ends = tt; closed = refl; armed = refl; silent = tt }, (tt, record { ends = tt; closed = refl; armed = refl; silent = refl }, (tt, record { ends = tt; closed = refl; armed = refl; silent = refl }, (tt, record { ends = tt; closed = refl; armed = refl; silent = refl }, (record { losses = (refl, (refl, (refl, tt))); few = omega arith }, record { ends = tt; closed = refl; armed = refl; silent = tt }, (tt, record { ends = tt; closed = refl; armed = refl; silent = refl }, (tt, record { ends = tt; closed = refl; armed = refl; silent = refl }, (tt, record { ends = tt; closed = refl; armed = refl; silent = refl }, (record { losses = (refl, (refl, (refl, tt))); few = omega arith }, record { ends = tt; closed = refl; armed = refl; silent = tt }, (record { losses = (refl, (refl, tt)); few = omega arith }, record { ends = tt; closed = refl; armed = refl; silent = tt }, (record { losses = (refl, tt); few = omega arith }, record { ends = tt; closed = refl; armed = refl; silent = tt }, (record { losses = tt; few = omega arith }, record { ends = tt; closed = refl; armed = refl; silent = tt }, tt)))))))))))))))))))))))))))))))))))))))))))))))))))))))))))))))))))
