-- Nothing is reported as one that no probe is to show.
use Rattle.std.specs.Prelude.{refl}
use Rattle.mon_legal.specs.Unmonitorable.{UnmonitorableAreReported}
use Rattle.mon_legal.specs.Story.{run, the_ordinary_use}
use Rattle.mon_legal.proofs.Computed.{computed}

pub stands : UnmonitorableAreReported run the_ordinary_use
unfolding computed
stands = ((refl, (refl, (refl, tt))), record { answer = refl; probe = tt; passing = refl; closing = refl; barrier = tt }, (tt, record { answer = refl; probe = tt; passing = refl; closing = refl; barrier = tt }, (tt, record { answer = refl; probe = tt; passing = refl; closing = refl; barrier = tt }, (tt, record { answer = refl; probe = tt; passing = refl; closing = refl; barrier = tt }, (tt, record { answer = refl; probe = tt; passing = refl; closing = refl; barrier = tt }, ((refl, (refl, (refl, tt))), record { answer = refl; probe = tt; passing = refl; closing = refl; barrier = tt }, (tt, record { answer = refl; probe = tt; passing = refl; closing = refl; barrier = tt }, (tt, record { answer = refl; probe = refl; passing = refl; closing = refl; barrier = tt }, ((refl, (refl, (refl, tt))), record { answer = refl; probe = tt; passing = refl; closing = refl; barrier = tt }, ((refl, (refl, (refl, tt))), record { answer = refl; probe = tt; passing = refl; closing = refl; barrier = tt }, (tt, record { answer = refl; probe = tt; passing = refl; closing = refl; barrier = tt }, ((refl, (refl, (refl, tt))), record { answer = refl; probe = tt; passing = refl; closing = refl; barrier = tt }, (tt, record { answer = refl; probe = tt; passing = refl; closing = refl; barrier = tt }, (tt, record { answer = refl; probe = tt; passing = refl; closing = refl; barrier = tt }, (tt, record { answer = refl; probe = tt; passing = refl; closing = refl; barrier = tt }, (tt, record { answer = refl; probe = tt; passing = refl; closing = refl; barrier = tt }, (tt, record { answer = refl; probe = tt; passing = refl; closing = refl; barrier = tt }, (tt, record { answer = refl; probe = tt; passing = refl; closing = refl; barrier = tt }, (tt, record { answer = refl; probe = tt; passing = refl; closing = refl; barrier = tt }, (tt, record { answer = refl; probe = tt; passing = refl; closing = refl; barrier = tt }, (tt, record { answer = refl; probe = tt; passing = refl; closing = refl; barrier = tt }, ((refl, (refl, (refl, tt))), record { answer = refl; probe = tt; passing = refl; closing = refl; barrier = tt }, (tt, record { answer = refl; probe = tt; passing = refl; closing = refl; barrier = tt }, (tt, record { answer = refl; probe = tt; passing = refl; closing = refl; barrier = tt }, ((refl, (refl, (refl, tt))), record { answer = refl; probe = tt; passing = refl; closing = refl; barrier = tt }, (tt, record { answer = refl; probe = tt; passing = refl; closing = refl; barrier = tt }, (tt, record { answer = refl; probe = tt; passing = refl; closing = refl; barrier = tt }, ((refl, (refl, (refl, tt))), record { answer = refl; probe = tt; passing = refl; closing = refl; barrier = tt }, (tt, record { answer = refl; probe = tt; passing = refl; closing = refl; barrier = tt }, (tt, record { answer = refl; probe = tt; passing = refl; closing = refl; barrier = tt }, ((refl, (refl, (refl, tt))), record { answer = refl; probe = tt; passing = refl; closing = refl; barrier = tt }, (tt, record { answer = refl; probe = tt; passing = refl; closing = refl; barrier = tt }, (tt, record { answer = refl; probe = tt; passing = refl; closing = refl; barrier = tt }, (tt, record { answer = refl; probe = tt; passing = refl; closing = refl; barrier = tt }, (tt, record { answer = refl; probe = tt; passing = refl; closing = refl; barrier = tt }, (tt, record { answer = refl; probe = tt; passing = refl; closing = refl; barrier = tt }, (tt, record { answer = refl; probe = tt; passing = refl; closing = refl; barrier = tt }, ((refl, (refl, (refl, tt))), record { answer = refl; probe = tt; passing = refl; closing = refl; barrier = tt }, (tt, record { answer = refl; probe = tt; passing = refl; closing = refl; barrier = tt }, (tt, record { answer = refl; probe = tt; passing = refl; closing = refl; barrier = tt }, (tt, record { answer = refl; probe = tt; passing = refl; closing = refl; barrier = tt }, (tt, record { answer = refl; probe = tt; passing = refl; closing = refl; barrier = tt }, (tt, record { answer = refl; probe = tt; passing = refl; closing = refl; barrier = tt }, (tt, record { answer = refl; probe = tt; passing = refl; closing = refl; barrier = tt }, ((refl, (refl, (refl, tt))), record { answer = refl; probe = tt; passing = refl; closing = refl; barrier = tt }, (tt, record { answer = refl; probe = tt; passing = refl; closing = refl; barrier = tt }, (tt, record { answer = refl; probe = tt; passing = refl; closing = refl; barrier = tt }, (tt, record { answer = refl; probe = tt; passing = refl; closing = refl; barrier = tt }, (tt, record { answer = refl; probe = tt; passing = refl; closing = refl; barrier = tt }, (tt, record { answer = refl; probe = tt; passing = refl; closing = refl; barrier = tt }, (tt, record { answer = refl; probe = tt; passing = refl; closing = refl; barrier = tt }, ((refl, (refl, (refl, tt))), record { answer = refl; probe = tt; passing = refl; closing = refl; barrier = tt }, (tt, record { answer = refl; probe = tt; passing = refl; closing = refl; barrier = tt }, (tt, record { answer = refl; probe = tt; passing = refl; closing = refl; barrier = tt }, (tt, record { answer = refl; probe = tt; passing = refl; closing = refl; barrier = tt }, ((refl, (refl, (refl, tt))), record { answer = refl; probe = tt; passing = refl; closing = refl; barrier = tt }, (tt, record { answer = refl; probe = tt; passing = refl; closing = refl; barrier = tt }, (tt, record { answer = refl; probe = tt; passing = refl; closing = refl; barrier = tt }, (tt, record { answer = refl; probe = tt; passing = refl; closing = refl; barrier = tt }, ((refl, (refl, (refl, tt))), record { answer = refl; probe = tt; passing = refl; closing = refl; barrier = tt }, (tt, record { answer = refl; probe = tt; passing = refl; closing = refl; barrier = tt }, (tt, record { answer = refl; probe = tt; passing = refl; closing = refl; barrier = tt }, (tt, record { answer = refl; probe = tt; passing = refl; closing = refl; barrier = tt }, ((refl, (refl, (refl, tt))), record { answer = refl; probe = tt; passing = refl; closing = refl; barrier = tt }, ((refl, (refl, tt)), record { answer = refl; probe = tt; passing = refl; closing = refl; barrier = tt }, ((refl, tt), record { answer = refl; probe = tt; passing = refl; closing = refl; barrier = tt }, (tt, record { answer = refl; probe = tt; passing = refl; closing = refl; barrier = tt }, tt)))))))))))))))))))))))))))))))))))))))))))))))))))))))))))))))))))
