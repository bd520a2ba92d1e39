-- The probe separates.
use Rattle.std.specs.Prelude.{None, refl}
use Rattle.mon_shows.specs.declared.target.Target.TheVariants as target
use Rattle.mon_legal.specs.Probing.{ProbesSeparate}
use Rattle.mon_legal.specs.Story.{run, rule_of_add, the_ordinary_use}
use Rattle.mon_legal.proofs.Computed.{compared}

pub stands : ProbesSeparate run the_ordinary_use
unfolding compared
stands = (tt, (tt, tt), (tt, (tt, tt), (tt, (tt, tt), (tt, (tt, tt), (tt, (tt, tt), (tt, (tt, tt), (tt, (tt, (refl, record { number = 1; session = 0; edit = 1; version = 4 }, refl, refl, record { target = target.Put rule_of_add None; asked = refl; near = record { port = 1; switch = 2; far_port = 1; tag = 101 }; linked = refl; there = refl; bytes = refl; separating = refl })), (tt, (((refl, refl, refl), refl), tt), (tt, (tt, tt), (tt, (tt, tt), (tt, (tt, tt), (tt, (tt, tt), (tt, (tt, tt), (tt, (tt, tt), (tt, (tt, tt), (tt, (tt, tt), (tt, (tt, tt), (tt, (tt, tt), (tt, (tt, tt), (tt, (tt, tt), (tt, (tt, tt), (tt, (tt, tt), (tt, (tt, tt), (tt, (tt, tt), (tt, (tt, tt), (tt, (tt, tt), (tt, (tt, tt), (tt, (tt, tt), (tt, (tt, tt), (tt, (tt, tt), (tt, (tt, tt), (tt, (tt, tt), (tt, (tt, tt), (tt, (tt, tt), (tt, (tt, tt), (tt, (tt, tt), (tt, (tt, tt), (tt, (tt, tt), (tt, (tt, tt), (tt, (tt, tt), (tt, (tt, tt), (tt, (tt, tt), (tt, (tt, tt), (tt, (tt, tt), (tt, (tt, tt), (tt, (tt, tt), (tt, (tt, tt), (tt, (tt, tt), (tt, (tt, tt), (tt, (tt, tt), (tt, (tt, tt), (tt, (tt, tt), (tt, (tt, tt), (tt, (tt, tt), (tt, (tt, tt), (tt, (tt, tt), (tt, (tt, tt), (tt, (tt, tt), (tt, (tt, tt), (tt, (tt, tt), (tt, (tt, tt), (tt, (tt, tt), (tt, (tt, tt), (tt, (tt, tt), (tt, (tt, tt), (tt, (tt, tt), (tt, (tt, tt), tt)))))))))))))))))))))))))))))))))))))))))))))))))))))))))))))))))))
