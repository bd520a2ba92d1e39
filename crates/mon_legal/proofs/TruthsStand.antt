-- The answer is true where its note stands.
use Rattle.std.specs.Prelude.{None, refl}
use Rattle.mon_shows.specs.declared.target.Target.TheVariants as target
use Rattle.mon_legal.specs.Truths.{AnswersAreTrue}
use Rattle.mon_legal.specs.Story.{run, emission, rule_of_add, probe_out, the_ordinary_use}
use Rattle.mon_legal.proofs.Computed.{compared}

pub stands : AnswersAreTrue run the_ordinary_use
unfolding compared
stands = (tt, tt, (tt, tt, (tt, tt, (tt, tt, (tt, tt, (tt, tt, (tt, tt, (tt, (1, probe_out, record { target = target.Put rule_of_add None; asked = refl; near = record { port = 1; switch = 2; far_port = 1; tag = 101 }; linked = refl; there = refl; bytes = refl; separating = refl }), (tt, record { first = refl; is_true = (emission, (1, probe_out, record { target = target.Put rule_of_add None; asked = refl; near = record { port = 1; switch = 2; far_port = 1; tag = 101 }; linked = refl; there = refl; bytes = refl; separating = refl })) }, (tt, tt, (tt, tt, (tt, tt, (tt, tt, (tt, tt, (tt, tt, (tt, tt, (tt, tt, (tt, tt, (tt, tt, (tt, tt, (tt, tt, (tt, tt, (tt, tt, (tt, tt, (tt, tt, (tt, tt, (tt, tt, (tt, tt, (tt, tt, (tt, tt, (tt, tt, (tt, tt, (tt, tt, (tt, tt, (tt, tt, (tt, tt, (tt, tt, (tt, tt, (tt, tt, (tt, tt, (tt, tt, (tt, tt, (tt, tt, (tt, tt, (tt, tt, (tt, tt, (tt, tt, (tt, tt, (tt, tt, (tt, tt, (tt, tt, (tt, tt, (tt, tt, (tt, tt, (tt, tt, (tt, tt, (tt, tt, (tt, tt, (tt, tt, (tt, tt, (tt, tt, (tt, tt, (tt, tt, (tt, tt, (tt, tt, (tt, tt, (tt, tt, tt)))))))))))))))))))))))))))))))))))))))))))))))))))))))))))))))))))
