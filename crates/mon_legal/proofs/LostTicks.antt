-- At the second tick the probe of a lost update goes out again, once, and at the third the update is reported as silent.
use Rattle.std.specs.Prelude.{ℕ, [], Contains, ◌<◌, refl}
use Rattle.std.proofs.Common.{arith}
use Rattle.mon_legal.specs.Ticking.{TicksAreMet}
use Rattle.mon_legal.specs.Story.{run, emission}
use Rattle.mon_legal.proofs.Samples.{out_2}
use Rattle.mon_legal.proofs.Computed.{computed}
use Rattle.mon_legal.proofs.LostRow as LostRow
use Rattle.mon_legal.proofs.TicksStand as TicksStand

no_member : (n : ℕ) → Contains [] n → ⊥
no_member n c = absurd (let l : c.0 < 0 = c.1 in omega arith)

ticks : TicksAreMet run LostRow.row
unfolding computed
ticks = (tt, (refl, (0, omega arith, refl), λ c. no_member 2 c), (((((0, omega arith, refl), tt), tt), ((tt, tt), ((tt, tt), tt))), tt, (tt, record { there = refl; due = (0, omega arith, refl); first = record { session = 1; frame = out_2; emission = emission }; sent_first = refl; to = refl; same = refl; once = λ c. no_member 2 c }, (((tt, tt), ((tt, tt), ((tt, tt), tt))), tt, (tt, refl, (tt, refl, (tt, refl, (tt, refl, (tt, refl, (tt, refl, (tt, refl, (tt, refl, (tt, refl, (tt, refl, (tt, refl, (tt, refl, (tt, refl, (tt, refl, (tt, refl, (tt, refl, (tt, refl, (tt, refl, (tt, refl, (tt, refl, (tt, refl, (tt, refl, (tt, refl, (tt, refl, (tt, refl, (tt, refl, (tt, refl, (tt, refl, (tt, refl, (tt, refl, (tt, refl, (tt, refl, TicksStand.until_armed))))))))))))))))))))))))))))))))))))
