use Rattle.std.proofs.Common.{sym, arith, ◌∙◌, ◌≤◌}
use Rattle.std.proofs.lemmas.Bool.{le-ltb}
use Rattle.mon_header.proofs.Bits.{no-bit}
use Rattle.mon_literals.proofs.run.has_bit.Goals as goal

pub returns-else-place-lt64 : goal.returns-else-place-lt64
returns-else-place-lt64 c =
    let high : 64 ≤ c.args.place = omega arith in
    le-ltb c.args.place 64 high ∙ sym (no-bit c.args.n c.args.place 64 (omega arith) high)
