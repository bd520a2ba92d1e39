use Rattle.std.proofs.Common.{ap, ◌∙◌, ◌+◌, ◌*◌, ℕ}
use Rattle.mon_header.proofs.Bits.{number-step, flag-byte}
use Rattle.mon_header.proofs.places.number.Goals as goal

pub loop-b-preserved : goal.loop-b-preserved
loop-b-preserved c =
    number-step c.args.bits.now c.loop-b.b-index c.loop-b.n _ _ c.loop-b-test.true c.loop-b.invariant.0 c.loop-b.invariant.1
    (ap (λ (x : ℕ). 2 * c.loop-b.n + x) (c.from.ensures ∙ flag-byte _))
