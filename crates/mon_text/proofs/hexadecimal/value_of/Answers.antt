use Rattle.std.proofs.Common.{◌≡◌, ℕ, sym, subst}
use Rattle.std.specs.Prelude.{slice_index}
use Rattle.mon_text.specs.declared.hexadecimal.TheConstants.{VALUES}
use Rattle.mon_text.specs.Hex.{digit_of, digit_in}
use Rattle.mon_text.proofs.Valuing.{value_is}
use Rattle.mon_text.proofs.hexadecimal.value_of.Goals as goal

pub returns : goal.returns
returns c = subst (λ (n : ℕ). digit_of c.args.digit ≡ digit_in (slice_index VALUES n)) (sym c.from.ensures) (value_is c.args.digit c.ranges.digit.fits)
