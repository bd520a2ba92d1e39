use Rattle.std.proofs.Common.{arith, refl, ◌≤◌, ◌^◌, ◌*◌}
use Rattle.mon_text.proofs.Spelling.{digit_low, value_more, value_large, whole_value}
use Rattle.mon_text.proofs.numbers.value_of.Goals as goal

pub returns-in_default : goal.returns-in_default
returns-in_default c =
    let h : 2 ^ 64 ≤ c.loop-digit.value * 10 = omega (arith, c.in_default.ensures) in
    value_large c.args.digits.now c.loop-digit.digit-index c.loop-digit.value _ (2 ^ 64) c.loop-digit-test.true c.requires c.loop-digit.invariant refl (omega arith)

pub overflow_sub-digit : goal.overflow_sub-digit
overflow_sub-digit c = digit_low c.args.digits.now c.loop-digit.digit-index c.loop-digit-test.true c.requires

pub returns-in_default-checked_add : goal.returns-in_default-checked_add
returns-in_default-checked_add c =
    value_large c.args.digits.now c.loop-digit.digit-index c.loop-digit.value c.in-Some.tens (2 ^ 64) c.loop-digit-test.true c.requires c.loop-digit.invariant c.in-Some.ensures.1 (omega (arith, c.in_default-checked_add.ensures, c.from.ensures))

pub loop-digit-preserved : goal.loop-digit-preserved
loop-digit-preserved c =
    value_more c.args.digits.now c.loop-digit.digit-index c.loop-digit.value c.in-Some.tens _ c.loop-digit-test.true c.requires c.loop-digit.invariant c.in-Some.ensures.1 (omega (arith, c.in-Some-checked_add.ensures, c.from.ensures))

pub returns : goal.returns
returns c = whole_value c.args.digits.now c.loop-digit.digit-index c.loop-digit.value c.loop-digit-test.false c.loop-digit.invariant
