use Rattle.std.proofs.Common.{subst, sym, rules}
use Rattle.std.specs.Str.Parse.{AllDigits}
use Rattle.mon_text.specs.Numbers.{NoDigit}
use Rattle.mon_text.proofs.Spelling.{number_found, number_none, split_is}
use Rattle.mon_text.proofs.numbers.spelled_at.Goals as goal

pub returns-then-not-is_plain : goal.returns-then-not-is_plain
returns-then-not-is_plain c =
    let s = c.split_at.ensures in
    number_none c.args.bytes.now c.split_at.result.0.now c.split_at.result.1.now (split_is _ _ _ _ s.front s.back)
    (subst (AllDigits 10) (sym s.front) c.digits_len.ensures.digits) (subst NoDigit (sym s.back) c.digits_len.ensures.ends) (λ p. absurd (c.if-not-is_plain.ensures p))

pub returns-in-None : goal.returns-in-None
returns-in-None c =
    let s = c.split_at.ensures in
    number_none c.args.bytes.now c.split_at.result.0.now c.split_at.result.1.now (split_is _ _ _ _ s.front s.back)
    (subst (AllDigits 10) (sym s.front) c.digits_len.ensures.digits) (subst NoDigit (sym s.back) c.digits_len.ensures.ends) (λ p. c.in-None.ensures)

pub returns-in-Some : goal.returns-in-Some
returns-in-Some c =
    let s = c.split_at.ensures in
    number_found c.args.bytes.now c.split_at.result.0.now c.split_at.result.1.now _ (split_is _ _ _ _ s.front s.back)
    (subst (AllDigits 10) (sym s.front) c.digits_len.ensures.digits) (subst NoDigit (sym s.back) c.digits_len.ensures.ends) c.if-not-is_plain.ensures c.in-Some.ensures (search rules)
