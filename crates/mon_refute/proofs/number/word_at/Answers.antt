use Rattle.mon_refute.proofs.Words.{word_minus}
use Rattle.mon_refute.proofs.number.word_at.Goals as goal

pub returns-in-Some-behind : goal.returns-in-Some-behind
returns-in-Some-behind c = word_minus c.args.bytes.now c.in-Some.signed.now c.in-Some-behind.rest.now _ c.in-Some.ensures.found c.in-Some-behind.ensures.found c.signed_at-in-Some-behind.ensures
