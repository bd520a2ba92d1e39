use Rattle.mon_text.proofs.Spelling.{digits_next}
use Rattle.mon_text.proofs.numbers.digits_len.Goals as goal

pub loop-i-preserved : goal.loop-i-preserved
loop-i-preserved c = digits_next c.args.bytes.now c.loop-i.i c.loop-i-test.true c.loop-i.invariant c.if-byte-lt48.false c.if-byte-gt57.false
