use Rattle.std.proofs.Common.{sym, arith}
use Rattle.mon_text.proofs.Pairs.{one_more}
use Rattle.mon_text.proofs.hexadecimal.read_digits.Goals as goal

pub loop-byte-preserved : goal.loop-byte-preserved
loop-byte-preserved c = one_more c.loop-byte.room c.loop-byte.rest.now c.in_ok-read.after.now c.loop-byte.byte-index c.in_ok-read.read _ (omega arith) (sym c.in_ok-read.ensures) c.loop-byte.invariant
