use Rattle.std.proofs.Common.{◌≡◌, ◌-◌, length, take}
use Rattle.mon_text.specs.Parts.{bytes_in}
use Rattle.mon_text.proofs.Pairs.{onto}
use Rattle.mon_text.proofs.hexadecimal.read_digits.Given as goal

-- the bytes that were read, and those that still are
abbrev pub invariant-loop-byte : goal.invariant-loop-byte
invariant-loop-byte l = onto (take l.byte-index l.room) (bytes_in (length l.room - l.byte-index) l.rest) ≡ bytes_in (length l.fn.room) l.text
