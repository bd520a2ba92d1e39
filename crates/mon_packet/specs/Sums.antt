-- The Internet checksum (RFC 791, 768, 792, 9293): the one's complement of the one's complement sum of 16-bit words.
use Rattle.std.specs.Prelude.{ℕ, ◌+◌, ◌*◌, ◌-◌, nat_lt, ◌==◌, if◌then◌else◌, List, [], ◌∷◌}

-- how many words 16 bits tell apart, and the word of ones alone, which is the other zero
abbrev pub WORDS : ℕ
WORDS = 65536

abbrev pub ALL_ONES : ℕ
ALL_ONES = 65535

-- the sum of two words; a carry out of the top is added at the bottom
abbrev pub plus : ℕ → ℕ → ℕ
plus a b = if nat_lt (a + b) WORDS then a + b else a + b - ALL_ONES

-- the words of bytes added to a sum, one after the other, each with its high byte first; a last byte alone is the high
-- one
abbrev pub sum_from : ℕ → List ℕ → ℕ
sum_from sum [] = sum
sum_from sum (high ∷ []) = plus sum (256 * high)
sum_from sum (high ∷ low ∷ rest) = sum_from (plus sum (256 * high + low)) rest

-- the sum of the words of bytes
abbrev pub sum_of : List ℕ → ℕ
sum_of bytes = sum_from 0 bytes

-- the checksum of bytes in which its own two are 0
abbrev pub checksum : List ℕ → ℕ
checksum bytes = ALL_ONES - sum_of bytes

-- in a datagram 0 says that there is no checksum, so the other zero is sent
abbrev pub not_zero : ℕ → ℕ
not_zero sum = if sum == 0 then ALL_ONES else sum
