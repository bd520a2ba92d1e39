-- Bytes in lower hexadecimal digits.
use Rattle.std.specs.Prelude.{◌≡◌, ℕ, ◌<◌, ◌+◌, ◌-◌, ◌*◌, ◌/◌, ◌%◌, List, [], ◌∷◌, length, Option, Some, None, nat_lt, nat_le, ◌&&◌, if◌then◌else◌}

-- the digit of a number below 16
abbrev pub hex_digit : ℕ → ℕ
hex_digit d = if nat_lt d 10 then 48 + d else 87 + d

-- two digits a byte, the higher one first
abbrev pub hex : List ℕ → List ℕ
hex [] = []
hex (b ∷ bs) = hex_digit (b / 16) ∷ hex_digit (b % 16) ∷ hex bs

-- what a character says as a digit: 0 to 9, or a to f
unfoldable pub digit_of : ℕ → Option ℕ
digit_of c =
    if nat_le 48 c && nat_le c 57 then Some (c - 48)
    else (if nat_le 97 c && nat_le c 102 then Some (c - 87) else None)

-- a digit below 16, and none from 16 on
abbrev pub digit_in : ℕ → Option ℕ
digit_in value = if nat_lt value 16 then Some value else None

abbrev pub joined : Option ℕ → Option ℕ → Option ℕ
joined (Some high) (Some low) = Some (16 * high + low)
joined (Some high) None = None
joined None low = None

-- the byte of two digits
unfoldable pub byte_of : ℕ → ℕ → Option ℕ
byte_of a b = joined (digit_of a) (digit_of b)

abbrev pub with_byte : Option ℕ → Option (List ℕ) → Option (List ℕ)
with_byte (Some byte) (Some bs) = Some (byte ∷ bs)
with_byte (Some byte) None = None
with_byte None bs = None

-- the bytes of an even number of digits, none where one of them is no digit
abbrev pub unhex : List ℕ → Option (List ℕ)
unhex [] = Some []
unhex (a ∷ []) = None
unhex (a ∷ b ∷ cs) = with_byte (byte_of a b) (unhex cs)

-- each number is a byte
abbrev pub AllBytes : List ℕ → Type 0
AllBytes [] = Unit {0}
AllBytes (byte ∷ bytes) = (byte < 256) × AllBytes bytes

-- so many bytes
abbrev pub AreBytes : ℕ → List ℕ → Type 0
AreBytes n bytes = (length bytes ≡ n) × AllBytes bytes
