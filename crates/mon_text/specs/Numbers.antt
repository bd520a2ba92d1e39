-- Decimal numbers at the front of a text: below 2^64, without leading zeros.
use Rattle.std.specs.Prelude.{◌≡◌, ℕ, ◌<◌, ◌^◌, Bool, false, true, not, ◌==◌, nat_lt, nat_le, ◌&&◌, if◌then◌else◌, List, [], ◌∷◌, ◌++◌, length, drop, Option, Some, None}
use Rattle.std.specs.Int.{IsInRange}
use Rattle.std.specs.Str.Parse.{digits_value}

-- no decimal digit comes next
abbrev pub NoDigit : List ℕ → Type 0
NoDigit [] = Unit {0}
NoDigit (b ∷ bs) = IsInRange 48 57 b → ⊥

-- the bytes are this text and then the rest, with which no number of the text goes on
pub record Front (bytes text rest : List ℕ) : Type 0 where
  pub is : bytes ≡ text ++ rest
  pub ends : NoDigit rest

-- the text of this item, which fits, stands at the front
abbrev pub FoundAt : {X : Type 0} → (X → List ℕ) → (X → Type 0) → List ℕ → X → List ℕ → Type 0
FoundAt text Fits bytes x rest = Fits x × Front bytes (text x) rest

-- the text of no item that fits stands at the front
abbrev pub NoneAt : {X : Type 0} → (X → List ℕ) → (X → Type 0) → List ℕ → Type 0
NoneAt {X} text Fits bytes = (x : X) (rest : List ℕ) → FoundAt text Fits bytes x rest → ⊥

abbrev pub FitsNumber : ℕ → Type 0
FitsNumber n = n < 2 ^ 64

-- digits, of which the first is 0 only where it is the only one
abbrev pub IsPlain : List ℕ → Type 0
IsPlain [] = ⊥
IsPlain (d ∷ ds) = d ≡ 48 → ds ≡ []

abbrev pub is_plain : List ℕ → Bool
is_plain [] = false
is_plain (d ∷ []) = true
is_plain (d ∷ e ∷ ds) = not (d == 48)

-- the decimal digits at the front
abbrev pub front_digits : List ℕ → List ℕ
front_digits [] = []
front_digits (b ∷ bs) = if nat_le 48 b && nat_le b 57 then b ∷ front_digits bs else []

-- the number of the digits at the front, and the text behind them
unfoldable pub number_in : List ℕ → Option (ℕ × List ℕ)
number_in bytes =
    let digits = front_digits bytes in
    if is_plain digits && nat_lt (digits_value 10 digits) (2 ^ 64) then Some (digits_value 10 digits, drop (length digits) bytes) else None
