-- The header that an assignment bears.
use Rattle.std.specs.Prelude.{◌≡◌, ℕ, zero, suc, ◌<◌, Bool, true, List, [], ◌∷◌, ◌++◌}
use Rattle.mon_header.specs.declared.header.Header.{Header}
use Rattle.mon_header.specs.Classes.{fits}
use Rattle.mon_header.specs.Places.{header_size, bit_at, header_of}

-- the numbers of the header fit their fields, and each of its bits is the value of its variable
pub record Bears (v : ℕ → Bool) (h : Header) : Type 0 where
  pub fit : fits h ≡ true
  pub each : (place : ℕ) → place < header_size → v place ≡ bit_at h place

-- the values of so many variables, from the first on
unfoldable pub first_values : ℕ → (ℕ → Bool) → List Bool
first_values zero v = []
first_values (suc count) v = first_values count v ++ v count ∷ []

-- the header whose bits are the values of the first variables
unfoldable pub borne : (ℕ → Bool) → Header
borne v = header_of (first_values header_size v)
