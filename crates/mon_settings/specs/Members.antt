-- The members of the settings that are numbers or addresses.
use Rattle.std.specs.Prelude.{ℕ, nat_le, ◌&&◌, if◌then◌else◌, List, ◌∷◌, ◌++◌, decimal, Option, Some, None, option_and_then, Result, Ok, Err}
use Rattle.serde_json.specs.Data.{Data}
use Rattle.serde_json.specs.Find.{get, as_number, as_u64, as_str}
use Rattle.mon_settings.specs.declared.address.Address.{Address}
use Rattle.mon_settings.specs.Texts.{address_of}

-- what a value says, or the path of the wrong one
abbrev pub or_bad : {A : Type 0} → List ℕ → Option A → Result A (List ℕ)
or_bad path None = Err path
or_bad path (Some x) = Ok x

-- the first wrong path of two steps, else what the second says
abbrev pub and_then : {A B : Type 0} → Result A (List ℕ) → (A → Result B (List ℕ)) → Result B (List ℕ)
and_then (Err path) next = Err path
and_then (Ok x) next = next x

-- the path of an element: its member, a slash (47) and its place from 0
abbrev pub element_path : List ℕ → ℕ → List ℕ
element_path name place = name ++ 47 ∷ decimal place

-- a number, where it is from low to high
abbrev pub within : ℕ → ℕ → ℕ → Option ℕ
within low high n = if nat_le low n && nat_le n high then Some n else None

-- a whole number from low to high: one with a fraction or an exponent is none
abbrev pub number_in : ℕ → ℕ → Data → Option ℕ
number_in low high d = option_and_then (within low high) (option_and_then as_u64 (as_number d))

-- the member of this name, where it is such a number
abbrev pub number_member : List ℕ → ℕ → ℕ → Data → Result ℕ (List ℕ)
number_member name low high d = or_bad name (option_and_then (number_in low high) (get name d))

-- the member of this name, where it is a text that is an address
abbrev pub address_member : List ℕ → Data → Result Address (List ℕ)
address_member name d = or_bad name (option_and_then address_of (option_and_then as_str (get name d)))
