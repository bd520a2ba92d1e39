-- The outputs and notes of a run as they are kept: their text, and for each the number of inputs before it, the number that
-- its line begins with, and the place of its digits in the text.
use Rattle.std.specs.Prelude.{ℕ, ◌≡◌, ◌+◌, ◌*◌, ◌≤◌, List, [], ◌∷◌, ◌++◌, length, take, drop, Option, Some, None}
use Rattle.mon_world.specs.declared.history.Entry.{Entry}
use Rattle.mon_world.specs.declared.history.Entry.TheVariants.{Noted, Put, End}
use Rattle.mon_trace.specs.declared.outputs.Output.{Output}
use Rattle.mon_trace.specs.declared.outputs.Output.TheVariants.{Frame, Closing, Told}
use Rattle.mon_text.specs.Hex.{unhex}
use Rattle.mon_trace.specs.Run.{line_of}

-- an entry that came after so many inputs, and the number of its line
pub record Placed : Type 0 where
  pub after : ℕ
  pub number : ℕ
  pub entry : Entry

abbrev pub bytes_of : Option (List ℕ) → List ℕ
bytes_of None = []
bytes_of (Some bytes) = bytes

-- the bytes whose digits begin at a place of the text
abbrev pub frame_at : List ℕ → ℕ → ℕ → List ℕ
frame_at text start size = bytes_of (unhex (take (2 * size) (drop start text)))

-- the entry of a place
abbrev pub entry_at : List ℕ → Output → Placed
entry_at text (Frame to lost size after number session start) = record { after = after; number = number; entry = Put session to (frame_at text start size) lost }
entry_at text (Closing after number session) = record { after = after; number = number; entry = End session }
entry_at text (Told after number note) = record { after = after; number = number; entry = Noted note.value }

abbrev pub entries_in : List ℕ → List Output → List Placed
entries_in text [] = []
entries_in text (place ∷ places) = entry_at text place ∷ entries_in text places

-- the digits stand within so many bytes
abbrev pub IsIn : ℕ → Output → Type 0
IsIn total (Frame to lost size after number session start) = start + 2 * size ≤ total
IsIn total (Closing after number session) = Unit {0}
IsIn total (Told after number note) = Unit {0}

abbrev pub AllIn : ℕ → List Output → Type 0
AllIn total [] = Unit {0}
AllIn total (place ∷ places) = IsIn total place × AllIn total places

-- behind any text of so many bytes, the line has the entry at the place
abbrev pub IsPlaceIn : ℕ → List ℕ → Placed → Output → Type 0
IsPlaceIn before line placed place =
    (text : List ℕ) → length text ≡ before → (entry_at (text ++ line) place ≡ placed) × IsIn (length (text ++ line)) place

-- the lines of entries, the newest first
abbrev pub lines_text : List Placed → List ℕ
lines_text [] = []
lines_text (placed ∷ others) = lines_text others ++ line_of placed.number placed.entry
