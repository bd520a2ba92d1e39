-- What the words of a board and the views of its seats keep, whoever takes the next step.
use Rattle.std.specs.Prelude.{◌≡◌, ℕ, Bool, true, ◌≤◌, List, slice_index, length}
use mathlib.Core.Option.{some}
use lib.ListN.{get_elem?}
use Rattle.atomic_table.specs.Table.{State}
use Rattle.mon_board.specs.declared.rule.View.{View}
use Rattle.mon_board.specs.Versions.{Marks, Has, last, Published}

abbrev pub view : Bool → Marks → Marks → View
view writes published seen = record { writes = writes; published = published; seen = seen }

-- what a seat knows fits the list of all that was published: only the writer writes, and knows all of it; what was seen was
-- published, and is not above the slot's last version
abbrev pub Fits : Marks → ℕ → ℕ → View → Type 0
Fits log writer seat v =
    (v.writes ≡ true → (seat ≡ writer) × (v.published ≡ log))
    × ((slot version : ℕ) → Has v.seen slot version → Published log slot version × (version ≤ last log slot))

-- one seat writes, and each word is the last version that it published
abbrev pub IsKept : List ℕ → List View → Type 0
IsKept words views =
    (writer : ℕ) × (log : Marks)
    × ((slot : ℕ) → slice_index words slot ≡ last log slot)
    × ((seat : ℕ) (v : View) → get_elem? views seat ≡ some v → Fits log writer seat v)

-- the rule of a board of this many slots
abbrev pub Holds : ℕ → State (Unit {0}) View → Type 0
Holds slots s = (length s.words ≡ slots) × IsKept s.words s.views
