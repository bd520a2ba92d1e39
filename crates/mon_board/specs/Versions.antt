-- Versions by slot, as a list of pairs of a slot and a version, oldest first.
use Rattle.std.specs.Prelude.{◌≡◌, ℕ, Bool, true, false, ◌&&◌, ◌||◌, ◌≤◌, ◌==◌, if◌then◌else◌, List, [], ◌∷◌, ◌⊎◌}

abbrev pub Marks : Type 0
Marks = List (ℕ × ℕ)

-- the list has this version at this slot
abbrev pub has : Marks → ℕ → ℕ → Bool
has [] slot version = false
has (p ∷ ps) slot version = (p.0 == slot && p.1 == version) || has ps slot version

abbrev pub Has : Marks → ℕ → ℕ → Type 0
Has ps slot version = has ps slot version ≡ true

-- the last version at this slot, and where there is none the one given
abbrev pub last_from : ℕ → Marks → ℕ → ℕ
last_from version [] slot = version
last_from version (p ∷ ps) slot = last_from (if p.0 == slot then p.1 else version) ps slot

-- the last version at this slot, and 0 where there is none
abbrev pub last : Marks → ℕ → ℕ
last ps slot = last_from 0 ps slot

-- it was published at this slot, or is the 0 of the start
abbrev pub Published : Marks → ℕ → ℕ → Type 0
Published ps slot version = (version ≡ 0) ⊎ Has ps slot version

-- each version that was seen was published at its slot
abbrev pub AllPublished : Marks → Marks → Type 0
AllPublished published seen = (slot version : ℕ) → Has seen slot version → Published published slot version

-- no version that was seen at this slot is above this one
abbrev pub NoneAbove : Marks → ℕ → ℕ → Type 0
NoneAbove seen slot version = (old : ℕ) → Has seen slot old → old ≤ version
