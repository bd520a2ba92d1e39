-- Lists of numbers that strictly ascend: VLAN ids and datapath ids.
use Rattle.std.specs.Prelude.{ℕ, suc, ◌≤◌, ◌-◌, ◌^◌, Bool, nat_le, ◌&&◌, List, [], ◌∷◌}

-- numbers from low to high, each above the one before it
abbrev pub Ascends : ℕ → ℕ → List ℕ → Type 0
Ascends low high [] = Unit {0}
Ascends low high (x ∷ xs) = (low ≤ x) × (x ≤ high) × Ascends (suc x) high xs

-- the last VLAN id that a tag may bear (IEEE 802.1Q: 0 and 4095 are reserved)
abbrev pub LAST_VID : ℕ
LAST_VID = 4094

-- VLAN ids that a tag may bear, each above the one before it
abbrev pub AreVids : List ℕ → Type 0
AreVids vids = Ascends 1 LAST_VID vids

-- datapath ids, each above the one before it
abbrev pub AreDatapaths : List ℕ → Type 0
AreDatapaths datapaths = Ascends 0 (2 ^ 64 - 1) datapaths

-- the least number that may follow: low itself after none, else one above the last
abbrev pub next : ℕ → List ℕ → ℕ
next low [] = low
next low (x ∷ xs) = next (suc x) xs

-- a number may follow: it is at least the next and at most the highest
abbrev pub may_follow : ℕ → ℕ → List ℕ → ℕ → Bool
may_follow low high xs x = nat_le (next low xs) x && nat_le x high
