-- What passes put into a queue, and what they took out of it.
use Rattle.std.specs.Prelude.{◌≡◌, ℕ, ◌+◌, ◌-◌, List, [], ◌∷◌, ◌++◌, map, length, take, drop}
use mathlib.Core.Option.{some}
use lib.ListN.{get_elem?}
use Rattle.mon_list.specs.Has.{Has}
use Rattle.mon_tally.specs.declared.counted.Tally.{Tally}

module _ {P : Type 0} where
  -- the weights of the elements, added up
  abbrev pub weigh : (P → ℕ) → List P → ℕ
  weigh h [] = 0
  weigh h (x ∷ xs) = h x + weigh h xs

  -- both have each element as often, however the elements are weighed
  abbrev pub AsOften : List P → List P → Type 0
  AsOften xs ys = (h : P → ℕ) → weigh h xs ≡ weigh h ys

  -- the lists have no element in common
  abbrev pub Apart : List P → List P → Type 0
  Apart xs ys = (x : P) → Has xs x → Has ys x → ⊥

  abbrev pub tally : ℕ → List P → List P → List P → Tally P
  tally parts put taken dropped = record { parts = parts; put = put; taken = taken; dropped = dropped }

  abbrev pub total : (Tally P → ℕ) → List (Tally P) → ℕ
  total f [] = 0
  total f (v ∷ vs) = f v + total f vs

  -- what this pass took and dropped, by weight
  abbrev pub popped : (P → ℕ) → Tally P → ℕ
  popped h v = weigh h v.taken + weigh h v.dropped

  -- a pass with no part has put and taken nothing
  abbrev pub IdleIsEmpty : List (Tally P) → Type 0
  IdleIsEmpty views = (port : ℕ) (v : Tally P) → get_elem? views port ≡ some v → v.parts ≡ 0 → (v.put ≡ []) × (v.taken ≡ []) × (v.dropped ≡ [])

  -- the last one that was taken was dropped
  abbrev pub dropping : Tally P → Tally P
  dropping v = tally v.parts v.put (take (length v.taken - 1) v.taken) (v.dropped ++ drop (length v.taken - 1) v.taken)

module _ {T P : Type 0} (plain : T → P) where
  -- the passes have all parts; and what was put is what was taken or dropped and what the queue holds, each as often
  abbrev pub Balanced : List T → List (Tally P) → Type 0
  Balanced items views =
      (total (λ v. v.parts) views ≡ 65)
      × ((h : P → ℕ) → total (λ v. weigh h v.put) views ≡ total (popped h) views + weigh h (map plain items))
      × IdleIsEmpty views

  -- what a pass with all parts learns of what the queue holds
  abbrev pub Settled : Tally P → List T → Type 0
  Settled v items = (h : P → ℕ) → weigh h v.put ≡ popped h v + weigh h (map plain items)

  -- at some moment the queue held these, and this pass knew this
  abbrev pub WasSo : Tally P → List T → Type 0
  WasSo v items = (views : List (Tally P)) × (port : ℕ) × Balanced items views × (get_elem? views port ≡ some v)
