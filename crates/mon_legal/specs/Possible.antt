-- The tables that a switch may have: it may lose, delay or skip what is not settled, and unsure entries may be gone.
use Rattle.std.specs.Prelude.{◌≡◌, ℕ, Bool, true, List, filter}
use Rattle.std.specs.List.{AllByRecursion}
use Rattle.mon_table.specs.declared.rule.Rule.{Rule}
use Rattle.mon_table.specs.Winners.{left}
use Rattle.mon_legal.specs.Owns.{Own}
use Rattle.mon_legal.specs.Edits.{Passed, table_of, passed}

-- the edits whose numbers are chosen, in their order
abbrev pub chosen : (ℕ → Bool) → List Passed → List Passed
chosen keep passed = filter (λ p. keep p.number) passed

-- every settled edit is chosen
abbrev pub KeepsSettled : (ℕ → Bool) → List Passed → Type 0
KeepsSettled keep passed = AllByRecursion (λ p. p.settled ≡ true → keep p.number ≡ true) passed

-- the table with the edits that are chosen, without the unsure rules that are gone. A vanished entry counts as settled, so its
-- cut, of number 0, is always chosen
abbrev pub possible : List Rule → (ℕ → Bool) → (Rule → Bool) → List Own → List Rule
possible catching keep goes own = left goes (table_of catching (chosen keep (passed own)))
