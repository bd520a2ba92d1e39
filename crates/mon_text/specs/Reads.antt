-- What a reader of texts answers: what it read, that the text is bad, or that memory ran out. Here memory is kept apart from
-- what a text says: no other definition of what is read speaks of it.
use Rattle.std.specs.Prelude.{◌≡◌, ℕ, List, Option, Some, None, Result, Ok, Err}
use Rattle.std.specs.Borrow.{Bor}
use Rattle.mon_text.specs.declared.fault.TextFault.{TextFault}
use Rattle.mon_text.specs.declared.fault.TextFault.TheVariants.{Bad, OutOfMemory}

-- a text is bad only where this holds
abbrev pub OnBad : TextFault → Type 0 → Type 0
OnBad Bad P = P
OnBad OutOfMemory P = Unit {0}

-- what was read, seen by a view, is what the text says, and a text is bad only where it says nothing
abbrev pub Reads : {X Y : Type 0} → (X → Y) → Result X TextFault → Option Y → Type 0
Reads view (Ok x) said = said ≡ Some (view x)
Reads view (Err fault) said = OnBad fault (said ≡ None)

-- what was read is such, and the text is not bad
abbrev pub ReadsAs : {X : Type 0} → (X → Type 0) → Result X TextFault → Type 0
ReadsAs Is (Ok x) = Is x
ReadsAs Is (Err fault) = OnBad fault ⊥

-- this was read at the front of a text that is not bad, and this stands behind it
abbrev pub ReadsPart : {X : Type 0} → Result (X × Bor (List ℕ)) TextFault → X → List ℕ → Type 0
ReadsPart result x rest = ReadsAs (λ p. (p.0 ≡ x) × (p.1.now ≡ rest)) result
