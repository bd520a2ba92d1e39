-- What a reader of a file answers: what it read, where the text is bad, or that memory ran out.
use Rattle.std.specs.Prelude.{◌≡◌, ℕ, ◌+◌, List, length, Result, Ok, Err}
use Rattle.std.specs.Borrow.{Bor}
use Rattle.mon_text.specs.declared.fault.FileFault.{FileFault}
use Rattle.mon_text.specs.declared.fault.FileFault.TheVariants as file
use Rattle.mon_text.specs.declared.fault.LineFault.{LineFault}
use Rattle.mon_text.specs.declared.fault.LineFault.TheVariants as line
use Rattle.mon_text.specs.BadLines.{IsFirstBadLine, IsBadFrom}

-- a text is bad only where this holds of the offset
abbrev pub OnBadAt : FileFault → (ℕ → Type 0) → Type 0
OnBadAt (file.Bad offset) P = P offset
OnBadAt file.OutOfMemory P = Unit {0}

-- lines are bad only where this holds of the text from the first bad one on
abbrev pub OnBadFrom : LineFault → (List ℕ → Type 0) → Type 0
OnBadFrom (line.Bad back) P = P back.now
OnBadFrom line.OutOfMemory P = Unit {0}

-- what was read is such, and the file is not bad
abbrev pub FileReadsAs : {X : Type 0} → (X → Type 0) → Result X FileFault → Type 0
FileReadsAs Is (Ok x) = Is x
FileReadsAs Is (Err fault) = OnBadAt fault (λ offset. ⊥)

-- a file that is bad leaves the form at the offset
abbrev pub FailsIn : {X : Type 0} → (List ℕ → Type 0) → List ℕ → Result X FileFault → Type 0
FailsIn Form text (Ok x) = Unit {0}
FailsIn Form text (Err fault) = OnBadAt fault (IsFirstBadLine Form text)

-- what was read is such, and the lines are not bad
abbrev pub LinesReadAs : {X : Type 0} → (X → Type 0) → Result X LineFault → Type 0
LinesReadAs Is (Ok x) = Is x
LinesReadAs Is (Err fault) = OnBadFrom fault (λ back. ⊥)

-- this was read at the front of a text, and this stands behind it
abbrev pub LinesReadPart : {X : Type 0} → Result (X × Bor (List ℕ)) LineFault → X → List ℕ → Type 0
LinesReadPart result x rest = LinesReadAs (λ p. (p.0 ≡ x) × (p.1.now ≡ rest)) result

-- lines that are bad leave the form there
abbrev pub StopsIn : {X : Type 0} → (List ℕ → Type 0) → List ℕ → Result X LineFault → Type 0
StopsIn Form text (Ok x) = Unit {0}
StopsIn Form text (Err fault) = OnBadFrom fault (IsBadFrom Form text)

-- the same fault, said by its offset in a text of this length
abbrev pub IsWithin : LineFault → FileFault → ℕ → Type 0
IsWithin (line.Bad back) (file.Bad offset) n = offset + length back.now ≡ n
IsWithin line.OutOfMemory file.OutOfMemory n = Unit {0}
IsWithin (line.Bad back) file.OutOfMemory n = ⊥
IsWithin line.OutOfMemory (file.Bad offset) n = ⊥
