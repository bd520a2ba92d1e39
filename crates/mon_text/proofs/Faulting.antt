-- Faults of lines as faults of the whole text.
use Rattle.std.proofs.Common.{◌≡◌, ℕ, ◌+◌, ◌≤◌, ap, ◌∙◌, List, ◌++◌, length, arith, length-append}
use Rattle.mon_text.specs.declared.fault.FileFault.{FileFault}
use Rattle.mon_text.specs.declared.fault.FileFault.TheVariants as file
use Rattle.mon_text.specs.declared.fault.LineFault.{LineFault}
use Rattle.mon_text.specs.declared.fault.LineFault.TheVariants as line
use Rattle.mon_text.specs.BadLines.{IsFirstBadLine, IsBadFrom}
use Rattle.mon_text.specs.Faults.{OnBadAt, OnBadFrom, IsWithin}
use Rattle.mon_text.proofs.Stopping.{bad_at}

pub back_within : (text front back : List ℕ) → text ≡ front ++ back → length back ≤ length text
back_within text front back e = let k : length text ≡ length front + length back = ap length e ∙ length-append front back in omega arith

pub fault_within : (Form : List ℕ → Type 0) (text : List ℕ) (fault : LineFault) → OnBadFrom fault (IsBadFrom Form text) → OnBadFrom fault (λ back. length back ≤ length text)
fault_within Form text (line.Bad back) bad = back_within text bad.front back.now bad.is
fault_within Form text line.OutOfMemory bad = tt

pub fault_at : (Form : List ℕ → Type 0) (text : List ℕ) (fault : LineFault) (result : FileFault) → OnBadFrom fault (IsBadFrom Form text) → IsWithin fault result (length text) → OnBadAt result (IsFirstBadLine Form text)
fault_at Form text (line.Bad back) (file.Bad offset) bad w = bad_at Form text back.now offset w bad
fault_at Form text (line.Bad back) file.OutOfMemory bad w = absurd w
fault_at Form text line.OutOfMemory (file.Bad offset) bad w = absurd w
fault_at Form text line.OutOfMemory file.OutOfMemory bad w = tt

pub fault_none : (n : ℕ) (fault : LineFault) (result : FileFault) → OnBadFrom fault (λ back. ⊥) → IsWithin fault result n → OnBadAt result (λ offset. ⊥)
fault_none n (line.Bad back) result bad w = absurd bad
fault_none n line.OutOfMemory (file.Bad offset) bad w = absurd w
fault_none n line.OutOfMemory file.OutOfMemory bad w = tt
