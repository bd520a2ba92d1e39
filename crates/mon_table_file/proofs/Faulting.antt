-- Faults of lines as faults of the whole table file.
use Rattle.std.proofs.Common.{ℕ, ◌≤◌, List, length}
use Rattle.mon_text.specs.declared.fault.FileFault.{FileFault}
use Rattle.mon_text.specs.declared.fault.FileFault.TheVariants as file
use Rattle.mon_text.specs.declared.fault.LineFault.{LineFault}
use Rattle.mon_text.specs.declared.fault.LineFault.TheVariants as line
use Rattle.mon_text.specs.BadLines.{IsFirstBadLine}
use Rattle.mon_text.specs.Faults.{OnBadAt, OnBadFrom, IsWithin}
use Rattle.mon_table_file.specs.TableFile.{IsTableText}
use Rattle.mon_table_file.specs.Sections.{IsBrokenFrom}

pub fault_from : (P Q : List ℕ → Type 0) (fault : LineFault) → ((back : List ℕ) → P back → Q back) → OnBadFrom fault P → OnBadFrom fault Q
fault_from P Q (line.Bad back) f p = f back.now p
fault_from P Q line.OutOfMemory f p = tt

pub broken_within : (text : List ℕ) (fault : LineFault) → OnBadFrom fault (IsBrokenFrom text) → OnBadFrom fault (λ back. length back ≤ length text)
broken_within text fault b = fault_from (IsBrokenFrom text) (λ back. length back ≤ length text) fault (λ back p. p.within) b

pub broken_at : (text : List ℕ) (fault : LineFault) (result : FileFault) → OnBadFrom fault (IsBrokenFrom text) → IsWithin fault result (length text) → OnBadAt result (IsFirstBadLine IsTableText text)
broken_at text (line.Bad back) (file.Bad offset) b w = b.first offset w
broken_at text (line.Bad back) file.OutOfMemory b w = absurd w
broken_at text line.OutOfMemory (file.Bad offset) b w = absurd w
broken_at text line.OutOfMemory file.OutOfMemory b w = tt

pub not_broken : (text : List ℕ) (fault : LineFault) (result : FileFault) → IsTableText text → OnBadFrom fault (IsBrokenFrom text) → IsWithin fault result (length text) → OnBadAt result (λ offset. ⊥)
not_broken text (line.Bad back) result is b w = absurd (b.none is)
not_broken text line.OutOfMemory (file.Bad offset) is b w = absurd w
not_broken text line.OutOfMemory file.OutOfMemory is b w = tt
