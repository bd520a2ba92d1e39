-- Where `plan` and `check` take a table from, and what they write.
use Rattle.std.specs.Prelude.{◌≡◌, ℕ, Bool, true, false, List, ◌++◌, Option, Some, codes, decimal}
use Rattle.mon_table.specs.declared.rule.Rule.{Rule}
use Rattle.mon_shows.specs.Views.{Viewing}
use Rattle.mon_certificate.specs.declared.certificate.Certificate.{Certificate}
use Rattle.mon_text.specs.BadLines.{IsFirstBadLine}
use Rattle.mon_certificate_file.specs.CertificateFile.{Spells, IsCertificateFile}
use Rattle.mon_table_file.specs.TableFile.{IsTableFile, IsTableText}
use Rattle.mon_table_file.specs.Generator.{generated_view, generated}
use Rattle.mon_plan.specs.declared.summary.Summary.{Summary}
use Rattle.mon_plan.specs.declared.check.Checked.{Checked}
use Rattle.mon_plan.specs.declared.check.Checked.TheVariants.{Accepted, Refused}
use Rattle.mon_plan.specs.Planning.{AreCertificates}
use Rattle.mon_plan.specs.Checking.{checked}
use Rattle.mon_plan.specs.Counting.{IsSummary}
use Rattle.mon_words.specs.declared.command.Source.{Source}
use Rattle.mon_words.specs.declared.command.Source.TheVariants.{File, Generate}

-- the content of each name of a file
abbrev pub Contents : Type 0
Contents = List ℕ → Option (List ℕ)

-- the source gives this view and table: its file says them, or they are made from its numbers
abbrev pub Gives : Contents → Source → Viewing → List Rule → Type 0
Gives files (File name) v t = (text : List ℕ) × (files name ≡ Some text) × IsTableFile text v t
Gives files (Generate n seed) v t = (v ≡ generated_view) × (t ≡ generated seed n)

-- the source's file is no table, and its first bad line begins at the offset
abbrev pub GivesNone : Contents → Source → ℕ → Type 0
GivesNone files (File name) offset =
    (text : List ℕ) × (files name ≡ Some text) × ((v : Viewing) (t : List Rule) → IsTableFile text v t → ⊥) × IsFirstBadLine IsTableText text offset
GivesNone files (Generate n seed) offset = ⊥

-- a word and a number, in a line of their own
abbrev pub count_line : List ℕ → ℕ → List ℕ
count_line word n = word ++ (codes " " ++ (decimal n ++ codes "\n"))

-- how many rules there are, and how many of each kind, a line each
abbrev pub summary_text : Summary → List ℕ
summary_text s =
    count_line (codes "rules") s.rules
    ++ (count_line (codes "probes") s.probes
    ++ (count_line (codes "indistinguishable") s.indistinguishable
    ++ count_line (codes "overlap") s.overlap))

-- what a plan of the table writes: its summary, or where they are asked for certificates of all its rules, as they are
-- read back
abbrev pub IsPlan : Bool → Viewing → List Rule → List ℕ → Type 0
IsPlan false v t bytes = (s : Summary) × IsSummary v t s × (bytes ≡ summary_text s)
IsPlan true v t bytes = (cs : List Certificate) × AreCertificates v t cs × Spells bytes cs

-- what a plan of the source's table writes
abbrev pub IsPlanOf : Contents → Source → Bool → List ℕ → Type 0
IsPlanOf files source certificates bytes = (v : Viewing) × (t : List Rule) × Gives files source v t × IsPlan certificates v t bytes

-- what is written of certificates that were checked
abbrev pub checked_text : Checked → List ℕ
checked_text (Accepted n) = count_line (codes "accepted") n
checked_text (Refused n) = count_line (codes "refused") n

-- the status at which it is written
abbrev pub status_of : Checked → ℕ
status_of (Accepted n) = 0
status_of (Refused n) = 1

-- the file of this name has these certificates
abbrev pub IsSpelled : Contents → List ℕ → List Certificate → Type 0
IsSpelled files name cs = (text : List ℕ) × (files name ≡ Some text) × Spells text cs

-- the file of this name has no certificates, and its first bad line begins at the offset
abbrev pub HasNoSpelling : Contents → List ℕ → ℕ → Type 0
HasNoSpelling files name offset =
    (text : List ℕ) × (files name ≡ Some text) × ((cs : List Certificate) → Spells text cs → ⊥) × IsFirstBadLine IsCertificateFile text offset

-- a source gives a table
abbrev pub GivesSome : Contents → Source → Type 0
GivesSome files source = (v : Viewing) × (t : List Rule) × Gives files source v t

-- a status, and what a check of the file of this name writes
abbrev pub IsCheck : Contents → Source → List ℕ → ℕ → List ℕ → Type 0
IsCheck files source name status bytes =
    (v : Viewing) × (t : List Rule) × (cs : List Certificate)
    × Gives files source v t × IsSpelled files name cs
    × (status ≡ status_of (checked v t cs)) × (bytes ≡ checked_text (checked v t cs))
