-- What is said of a file that is no table, and what a check of both files does.
use Rattle.std.proofs.Common.{◌≡◌, ◌<◌, ℕ, List, Option, Some, None, IfSome, subst, sym}
use Rattle.mon_table.specs.declared.rule.Rule.{Rule}
use Rattle.mon_shows.specs.Views.{Viewing}
use Rattle.mon_certificate.specs.declared.certificate.Certificate.{Certificate}
use Rattle.mon_certificate_file.specs.CertificateFile.{Spells, IsCertificateFile}
use Rattle.mon_text.specs.BadLines.{IsFirstBadLine}
use Rattle.mon_table_file.specs.TableFile.{IsTableFile, IsTableText}
use Rattle.mon_plan.specs.Checking.{checked}
use Rattle.mon_words.specs.declared.command.Source.{Source}
use Rattle.mon_words.specs.declared.command.Source.TheVariants.{File}
use Rattle.mon_world.specs.Files.{with_more}
use Rattle.monocle.specs.Planning.{Contents, Gives, GivesNone, GivesSome, HasNoSpelling, IsSpelled, IsCheck, checked_text, status_of}
use Rattle.monocle.specs.Running.{WritesPrefix, Checks}

pub no-table : (told : Option Contents) (name text read : List ℕ) (offset : ℕ) → IfSome told (λ files. files name ≡ Some text) → read ≡ text
    → ((v : Viewing) (t : List Rule) → IsTableFile read v t → ⊥) → IsFirstBadLine IsTableText read offset → IfSome told (λ files. GivesNone files (File name) offset)
no-table None name text read offset content same none bad = content
no-table (Some files) name text read offset content same none bad =
    (text, content, subst (λ bytes. (v : Viewing) (t : List Rule) → IsTableFile bytes v t → ⊥) same none, subst (λ bytes. IsFirstBadLine IsTableText bytes offset) same bad)

pub no-certificates : (told : Option Contents) (name text read : List ℕ) (offset : ℕ) → IfSome told (λ files. files name ≡ Some text) → read ≡ text
    → ((cs : List Certificate) → Spells read cs → ⊥) → IsFirstBadLine IsCertificateFile read offset → IfSome told (λ files. HasNoSpelling files name offset)
no-certificates None name text read offset content same none bad = content
no-certificates (Some files) name text read offset content same none bad =
    (text, content, subst (λ bytes. (cs : List Certificate) → Spells bytes cs → ⊥) same none, subst (λ bytes. IsFirstBadLine IsCertificateFile bytes offset) same bad)

pub gives-some : (told : Option Contents) (source : Source) (v : Viewing) (t : List Rule) → IfSome told (λ files. Gives files source v t) → IfSome told (λ files. GivesSome files source)
gives-some None source v t gives = gives
gives-some (Some files) source v t gives = (v, t, gives)

-- what is checked is checked, whether or not it can be written
pub is-check : (told : Option Contents) (source : Source) (name : List ℕ) (v : Viewing) (t : List Rule) (cs : List Certificate) (due : ℕ) (bytes : List ℕ)
    → IfSome told (λ files. Gives files source v t) → IfSome told (λ files. IsSpelled files name cs)
    → due ≡ status_of (checked v t cs) → bytes ≡ checked_text (checked v t cs)
    → IfSome told (λ files. IsCheck files source name due bytes)
is-check None source name v t cs due bytes gives spelled d b = gives
is-check (Some files) source name v t cs due bytes gives spelled d b = (v, t, cs, gives, spelled, d, b)

pub check-runs : (told : Option Contents) (source : Source) (name : List ℕ) (due status : ℕ) (bytes : List ℕ) (before now : Option (List ℕ))
    → IfSome told (λ files. IsCheck files source name due bytes)
    → (status < 2 → status ≡ due) → (status < 2 → now ≡ with_more bytes before) → (status ≡ 6 → WritesPrefix bytes before now)
    → Checks told source name status before now
check-runs None source name due status bytes before now is done written prefix = record {
  written = λ _. is;
  prefix = λ _. is;
}
check-runs (Some files) source name due status bytes before now is done written prefix = record {
  written = λ low. (bytes, subst (λ n. IsCheck files source name n bytes) (sym (done low)) is, written low);
  prefix = λ six. (due, bytes, is, prefix six);
}
