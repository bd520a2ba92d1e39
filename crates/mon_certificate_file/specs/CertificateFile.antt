-- A certificate file: what is said of each rule of a table, in table order. Words are parted by one space, and a line feed
-- ends each line.
use Rattle.std.specs.Prelude.{◌≡◌, ℕ, suc, ◌<◌, ◌^◌, List, [], ◌∷◌, ◌++◌, length, codes, decimal}
use Rattle.std.specs.List.{flat_map, AllByRecursion}
use Rattle.mon_text.specs.Hex.{hex}
use Rattle.mon_header.specs.declared.header.Header.{Header}
use Rattle.mon_header.specs.Matching.{InRange}
use Rattle.mon_outcome.specs.declared.emission.Emission.{Emission}
use Rattle.mon_outcome.specs.declared.emission.Emission.TheVariants.{Port, Controller, Miss}
use Rattle.mon_refute.specs.declared.lines.LogLine.{LogLine}
use Rattle.mon_refute.specs.Text.{log_text, FitsLog}
use Rattle.mon_certificate.specs.declared.certificate.Certificate.{Certificate}
use Rattle.mon_certificate.specs.declared.certificate.Certificate.TheVariants.{Probe, Nothing, Overlap}
use Rattle.mon_certificate_file.specs.Headers.{header_bytes}
use Rattle.mon_text.specs.Parts.{feed}

-- 66 digits
abbrev pub header_text : Header → List ℕ
header_text h = hex (header_bytes h)

abbrev pub emission_text : Emission → List ℕ
emission_text (Port port h) = codes "port " ++ (decimal port ++ (codes " " ++ header_text h))
emission_text (Controller h) = codes "controller " ++ header_text h
emission_text (Miss h) = codes "miss " ++ header_text h

-- how many refutations there are, and on the lines behind it each of them
abbrev pub logs_text : List (List LogLine) → List ℕ
logs_text logs = decimal (length logs) ++ (feed ++ flat_map log_text logs)

-- a rule that no probe shows, behind the first word
abbrev pub nothing_text : ℕ → List (List LogLine) → List ℕ
nothing_text rule logs = decimal rule ++ (codes " " ++ logs_text logs)

-- a probe, behind the first word
abbrev pub probe_text : ℕ → Header × Emission → List ℕ
probe_text rule x = decimal rule ++ (codes " " ++ (header_text x.0 ++ (codes " " ++ (emission_text x.1 ++ feed))))

-- the lines of a rule, which is named by its number
abbrev pub certificate_text : ℕ → Certificate → List ℕ
certificate_text rule (Probe h e) = codes "probe " ++ probe_text rule (h, e)
certificate_text rule (Nothing logs) = codes "none " ++ nothing_text rule logs
certificate_text rule Overlap = codes "overlap " ++ (decimal rule ++ feed)

-- texts one behind the other, each of which depends on its place
abbrev pub row : {X : Type 0} → (ℕ → X → List ℕ) → ℕ → List X → List ℕ
row text place [] = []
row text place (x ∷ xs) = text place x ++ row text (suc place) xs

-- rules count from 0
abbrev pub certificates_text : List Certificate → List ℕ
certificates_text cs =
    codes "monocle-certificates 1"
    ++ (feed ++ (codes "rules " ++ (decimal (length cs) ++ (feed ++ row certificate_text 0 cs))))

-- the headers in it are within range
abbrev pub IsEmissionInRange : Emission → Type 0
IsEmissionInRange (Port port h) = InRange h
IsEmissionInRange (Controller h) = InRange h
IsEmissionInRange (Miss h) = InRange h

abbrev pub IsCertificateInRange : Certificate → Type 0
IsCertificateInRange (Probe h e) = InRange h × IsEmissionInRange e
IsCertificateInRange (Nothing logs) = Unit {0}
IsCertificateInRange Overlap = Unit {0}

-- what the types of its numbers allow
abbrev pub FitsEmission : Emission → Type 0
FitsEmission (Port port h) = (port < 2 ^ 16) × InRange h
FitsEmission (Controller h) = InRange h
FitsEmission (Miss h) = InRange h

abbrev pub FitsLogs : List (List LogLine) → Type 0
FitsLogs logs = (length logs < 2 ^ 64) × AllByRecursion FitsLog logs

abbrev pub FitsCertificate : Certificate → Type 0
FitsCertificate (Probe h e) = InRange h × FitsEmission e
FitsCertificate (Nothing logs) = FitsLogs logs
FitsCertificate Overlap = Unit {0}

abbrev pub FitsCertificates : List Certificate → Type 0
FitsCertificates cs = (length cs < 2 ^ 64) × AllByRecursion FitsCertificate cs

-- the text is that of these certificates
pub record Spells (text : List ℕ) (cs : List Certificate) : Type 0 where
  pub is : text ≡ certificates_text cs
  pub fit : FitsCertificates cs

-- the text is that of some certificates
abbrev pub IsCertificateFile : List ℕ → Type 0
IsCertificateFile text = (cs : List Certificate) × Spells text cs
