-- How the lines of a certificate file are read, part by part.
use Rattle.std.specs.Prelude.{◌≡◌, ℕ, List, ◌++◌, length, codes, decimal, Option, Some, None, option_and_then}
use Rattle.std.specs.List.{AllByRecursion}
use Rattle.mon_text.specs.Numbers.{number_in}
use Rattle.mon_text.specs.Parts.{Part, behind, led, ended, both, seen, bytes_in, number_within, feed}
use Rattle.mon_header.specs.declared.header.Header.{Header}
use Rattle.mon_outcome.specs.declared.emission.Emission.{Emission}
use Rattle.mon_outcome.specs.declared.emission.Emission.TheVariants.{Port, Controller, Miss}
use Rattle.mon_certificate_file.specs.Headers.{header_from}
use Rattle.mon_certificate.specs.declared.certificate.Certificate.{Certificate}
use Rattle.mon_certificate_file.specs.CertificateFile.{row, certificates_text, FitsCertificates}

unfoldable pub header_in : List ℕ → Part Header
header_in = seen header_from (bytes_in 33)

-- a header and the end of the line
abbrev pub last_header : List ℕ → Part Header
last_header = ended feed header_in

abbrev pub port_of : ℕ × Header → Emission
port_of x = Port x.0 x.1

unfoldable pub port_in : List ℕ → Part Emission
port_in = seen port_of (both (ended (codes " ") (number_within 0 65535)) last_header)

unfoldable pub controller_in : List ℕ → Part Emission
controller_in = seen Controller last_header

unfoldable pub miss_in : List ℕ → Part Emission
miss_in = seen Miss last_header

-- the part behind some bytes, and something else where these bytes don't stand there
abbrev pub or_else : {X : Type 0} → Option (List ℕ) → (List ℕ → Part X) → Part X → Part X
or_else None part other = other
or_else (Some rest) part other = part rest

-- an emission and the end of the line
unfoldable pub emission_in : List ℕ → Part Emission
emission_in text =
    or_else (behind (codes "port ") text) port_in (or_else (behind (codes "controller ") text) controller_in (led (codes "miss ") miss_in text))

-- the text behind this number and a space
unfoldable pub behind_rule : ℕ → List ℕ → Option (List ℕ)
behind_rule rule text = option_and_then (behind (codes " ")) (behind (decimal rule) text)

-- a probe behind the first word
unfoldable pub probe_in : ℕ → List ℕ → Part (Header × Emission)
probe_in rule text = option_and_then (both (ended (codes " ") header_in) emission_in) (behind_rule rule text)

-- the text behind this number and the end of the line
unfoldable pub overlap_in : ℕ → List ℕ → Option (List ℕ)
overlap_in rule text = option_and_then (behind feed) (behind (decimal rule) text)

-- a number and the end of the line
unfoldable pub count_in : List ℕ → Part ℕ
count_in = ended feed number_in

-- how many refutations the first line of a rule says that no probe shows, behind its first word
unfoldable pub nothing_in : ℕ → List ℕ → Part ℕ
nothing_in rule text = option_and_then count_in (behind_rule rule text)

-- the first two lines, of which the second says how many rules there are
unfoldable pub head_in : List ℕ → Part ℕ
head_in = led (codes "monocle-certificates 1" ++ (feed ++ codes "rules ")) count_in

-- the text of this, which fits, stands at the front
pub record PartAt {X : Type 0} (text : X → List ℕ) (Fits : X → Type 0) (bytes : List ℕ) (x : X) (rest : List ℕ) : Type 0 where
  pub is : bytes ≡ text x ++ rest
  pub fits : Fits x

-- so many of them stand at the front, one behind the other, from a place on
pub record RowAt {X : Type 0} (text : ℕ → X → List ℕ) (Fits : X → Type 0) (place count : ℕ) (bytes : List ℕ) (xs : List X) (rest : List ℕ) : Type 0 where
  pub is : bytes ≡ row text place xs ++ rest
  pub count_is : length xs ≡ count
  pub fit : AllByRecursion Fits xs

-- the text of one of them, which fits
abbrev pub IsOne : {X : Type 0} → (X → List ℕ) → (X → Type 0) → List ℕ → Type 0
IsOne {X} text Fits s = (x : X) × Fits x × (s ≡ text x)

-- the texts of so many of them, one behind the other, from the place 0 on
abbrev pub IsRow : {X : Type 0} → (ℕ → X → List ℕ) → (X → Type 0) → ℕ → List ℕ → Type 0
IsRow {X} text Fits count s = (xs : List X) × (length xs ≡ count) × AllByRecursion Fits xs × (s ≡ row text 0 xs)

-- the text of these certificates stands at the front
abbrev pub FileAt : List ℕ → List Certificate → List ℕ → Type 0
FileAt bytes cs rest = PartAt certificates_text FitsCertificates bytes cs rest
