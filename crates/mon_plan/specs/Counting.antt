-- How many rules of a table are shown, are not, and are tied.
use Rattle.std.specs.Prelude.{◌≡◌, ◌⊎◌, ℕ, zero, suc, Bool, true, false, List, [], ◌∷◌, length}
use Rattle.std.specs.List.{count_by}
use Rattle.mon_header.specs.declared.header.Header.{Header}
use Rattle.mon_table.specs.declared.rule.Rule.{Rule}
use Rattle.mon_table.specs.Tables.{tied}
use Rattle.mon_outcome.specs.declared.emission.Emission.{Emission}
use Rattle.mon_certificate.specs.declared.certificate.Certificate.{Certificate}
use Rattle.mon_certificate.specs.declared.certificate.Certificate.TheVariants.{Probe, Nothing, Overlap}
use Rattle.mon_shows.specs.declared.target.Target.TheVariants.{Watch}
use Rattle.mon_shows.specs.Views.{Viewing}
use Rattle.mon_shows.specs.Separation.{separates}
use Rattle.mon_plan.specs.declared.summary.Summary.{Summary}

-- of exactly so many of these rules it holds
abbrev pub Count : (Rule → Type 0) → List Rule → ℕ → Type 0
Count P [] n = n ≡ 0
Count P (r ∷ t) zero = (P r → ⊥) × Count P t zero
Count P (r ∷ t) (suc n) = (P r × Count P t n) ⊎ ((P r → ⊥) × Count P t (suc n))

-- the rule is tied
abbrev pub IsTied : List Rule → Rule → Type 0
IsTied t r = tied t r ≡ true

-- it is not, and some header and emission show it
abbrev pub IsShown : Viewing → List Rule → Rule → Type 0
IsShown v t r = (tied t r ≡ false) × ((h : Header) × (e : Emission) × (separates v t (Watch r) h e ≡ true))

-- it is not, and none do
abbrev pub IsUnseen : Viewing → List Rule → Rule → Type 0
IsUnseen v t r = (tied t r ≡ false) × ((h : Header) (e : Emission) → separates v t (Watch r) h e ≡ false)

-- the numbers of a table's rules of each kind
pub record IsSummary (v : Viewing) (t : List Rule) (s : Summary) : Type 0 where
  pub rules : s.rules ≡ length t
  pub probes : Count (IsShown v t) t s.probes
  pub indistinguishable : Count (IsUnseen v t) t s.indistinguishable
  pub overlap : Count (IsTied t) t s.overlap

-- the kinds of certificates
abbrev pub is_probe : Certificate → Bool
is_probe (Probe h e) = true
is_probe (Nothing logs) = false
is_probe Overlap = false

abbrev pub is_nothing : Certificate → Bool
is_nothing (Probe h e) = false
is_nothing (Nothing logs) = true
is_nothing Overlap = false

abbrev pub is_overlap : Certificate → Bool
is_overlap (Probe h e) = false
is_overlap (Nothing logs) = false
is_overlap Overlap = true

-- the numbers of certificates of each kind
abbrev pub summary_of : List Certificate → Summary
summary_of cs = record {
  rules = length cs;
  probes = count_by is_probe cs;
  indistinguishable = count_by is_nothing cs;
  overlap = count_by is_overlap cs;
}
