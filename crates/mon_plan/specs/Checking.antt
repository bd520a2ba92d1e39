-- What is said of certificates.
use Rattle.std.specs.Prelude.{◌≡◌, ℕ, suc, true, false, if◌then◌else◌, List, [], ◌∷◌, take, drop}
use Rattle.mon_table.specs.declared.rule.Rule.{Rule}
use Rattle.mon_certificate.specs.declared.certificate.Certificate.{Certificate}
use Rattle.mon_shows.specs.Views.{Viewing}
use Rattle.mon_solve.specs.Accepting.{is_accepted}
use Rattle.mon_plan.specs.declared.check.Checked.{Checked}
use Rattle.mon_plan.specs.declared.check.Checked.TheVariants.{Accepted, Refused}
use Rattle.mon_plan.specs.Planning.{job_of, Each}

-- what is said of certificates of these rules of the table, the first of which stands at this place
abbrev pub checked_from : Viewing → List Rule → ℕ → List Rule → List Certificate → Checked
checked_from v t n [] [] = Accepted n
checked_from v t n [] (c ∷ cs) = Refused n
checked_from v t n (r ∷ rules) [] = Refused n
checked_from v t n (r ∷ rules) (c ∷ cs) = if is_accepted (job_of v t r) c then checked_from v t (suc n) rules cs else Refused n

-- what is said of certificates of the table
abbrev pub checked : Viewing → List Rule → List Certificate → Checked
checked v t cs = checked_from v t 0 t cs

-- this holds if all are accepted
abbrev pub IfAccepted : Checked → Type 0 → Type 0
IfAccepted (Accepted n) P = P
IfAccepted (Refused n) P = Unit {0}

-- the first certificate isn't accepted, or only one of both lists is empty
abbrev pub FailsAtOnce : Viewing → List Rule → List Rule → List Certificate → Type 0
FailsAtOnce v t [] [] = ⊥
FailsAtOnce v t [] (c ∷ cs) = Unit {0}
FailsAtOnce v t (r ∷ rules) [] = Unit {0}
FailsAtOnce v t (r ∷ rules) (c ∷ cs) = is_accepted (job_of v t r) c ≡ false

-- the certificates before the place are accepted, and there it fails
pub record IsRefusedFrom (v : Viewing) (t : List Rule) (rules : List Rule) (cs : List Certificate) (n : ℕ) : Type 0 where
  pub before : Each (λ r c. is_accepted (job_of v t r) c ≡ true) (take n rules) (take n cs)
  pub here : FailsAtOnce v t (drop n rules) (drop n cs)

-- the certificates of the table are refused at the place
abbrev pub IsRefusedAt : Viewing → List Rule → List Certificate → ℕ → Type 0
IsRefusedAt v t cs n = IsRefusedFrom v t t cs n
