-- The rules of a table shared out among workers, in turn.
use Rattle.std.specs.Prelude.{ℕ, zero, suc, ◌-◌, List, [], ◌∷◌, ◌++◌, Option, Some, None, Result, IfOk}
use Rattle.mon_list.specs.declared.memory.OutOfMemory.{OutOfMemory}
use Rattle.mon_table.specs.declared.rule.Rule.{Rule}
use Rattle.mon_certificate.specs.declared.certificate.Certificate.{Certificate}
use Rattle.mon_certificate_file.specs.CertificateFile.{IsCertificateInRange}
use Rattle.mon_shows.specs.Views.{Viewing}
use Rattle.mon_plan.specs.Planning.{Each, IsCertificate}

-- every step-th rule, the first behind so many others
abbrev pub every : ℕ → ℕ → List Rule → List Rule
every step others [] = []
every step zero (r ∷ t) = r ∷ every step (step - 1) t
every step (suc others) (r ∷ t) = every step others t

-- a rule's certificate, whose numbers fit their fields
abbrev pub IsPlanned : Viewing → List Rule → Rule → Certificate → Type 0
IsPlanned v t r c = IsCertificate v t r c × IsCertificateInRange c

-- the certificates of those rules of the rest of a table t
abbrev pub IsShare : Viewing → List Rule → ℕ → ℕ → List Rule → List Certificate → Type 0
IsShare v t step others rest cs = Each (IsPlanned v t) (every step others rest) cs

-- the share of one worker after the other: each begins one rule behind the one before
abbrev pub AreShares : Viewing → List Rule → ℕ → ℕ → List Rule → List (List Certificate) → Type 0
AreShares v t step others rest [] = Unit {0}
AreShares v t step others rest (cs ∷ shares) = IsShare v t step others rest cs × AreShares v t step (suc others) rest shares

-- the same of what each found, where its memory sufficed
abbrev pub AreFound : Viewing → List Rule → ℕ → ℕ → List Rule → List (Result (List Certificate) OutOfMemory) → Type 0
AreFound v t step others rest [] = Unit {0}
AreFound v t step others rest (found ∷ more) = IfOk found (IsShare v t step others rest) × AreFound v t step (suc others) rest more

-- the next certificate of the first share, and the shares once that stands behind all others
abbrev pub next_of : List (List Certificate) → Option (Certificate × List (List Certificate))
next_of [] = None
next_of ([] ∷ shares) = None
next_of ((c ∷ cs) ∷ shares) = Some (c, shares ++ cs ∷ [])
