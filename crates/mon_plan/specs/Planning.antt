-- What is asked about the rules of a table, and answered.
use Rattle.std.specs.Prelude.{◌≡◌, true, List, [], ◌∷◌}
use Rattle.mon_table.specs.declared.rule.Rule.{Rule}
use Rattle.mon_certificate.specs.declared.certificate.Certificate.{Certificate}
use Rattle.mon_shows.specs.declared.target.Target.TheVariants.{Watch}
use Rattle.mon_shows.specs.Views.{Viewing}
use Rattle.mon_job.specs.Jobs.{Task, sliced}
use Rattle.mon_solve.specs.Accepting.{is_accepted, CertificateIsTrue, IsItsKind}

-- which packet shows the rule in its whole table
abbrev pub watch_of : Viewing → List Rule → Rule → Task
watch_of v t r = record { number = 0; session = 0; slot = 0; edit = 0; version = 0; view = v; table = t; target = Watch r }

-- the job of a rule: the same, among the rules that overlap its match
abbrev pub job_of : Viewing → List Rule → Rule → Task
job_of v t r = sliced (watch_of v t r)

-- as many certificates as rules, and this holds of each rule and the one at its place
abbrev pub Each : (Rule → Certificate → Type 0) → List Rule → List Certificate → Type 0
Each P [] [] = Unit {0}
Each P [] (c ∷ cs) = ⊥
Each P (r ∷ t) [] = ⊥
Each P (r ∷ t) (c ∷ cs) = P r c × Each P t cs

-- a rule's certificate is accepted of its job, is true in the whole table, and is of its kind: a tie exactly where the
-- rule is tied in the whole table
pub record IsCertificate (v : Viewing) (t : List Rule) (r : Rule) (c : Certificate) : Type 0 where
  pub accepted : is_accepted (job_of v t r) c ≡ true
  pub truth : CertificateIsTrue (watch_of v t r) c
  pub kind : IsItsKind (watch_of v t r) c

-- the certificates of a table
abbrev pub AreCertificates : Viewing → List Rule → List Certificate → Type 0
AreCertificates v t cs = Each (IsCertificate v t) t cs

-- each is accepted of its rule's job
abbrev pub AreAccepted : Viewing → List Rule → List Certificate → Type 0
AreAccepted v t cs = Each (λ r c. is_accepted (job_of v t r) c ≡ true) t cs

-- each is true of its rule in the whole table
abbrev pub AreTrue : Viewing → List Rule → List Certificate → Type 0
AreTrue v t cs = Each (λ r c. CertificateIsTrue (watch_of v t r) c) t cs
