-- Which certificates are accepted of a job, and what they mean.
use Rattle.std.specs.Prelude.{◌≡◌, Bool, true, false, ◌&&◌, List, [], ◌∷◌}
use Rattle.mon_header.specs.declared.header.Header.{Header}
use Rattle.mon_table.specs.Tables.{tied}
use Rattle.mon_outcome.specs.declared.emission.Emission.{Emission}
use Rattle.mon_refute.specs.declared.lines.LogLine.{LogLine}
use Rattle.mon_refute.specs.Follow as follow
use Rattle.mon_certificate.specs.declared.certificate.Certificate.{Certificate}
use Rattle.mon_certificate.specs.declared.certificate.Certificate.TheVariants.{Probe, Nothing, Overlap}
use Rattle.mon_shows.specs.Separation.{separates}
use Rattle.mon_job.specs.Jobs.{Task, updated}
use Rattle.mon_encode.specs.declared.case.Case.{Case}
use Rattle.mon_encode.specs.Cases.{cases_of}
use Rattle.mon_encode.specs.Formulas.{formula_of}

-- the log refutes the clauses of the case
abbrev pub is_refuted : Task → Case → List LogLine → Bool
is_refuted j c log = follow.is_accepted (formula_of j c).vars (formula_of j c).clauses log

-- there are as many logs as cases, and each refutes its case
abbrev pub are_refuted : Task → List Case → List (List LogLine) → Bool
are_refuted j [] [] = true
are_refuted j [] (log ∷ logs) = false
are_refuted j (c ∷ cases) [] = false
are_refuted j (c ∷ cases) (log ∷ logs) = is_refuted j c log && are_refuted j cases logs

-- the rule of the target has others of its effective priority whose matches overlap its own
abbrev pub is_tied : Task → Bool
is_tied j = tied j.table (updated j.target)

-- a probe that separates, refutations of all cases, or a tie
abbrev pub is_accepted : Task → Certificate → Bool
is_accepted j (Probe h e) = separates j.view j.table j.target h e
is_accepted j (Nothing logs) = are_refuted j (cases_of j) logs
is_accepted j Overlap = is_tied j

-- nothing shows the update
abbrev pub NothingSeparates : Task → Type 0
NothingSeparates j = (h : Header) (e : Emission) → separates j.view j.table j.target h e ≡ false

-- what a certificate says of the job
abbrev pub CertificateIsTrue : Task → Certificate → Type 0
CertificateIsTrue j (Probe h e) = separates j.view j.table j.target h e ≡ true
CertificateIsTrue j (Nothing logs) = NothingSeparates j
CertificateIsTrue j Overlap = is_tied j ≡ true

-- the certificate is of the job's kind: a tie exactly where the rule is tied
abbrev pub IsItsKind : Task → Certificate → Type 0
IsItsKind j (Probe h e) = is_tied j ≡ false
IsItsKind j (Nothing logs) = is_tied j ≡ false
IsItsKind j Overlap = is_tied j ≡ true
