-- Rules and their certificates.
use Rattle.std.proofs.Common.{◌≡◌, ℕ, zero, suc, ◌+◌, ◌<◌, ◌≤◌, Bool, true, false, List, [], ◌∷◌, ◌++◌, length, get_or, take, refl, sym, ap, subst, ◌∙◌, inl, inr, arith, Result, Ok, Err}
use Rattle.std.specs.Prelude.{IfOk}
use Rattle.std.specs.Bool.{OnTrue}
use Rattle.std.proofs.lemmas.List.{take_more, take_all}
use Rattle.mon_list.specs.Has.{Has}
use Rattle.mon_header.specs.declared.header.Header.{Header}
use Rattle.mon_header.specs.Matching.{IsNormal}
use Rattle.mon_table.specs.declared.rule.Rule.{Rule}
use Rattle.mon_table.specs.Tables.{IsTable, slice}
use Rattle.mon_table.proofs.Listing.{has-all}
use Rattle.mon_table.proofs.Slicing.{slice-tied}
use Rattle.mon_outcome.specs.declared.emission.Emission.{Emission}
use Rattle.mon_certificate.specs.declared.certificate.Certificate.{Certificate}
use Rattle.mon_certificate.specs.declared.certificate.Certificate.TheVariants.{Probe, Nothing, Overlap}
use Rattle.mon_shows.specs.declared.target.Target.TheVariants.{Watch}
use Rattle.mon_shows.specs.Views.{Viewing}
use Rattle.mon_job.specs.Jobs.{Task, IsJob}
use Rattle.mon_job.proofs.Asking.{slice-asks}
use Rattle.mon_job.proofs.Separating.{slice-separates}
use Rattle.mon_solve.specs.Accepting.{is_accepted, CertificateIsTrue, IsItsKind}
use Rattle.mon_plan.specs.Planning.{watch_of, job_of, Each, IsCertificate}

-- the job of a rule of the table is one
pub watch-asks : (t part : List Rule) (r copy : Rule) → Has t r → part ≡ slice r.matching t → copy ≡ r → IsJob part (Watch copy)
watch-asks t part r copy i e f =
    subst (λ u. IsJob u (Watch copy)) (sym e) (subst (λ s. IsJob (slice r.matching t) (Watch s)) (sym f) (slice-asks t (Watch r) (record { own = tt; there = i })))

-- a probe and a tie are accepted of it exactly where they are of the whole table
pub whole-probe : (v : Viewing) (t : List Rule) (r : Rule) (h : Header) (e : Emission) → IsTable t → Has t r
    → is_accepted (job_of v t r) (Probe h e) ≡ is_accepted (watch_of v t r) (Probe h e)
whole-probe v t r h e table i = slice-separates v t (Watch r) h e table (has-all (λ s. IsNormal s.matching) t r table.normal i) tt

pub whole-overlap : (v : Viewing) (t : List Rule) (r : Rule) → is_accepted (job_of v t r) Overlap ≡ is_accepted (watch_of v t r) Overlap
whole-overlap v t r = slice-tied t r

-- what is true of it is true of the rule in the whole table, and the kinds are the same
pub whole-truth : (v : Viewing) (t : List Rule) (r : Rule) (c : Certificate) → IsTable t → Has t r → CertificateIsTrue (job_of v t r) c → CertificateIsTrue (watch_of v t r) c
whole-truth v t r (Probe h e) table i y = sym (slice-separates v t (Watch r) h e table (has-all (λ s. IsNormal s.matching) t r table.normal i) tt) ∙ y
whole-truth v t r (Nothing logs) table i y = λ h e. sym (slice-separates v t (Watch r) h e table (has-all (λ s. IsNormal s.matching) t r table.normal i) tt) ∙ y h e
whole-truth v t r Overlap table i y = sym (slice-tied t r) ∙ y

pub whole-kind : (v : Viewing) (t : List Rule) (r : Rule) (c : Certificate) → IsItsKind (job_of v t r) c → IsItsKind (watch_of v t r) c
whole-kind v t r (Probe h e) y = sym (slice-tied t r) ∙ y
whole-kind v t r (Nothing logs) y = sym (slice-tied t r) ∙ y
whole-kind v t r Overlap y = sym (slice-tied t r) ∙ y

pub whole-certificate : (v : Viewing) (t : List Rule) (r : Rule) (j : Task) (c : Certificate) → IsTable t → Has t r → j ≡ job_of v t r
    → is_accepted j c ≡ true → CertificateIsTrue j c → IsItsKind j c → IsCertificate v t r c
whole-certificate v t r j c table i e accepted truth kind = record {
  accepted = ap (λ k. is_accepted k c) (sym e) ∙ accepted;
  truth = whole-truth v t r c table i (subst (λ k. CertificateIsTrue k c) e truth);
  kind = whole-kind v t r c (subst (λ k. IsItsKind k c) e kind);
}

pub whole-if : (v : Viewing) (t : List Rule) (r : Rule) (j : Task) (c : Certificate) (b : Bool) → IsTable t → Has t r → j ≡ job_of v t r
    → OnTrue b (CertificateIsTrue j c) → OnTrue b (CertificateIsTrue (watch_of v t r) c)
whole-if v t r j c true table i e y = whole-truth v t r c table i (subst (λ k. CertificateIsTrue k c) e y)
whole-if v t r j c false table i e y = y

-- the same of what was answered
pub answered-certificate : {E : Type 0} (v : Viewing) (t : List Rule) (r : Rule) (j : Task) (o : Result Certificate E) → IsTable t → Has t r → j ≡ job_of v t r
    → IfOk o (λ c. is_accepted j c ≡ true) → IfOk o (CertificateIsTrue j) → IfOk o (IsItsKind j) → IfOk o (IsCertificate v t r)
answered-certificate v t r j (Ok c) table i e accepted truth kind = whole-certificate v t r j c table i e accepted truth kind
answered-certificate v t r j (Err f) table i e accepted truth kind = tt

pub answered-if : {E : Type 0} (v : Viewing) (t : List Rule) (r : Rule) (j : Task) (c : Certificate) (o : Result Bool E) → IsTable t → Has t r → j ≡ job_of v t r
    → IfOk o (λ b. OnTrue b (CertificateIsTrue j c)) → IfOk o (λ b. OnTrue b (CertificateIsTrue (watch_of v t r) c))
answered-if v t r j c (Ok b) table i e y = whole-if v t r j c b table i e y
answered-if v t r j c (Err f) table i e y = tt

-- a rule at a place is the table's
pub has-place : (t : List Rule) (n : ℕ) (d : Rule) → n < length t → Has t (get_or t n d)
has-place [] n d lt = absurd (omega (arith, lt))
has-place (r ∷ t) zero d lt = inl refl
has-place (r ∷ t) (suc n) d lt = inr (has-place t n d (omega (arith, lt)))

pub has-rule : (t : List Rule) (n : ℕ) (r : Rule) → n < length t → r ≡ get_or t n r → Has t r
has-rule t n r lt e = subst (Has t) (sym e) (has-place t n r lt)

-- certificates from the front
pub each-push : (P : Rule → Certificate → Type 0) (t : List Rule) (cs : List Certificate) (r : Rule) (c : Certificate) → Each P t cs → P r c
    → Each P (t ++ r ∷ []) (cs ++ c ∷ [])
each-push P [] [] r c e p = (p, tt)
each-push P [] (d ∷ cs) r c e p = absurd e
each-push P (s ∷ t) [] r c e p = absurd e
each-push P (s ∷ t) (d ∷ cs) r c e p = (e.0, each-push P t cs r c e.1 p)

pub each-more : (P : Rule → Certificate → Type 0) (t : List Rule) (cs new : List Certificate) (n : ℕ) (r : Rule) (c : Certificate) → n < length t → r ≡ get_or t n r
    → Each P (take n t) cs → P r c → new ≡ cs ++ c ∷ [] → Each P (take (n + 1) t) new
each-more P t cs new n r c lt is e p q =
    subst (λ u. Each P u new) (sym (take_more t n r lt ∙ ap (λ s. take n t ++ s ∷ []) (sym is)))
    (subst (Each P (take n t ++ r ∷ [])) (sym q) (each-push P (take n t) cs r c e p))

pub each-whole : (P : Rule → Certificate → Type 0) (t : List Rule) (cs : List Certificate) (n : ℕ) → length t ≤ n → Each P (take n t) cs → Each P t cs
each-whole P t cs n le e = subst (λ u. Each P u cs) (take_all n t le) e

pub each-length : (P : Rule → Certificate → Type 0) (t : List Rule) (cs : List Certificate) → Each P t cs → length cs ≡ length t
each-length P [] [] e = refl
each-length P [] (c ∷ cs) e = absurd e
each-length P (r ∷ t) [] e = absurd e
each-length P (r ∷ t) (c ∷ cs) e = ap suc (each-length P t cs e.1)
