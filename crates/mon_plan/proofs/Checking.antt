-- What is said of certificates, step by step and as a whole.
use Rattle.std.proofs.Common.{◌≡◌, ◌↔◌, ℕ, zero, suc, ◌+◌, ◌<◌, ◌≤◌, Bool, true, false, cond, List, [], ◌∷◌, ◌++◌, length, get_or, take, drop, length-drop, refl, sym, ap, subst, ◌∙◌, arith}
use Rattle.std.specs.Bool.{OnTrue}
use Rattle.std.proofs.lemmas.Bool.{false≢true}
use Rattle.std.proofs.lemmas.List.{take_more, take_all, at_drop_more, at_drop_all}
use Rattle.mon_table.specs.declared.rule.Rule.{Rule}
use Rattle.mon_certificate.specs.declared.certificate.Certificate.{Certificate}
use Rattle.mon_shows.specs.Views.{Viewing}
use Rattle.mon_solve.specs.Accepting.{is_accepted}
use Rattle.mon_plan.specs.declared.check.Checked.{Checked}
use Rattle.mon_plan.specs.declared.check.Checked.TheVariants.{Accepted, Refused}
use Rattle.mon_plan.specs.Planning.{job_of, Each, IsCertificate, AreCertificates, AreAccepted}
use Rattle.mon_plan.specs.Checking.{checked_from, checked, IsRefusedFrom, IsRefusedAt}
use Rattle.mon_plan.proofs.Planning.{each-push}

-- one step
pub next-checked : (v : Viewing) (t rules : List Rule) (cs : List Certificate) (n : ℕ) (r : Rule) (c : Certificate) → n < length rules → n < length cs
    → checked_from v t n (drop n rules) (drop n cs)
    ≡ cond (is_accepted (job_of v t (get_or rules n r)) (get_or cs n c)) (checked_from v t (suc n) (drop (n + 1) rules) (drop (n + 1) cs)) (Refused n)
next-checked v t rules cs n r c a b =
    at_drop_more (λ rs. checked_from v t n rs (drop n cs)) rules n r a
    ∙ at_drop_more (λ ds. checked_from v t n (get_or rules n r ∷ drop (n + 1) rules) ds) cs n c b

pub accepted-more : (v : Viewing) (t : List Rule) (cs : List Certificate) (n : ℕ) (r : Rule) (c : Certificate) (whole : Checked) → n < length t → n < length cs
    → r ≡ get_or t n r → c ≡ get_or cs n c → is_accepted (job_of v t r) c ≡ true → checked_from v t n (drop n t) (drop n cs) ≡ whole
    → checked_from v t (n + 1) (drop (n + 1) t) (drop (n + 1) cs) ≡ whole
accepted-more v t cs n r c whole a b is js y e =
    let test : is_accepted (job_of v t (get_or t n r)) (get_or cs n c) ≡ true = subst (λ s. is_accepted (job_of v t s) (get_or cs n c) ≡ true) is (subst (λ d. is_accepted (job_of v t r) d ≡ true) js y) in
    let next : n + 1 ≡ suc n = omega arith in
    ap (λ k. checked_from v t k (drop (n + 1) t) (drop (n + 1) cs)) next
    ∙ (sym (next-checked v t t cs n r c a b ∙ ap (λ x. cond x (checked_from v t (suc n) (drop (n + 1) t) (drop (n + 1) cs)) (Refused n)) test) ∙ e)

pub refused-here : (v : Viewing) (t : List Rule) (cs : List Certificate) (n : ℕ) (r : Rule) (c : Certificate) (whole : Checked) → n < length t → n < length cs
    → r ≡ get_or t n r → c ≡ get_or cs n c → is_accepted (job_of v t r) c ≡ false → checked_from v t n (drop n t) (drop n cs) ≡ whole → Refused n ≡ whole
refused-here v t cs n r c whole a b is js y e =
    let test : is_accepted (job_of v t (get_or t n r)) (get_or cs n c) ≡ false = subst (λ s. is_accepted (job_of v t s) (get_or cs n c) ≡ false) is (subst (λ d. is_accepted (job_of v t r) d ≡ false) js y) in
    sym (next-checked v t t cs n r c a b ∙ ap (λ x. cond x (checked_from v t (suc n) (drop (n + 1) t) (drop (n + 1) cs)) (Refused n)) test) ∙ e

few-left : (v : Viewing) (t rules : List Rule) (n : ℕ) → 0 < length rules → checked_from v t n rules [] ≡ Refused n
few-left v t [] n lt = absurd (omega (arith, lt))
few-left v t (r ∷ rules) n lt = refl

pub refused-few : (v : Viewing) (t : List Rule) (cs : List Certificate) (n : ℕ) (whole : Checked) → n < length t → length cs ≤ n
    → checked_from v t n (drop n t) (drop n cs) ≡ whole → Refused n ≡ whole
refused-few v t cs n whole a b e =
    let left : 0 < length (drop n t) = rw (length-drop n t) (omega (arith, a)) in
    sym (at_drop_all (λ ds. checked_from v t n (drop n t) ds) cs n b ∙ few-left v t (drop n t) n left) ∙ e

-- at the end of the table
more-left : (v : Viewing) (t : List Rule) (n : ℕ) (cs : List Certificate) → 0 < length cs → checked_from v t n [] cs ≡ Refused n
more-left v t n [] lt = absurd (omega (arith, lt))
more-left v t n (c ∷ cs) lt = refl

pub refused-more : (v : Viewing) (t : List Rule) (cs : List Certificate) (n : ℕ) (whole : Checked) → length t ≤ n → n < length cs
    → checked_from v t n (drop n t) (drop n cs) ≡ whole → Refused n ≡ whole
refused-more v t cs n whole a b e =
    let left : 0 < length (drop n cs) = rw (length-drop n cs) (omega (arith, b)) in
    sym (at_drop_all (λ rs. checked_from v t n rs (drop n cs)) t n a ∙ more-left v t n (drop n cs) left) ∙ e

pub accepted-all : (v : Viewing) (t : List Rule) (cs : List Certificate) (n : ℕ) (whole : Checked) → length t ≤ n → length cs ≤ n
    → checked_from v t n (drop n t) (drop n cs) ≡ whole → Accepted n ≡ whole
accepted-all v t cs n whole a b e =
    sym (at_drop_all (λ rs. checked_from v t n rs (drop n cs)) t n a ∙ at_drop_all (λ ds. checked_from v t n [] ds) cs n b) ∙ e

-- one certificate more is true
pub each-both : (P : Rule → Certificate → Type 0) (t : List Rule) (cs : List Certificate) (n : ℕ) (r : Rule) (c : Certificate) → n < length t → n < length cs
    → r ≡ get_or t n r → c ≡ get_or cs n c → Each P (take n t) (take n cs) → P r c → Each P (take (n + 1) t) (take (n + 1) cs)
each-both P t cs n r c a b is js e p =
    subst (λ u. Each P u (take (n + 1) cs)) (sym (take_more t n r a ∙ ap (λ s. take n t ++ s ∷ []) (sym is)))
    (subst (Each P (take n t ++ r ∷ [])) (sym (take_more cs n c b ∙ ap (λ d. take n cs ++ d ∷ []) (sym js))) (each-push P (take n t) (take n cs) r c e p))

pub each-all : (P : Rule → Certificate → Type 0) (t : List Rule) (cs : List Certificate) (n : ℕ) → length t ≤ n → length cs ≤ n → Each P (take n t) (take n cs) → Each P t cs
each-all P t cs n a b e = subst (λ u. Each P u cs) (take_all n t a) (subst (Each P (take n t)) (take_all n cs b) e)

pub true-if : (P : Type 0) (b : Bool) → b ≡ true → OnTrue b P → P
true-if P true e p = p
true-if P false e p = absurd (false≢true e)

-- what Accepted says
abbrev Good : Viewing → List Rule → Rule → Certificate → Type 0
Good v t r c = is_accepted (job_of v t r) c ≡ true

accepted-each : (v : Viewing) (t rules : List Rule) (cs : List Certificate) (m n : ℕ) → checked_from v t m rules cs ≡ Accepted n → (n ≡ m + length rules) × Each (Good v t) rules cs
accepted-each v t [] [] m n e = let same : m ≡ n = cc in (omega (arith, same), tt)
accepted-each v t [] (c ∷ cs) m n e = absurd (let f : ⊥ = cc in f)
accepted-each v t (r ∷ rules) [] m n e = absurd (let f : ⊥ = cc in f)
accepted-each v t (r ∷ rules) (c ∷ cs) m n e =
    elim (is_accepted (job_of v t r) c) as (λ b. is_accepted (job_of v t r) c ≡ b → cond b (checked_from v t (suc m) rules cs) (Refused m) ≡ Accepted n
    → (n ≡ m + length (r ∷ rules)) × Each (Good v t) (r ∷ rules) (c ∷ cs)) [
      | true ↦ λ y f. let more = accepted-each v t rules cs (suc m) n f in (omega (arith, more.0), (y, more.1))
      | false ↦ λ y f. absurd (let g : ⊥ = cc in g)
    ] refl e

pub each-accepted : (v : Viewing) (t rules : List Rule) (cs : List Certificate) (m n : ℕ) → n ≡ m + length rules → Each (Good v t) rules cs → checked_from v t m rules cs ≡ Accepted n
each-accepted v t [] [] m n e f = ap Accepted (omega (arith, e))
each-accepted v t [] (c ∷ cs) m n e f = absurd f
each-accepted v t (r ∷ rules) [] m n e f = absurd f
each-accepted v t (r ∷ rules) (c ∷ cs) m n e f =
    ap (λ b. cond b (checked_from v t (suc m) rules cs) (Refused m)) f.0 ∙ each-accepted v t rules cs (suc m) n (omega (arith, e)) f.1

pub accepted-says : (v : Viewing) (t : List Rule) (cs : List Certificate) (n : ℕ) → (checked v t cs ≡ Accepted n) ↔ ((n ≡ length t) × AreAccepted v t cs)
accepted-says v t cs n = (λ e. let f = accepted-each v t t cs 0 n e in (omega (arith, f.0), f.1), λ p. each-accepted v t t cs 0 n (omega (arith, p.0)) p.1)

-- what Refused says
refused-at : (v : Viewing) (t rules : List Rule) (cs : List Certificate) (m n : ℕ) → checked_from v t m rules cs ≡ Refused n → (k : ℕ) × (n ≡ m + k) × IsRefusedFrom v t rules cs k
refused-at v t [] [] m n e = absurd (let f : ⊥ = cc in f)
refused-at v t [] (c ∷ cs) m n e = let same : m ≡ n = cc in (0, omega (arith, same), record { before = tt; here = tt })
refused-at v t (r ∷ rules) [] m n e = let same : m ≡ n = cc in (0, omega (arith, same), record { before = tt; here = tt })
refused-at v t (r ∷ rules) (c ∷ cs) m n e =
    elim (is_accepted (job_of v t r) c) as (λ b. is_accepted (job_of v t r) c ≡ b → cond b (checked_from v t (suc m) rules cs) (Refused m) ≡ Refused n
    → (k : ℕ) × (n ≡ m + k) × IsRefusedFrom v t (r ∷ rules) (c ∷ cs) k) [
      | true ↦ λ y f. let more = refused-at v t rules cs (suc m) n f in (suc more.0, omega (arith, more.1), record { before = (y, more.2.before); here = more.2.here })
      | false ↦ λ y f. let same : m ≡ n = cc in (0, omega (arith, same), record { before = tt; here = y })
    ] refl e

at-refused : (v : Viewing) (t rules : List Rule) (cs : List Certificate) (m k : ℕ) → IsRefusedFrom v t rules cs k → checked_from v t m rules cs ≡ Refused (m + k)
at-refused v t [] [] m zero i = absurd i.here
at-refused v t [] [] m (suc k) i = absurd i.here
at-refused v t [] (c ∷ cs) m zero i = ap Refused (omega arith)
at-refused v t [] (c ∷ cs) m (suc k) i = absurd i.before
at-refused v t (r ∷ rules) [] m zero i = ap Refused (omega arith)
at-refused v t (r ∷ rules) [] m (suc k) i = absurd i.before
at-refused v t (r ∷ rules) (c ∷ cs) m zero i = ap (λ b. cond b (checked_from v t (suc m) rules cs) (Refused m)) i.here ∙ ap Refused (omega arith)
at-refused v t (r ∷ rules) (c ∷ cs) m (suc k) i =
    ap (λ b. cond b (checked_from v t (suc m) rules cs) (Refused m)) i.before.0
    ∙ (at-refused v t rules cs (suc m) k (record { before = i.before.1; here = i.here }) ∙ ap Refused (omega arith))

pub refused-says : (v : Viewing) (t : List Rule) (cs : List Certificate) (n : ℕ) → (checked v t cs ≡ Refused n) ↔ IsRefusedAt v t cs n
refused-says v t cs n = (
  λ e. let f = refused-at v t t cs 0 n e in let same : f.0 ≡ n = omega (arith, f.1) in subst (IsRefusedFrom v t t cs) same f.2,
  λ i. at-refused v t t cs 0 n i ∙ ap Refused (omega arith),
)

-- what is planned is accepted
planned-each : (v : Viewing) (t rules : List Rule) (cs : List Certificate) → Each (IsCertificate v t) rules cs → Each (Good v t) rules cs
planned-each v t [] [] e = tt
planned-each v t [] (c ∷ cs) e = absurd e
planned-each v t (r ∷ rules) [] e = absurd e
planned-each v t (r ∷ rules) (c ∷ cs) e = (e.0.accepted, planned-each v t rules cs e.1)

pub planned-accepted : (v : Viewing) (t : List Rule) (cs : List Certificate) → AreCertificates v t cs → checked v t cs ≡ Accepted (length t)
planned-accepted v t cs e = each-accepted v t t cs 0 (length t) (omega arith) (planned-each v t t cs e)
