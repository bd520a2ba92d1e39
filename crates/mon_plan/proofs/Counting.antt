-- Numbers of rules.
use Rattle.std.proofs.Common.{◌≡◌, ◌⊎◌, ℕ, zero, suc, ◌+◌, ◌≤◌, Bool, true, false, cond, List, [], ◌∷◌, length, take, refl, sym, ap, subst, ◌∙◌, inl, inr, ⊎_elim, arith}
use Rattle.std.specs.List.{count_by}
use Rattle.std.proofs.lemmas.List.Sums.{sum_by-cons}
use Rattle.std.proofs.lemmas.List.{take_all}
use Rattle.std.proofs.lemmas.Bool.{false≢true, false_from_ne_true, cases_Bool}
use Rattle.mon_table.specs.declared.rule.Rule.{Rule}
use Rattle.mon_table.specs.Tables.{tied}
use Rattle.mon_certificate.specs.declared.certificate.Certificate.{Certificate}
use Rattle.mon_certificate.specs.declared.certificate.Certificate.TheVariants.{Probe, Nothing, Overlap}
use Rattle.mon_shows.specs.Views.{Viewing}
use Rattle.mon_plan.specs.declared.summary.Summary.{Summary}
use Rattle.mon_plan.specs.Planning.{Each, IsCertificate, AreCertificates}
use Rattle.mon_plan.specs.Counting.{Count, IsTied, IsShown, IsUnseen, IsSummary, is_probe, is_nothing, is_overlap, summary_of}
use Rattle.mon_plan.proofs.Planning.{each-length}

-- a count of a rule and more: it is counted, or isn't
abbrev Counted : (Rule → Type 0) → Rule → List Rule → ℕ → Type 0
Counted P r t n = (P r × ((m : ℕ) × (n ≡ suc m) × Count P t m)) ⊎ ((P r → ⊥) × Count P t n)

counted : (P : Rule → Type 0) (r : Rule) (t : List Rule) (n : ℕ) → Count P (r ∷ t) n → Counted P r t n
counted P r t zero c = inr c
counted P r t (suc n) c = ⊎_elim (λ (y : P r × Count P t n). inl (y.0, (n, refl, y.1))) (λ (y : (P r → ⊥) × Count P t (suc n)). inr y) c

not-counted : (P : Rule → Type 0) (r : Rule) (t : List Rule) (n : ℕ) → (P r → ⊥) → Count P t n → Count P (r ∷ t) n
not-counted P r t zero f c = (f, c)
not-counted P r t (suc n) f c = inr (f, c)

-- there is one count
one-count : (P : Rule → Type 0) (t : List Rule) (m n : ℕ) → Count P t m → Count P t n → m ≡ n
one-count P [] m n a b = a ∙ sym b
one-count P (r ∷ t) m n a b = ⊎_elim
    (λ x. ⊎_elim
    (λ y. x.1.1 ∙ (ap suc (one-count P t x.1.0 y.1.0 x.1.2 y.1.2) ∙ sym y.1.1))
    (λ y. absurd (y.0 x.0))
    (counted P r t n b))
    (λ x. ⊎_elim
    (λ y. absurd (x.0 y.0))
    (λ y. one-count P t m n x.1 y.1)
    (counted P r t n b))
    (counted P r t m a)

pub one-summary : (v : Viewing) (t : List Rule) (a b : Summary) → IsSummary v t a → IsSummary v t b → a ≡ b
one-summary v t a b x y =
    let rules : a.rules ≡ b.rules = x.rules ∙ sym y.rules in
    let probes : a.probes ≡ b.probes = one-count (IsShown v t) t _ _ x.probes y.probes in
    let unseen : a.indistinguishable ≡ b.indistinguishable = one-count (IsUnseen v t) t _ _ x.indistinguishable y.indistinguishable in
    let overlap : a.overlap ≡ b.overlap = one-count (IsTied t) t _ _ x.overlap y.overlap in
    λ i. record { rules = rules i; probes = probes i; indistinguishable = unseen i; overlap = overlap i }

-- where each rule is of exactly one of three kinds, their counts sum to the number of rules
three-counts : (A B C : Rule → Type 0) → ((r : Rule) → A r → B r → ⊥) → ((r : Rule) → A r → C r → ⊥) → ((r : Rule) → B r → C r → ⊥)
    → ((r : Rule) → (A r → ⊥) → (B r → ⊥) → C r) → (t : List Rule) (a b c : ℕ) → Count A t a → Count B t b → Count C t c → length t ≡ a + b + c
three-counts A B C ab ac bc one [] a b c x y z = omega (arith, x, y, z)
three-counts A B C ab ac bc one (r ∷ t) a b c x y z = ⊎_elim
    (λ p. ⊎_elim
    (λ q. absurd (ab r p.0 q.0))
    (λ q. ⊎_elim
    (λ s. absurd (ac r p.0 s.0))
    (λ s. let more = three-counts A B C ab ac bc one t p.1.0 b c p.1.2 q.1 s.1 in omega (arith, more, p.1.1))
    (counted C r t c z))
    (counted B r t b y))
    (λ p. ⊎_elim
    (λ q. ⊎_elim
    (λ s. absurd (bc r q.0 s.0))
    (λ s. let more = three-counts A B C ab ac bc one t a q.1.0 c p.1 q.1.2 s.1 in omega (arith, more, q.1.1))
    (counted C r t c z))
    (λ q. ⊎_elim
    (λ s. let more = three-counts A B C ab ac bc one t a b s.1.0 p.1 q.1 s.1.2 in omega (arith, more, s.1.1))
    (λ s. absurd (s.0 (one r p.0 q.0)))
    (counted C r t c z))
    (counted B r t b y))
    (counted A r t a x)

-- each rule is shown, unseen or tied
shown-unseen : (v : Viewing) (t : List Rule) (r : Rule) → IsShown v t r → IsUnseen v t r → ⊥
shown-unseen v t r a b = false≢true (sym (b.1 a.1.0 a.1.1) ∙ a.1.2)

else-tied : (v : Viewing) (t : List Rule) (r : Rule) → (IsShown v t r → ⊥) → (IsUnseen v t r → ⊥) → IsTied t r
else-tied v t r a b = ⊎_elim
    (λ y. y)
    (λ (n : tied t r ≡ false). absurd (b (n, λ h e. false_from_ne_true _ (λ s. a (n, (h, e, s))))))
    (cases_Bool (tied t r))

pub summary-sums : (v : Viewing) (t : List Rule) (s : Summary) → IsSummary v t s → s.rules ≡ s.probes + s.indistinguishable + s.overlap
summary-sums v t s x = x.rules ∙ three-counts (IsShown v t) (IsUnseen v t) (IsTied t)
    (shown-unseen v t)
    (λ r a c. false≢true (sym a.0 ∙ c))
    (λ r b c. false≢true (sym b.0 ∙ c))
    (else-tied v t)
    t _ _ _ x.probes x.indistinguishable x.overlap

one-more : (test : Certificate → Bool) (c : Certificate) (cs : List Certificate) → test c ≡ true → count_by test (c ∷ cs) ≡ suc (count_by test cs)
one-more test c cs y =
    let step : count_by test (c ∷ cs) ≡ cond (test c) 1 0 + count_by test cs = sum_by-cons (λ d. cond (test d) 1 0) c cs in
    let one : cond {A = ℕ} (test c) 1 0 ≡ 1 = ap (λ b. cond b 1 0) y in
    omega (arith, step, one)

no-more : (test : Certificate → Bool) (c : Certificate) (cs : List Certificate) → test c ≡ false → count_by test (c ∷ cs) ≡ count_by test cs
no-more test c cs y =
    let step : count_by test (c ∷ cs) ≡ cond (test c) 1 0 + count_by test cs = sum_by-cons (λ d. cond (test d) 1 0) c cs in
    let none : cond {A = ℕ} (test c) 1 0 ≡ 0 = ap (λ b. cond b 1 0) y in
    omega (arith, step, none)

-- certificates are counted as their rules are
counts : (P : Rule → Type 0) (test : Certificate → Bool) (Q : Rule → Certificate → Type 0)
    → ((r : Rule) (c : Certificate) → Q r c → test c ≡ true → P r) → ((r : Rule) (c : Certificate) → Q r c → test c ≡ false → P r → ⊥)
    → (t : List Rule) (cs : List Certificate) → Each Q t cs → Count P t (count_by test cs)
counts P test Q is other [] [] e = refl
counts P test Q is other [] (c ∷ cs) e = absurd e
counts P test Q is other (r ∷ t) [] e = absurd e
counts P test Q is other (r ∷ t) (c ∷ cs) e =
    elim (test c) as (λ b. test c ≡ b → Count P (r ∷ t) (count_by test (c ∷ cs))) [
      | true ↦ λ y. subst (Count P (r ∷ t)) (sym (one-more test c cs y)) (inl (is r c e.0 y, counts P test Q is other t cs e.1))
      | false ↦ λ y. subst (Count P (r ∷ t)) (sym (no-more test c cs y)) (not-counted P r t _ (other r c e.0 y) (counts P test Q is other t cs e.1))
    ] refl

probe-shown : (v : Viewing) (t : List Rule) (r : Rule) (c : Certificate) → IsCertificate v t r c → is_probe c ≡ true → IsShown v t r
probe-shown v t r (Probe h e) i y = (i.kind, (h, e, i.truth))
probe-shown v t r (Nothing logs) i y = absurd (false≢true y)
probe-shown v t r Overlap i y = absurd (false≢true y)

other-shown : (v : Viewing) (t : List Rule) (r : Rule) (c : Certificate) → IsCertificate v t r c → is_probe c ≡ false → IsShown v t r → ⊥
other-shown v t r (Probe h e) i y s = false≢true (sym y)
other-shown v t r (Nothing logs) i y s = false≢true (sym (i.truth s.1.0 s.1.1) ∙ s.1.2)
other-shown v t r Overlap i y s = false≢true (sym s.0 ∙ i.kind)

nothing-unseen : (v : Viewing) (t : List Rule) (r : Rule) (c : Certificate) → IsCertificate v t r c → is_nothing c ≡ true → IsUnseen v t r
nothing-unseen v t r (Probe h e) i y = absurd (false≢true y)
nothing-unseen v t r (Nothing logs) i y = (i.kind, i.truth)
nothing-unseen v t r Overlap i y = absurd (false≢true y)

other-unseen : (v : Viewing) (t : List Rule) (r : Rule) (c : Certificate) → IsCertificate v t r c → is_nothing c ≡ false → IsUnseen v t r → ⊥
other-unseen v t r (Probe h e) i y s = false≢true (sym (s.1 h e) ∙ i.truth)
other-unseen v t r (Nothing logs) i y s = false≢true (sym y)
other-unseen v t r Overlap i y s = false≢true (sym s.0 ∙ i.kind)

overlap-tied : (v : Viewing) (t : List Rule) (r : Rule) (c : Certificate) → IsCertificate v t r c → is_overlap c ≡ true → IsTied t r
overlap-tied v t r (Probe h e) i y = absurd (false≢true y)
overlap-tied v t r (Nothing logs) i y = absurd (false≢true y)
overlap-tied v t r Overlap i y = i.kind

other-tied : (v : Viewing) (t : List Rule) (r : Rule) (c : Certificate) → IsCertificate v t r c → is_overlap c ≡ false → IsTied t r → ⊥
other-tied v t r (Probe h e) i y s = false≢true (sym i.kind ∙ s)
other-tied v t r (Nothing logs) i y s = false≢true (sym i.kind ∙ s)
other-tied v t r Overlap i y s = false≢true (sym y)

pub planned-summary : (v : Viewing) (t : List Rule) (cs : List Certificate) → AreCertificates v t cs → IsSummary v t (summary_of cs)
planned-summary v t cs e = record {
  rules = each-length (IsCertificate v t) t cs e;
  probes = counts (IsShown v t) is_probe (IsCertificate v t) (probe-shown v t) (other-shown v t) t cs e;
  indistinguishable = counts (IsUnseen v t) is_nothing (IsCertificate v t) (nothing-unseen v t) (other-unseen v t) t cs e;
  overlap = counts (IsTied t) is_overlap (IsCertificate v t) (overlap-tied v t) (other-tied v t) t cs e;
}

-- the same of numbers that are equal to theirs
pub planned-counts : (v : Viewing) (t : List Rule) (cs : List Certificate) (s : Summary) → s ≡ summary_of cs → AreCertificates v t cs → IsSummary v t s
planned-counts v t cs s e certificates = subst (IsSummary v t) (sym e) (planned-summary v t cs certificates)

pub counted-all : (cs items again : List Certificate) (n a b c : ℕ) → items ≡ cs → again ≡ cs → length items ≤ n
    → a ≡ count_by is_probe (take n items) → b ≡ count_by is_nothing (take n items) → c ≡ count_by is_overlap (take n items)
    → record { rules = length again; probes = a; indistinguishable = b; overlap = c } ≡ summary_of cs
counted-all cs items again n a b c same too all p q r =
    let whole : take n items ≡ cs = take_all n items all ∙ same in
    let rules : length again ≡ length cs = ap length too in
    let probes : a ≡ count_by is_probe cs = p ∙ ap (count_by is_probe) whole in
    let unseen : b ≡ count_by is_nothing cs = q ∙ ap (count_by is_nothing) whole in
    let overlap : c ≡ count_by is_overlap cs = r ∙ ap (count_by is_overlap) whole in
    λ i. record { rules = rules i; probes = probes i; indistinguishable = unseen i; overlap = overlap i }
