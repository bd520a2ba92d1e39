-- One certificate more is written.
use Rattle.std.proofs.Common.{◌≡◌, ℕ, zero, suc, ◌+◌, ◌<◌, sym, ap, subst, ◌∙◌, List, [], ◌∷◌, ◌++◌, length, take, get_or, arith, decimal, append_assoc}
use Rattle.std.specs.List.{AllByRecursion}
use Rattle.std.proofs.lemmas.List.{take_more, length-take-le}
use Rattle.mon_certificate.specs.declared.certificate.Certificate.{Certificate}
use Rattle.mon_certificate_file.specs.CertificateFile.{row, certificate_text, IsCertificateInRange, FitsCertificate}
use Rattle.mon_certificate_file.proofs.LineReaders.{head_words}
use Rattle.mon_certificate_file.proofs.Rows.{row_push}
use Rattle.mon_text.proofs.Growing.{all_push}
use Rattle.mon_text.specs.Parts.{feed}

all_at : {X : Type 0} (P : X → Type 0) (xs : List X) (i : ℕ) (d : X) → i < length xs → AllByRecursion P xs → P (get_or xs i d)
all_at P [] i d lt all = absurd (omega arith)
all_at P (x ∷ xs) zero d lt all = all.0
all_at P (x ∷ xs) (suc i) d lt all = all_at P xs i d (omega arith) all.1

taken : (cs : List Certificate) (i : ℕ) (c : Certificate) → i < length cs → c ≡ get_or cs i c → take (i + 1) cs ≡ take i cs ++ c ∷ []
taken cs i c lt is = take_more cs i c lt ∙ ap (λ x. take i cs ++ x ∷ []) (sym is)

row-taken : (cs : List Certificate) (i : ℕ) (c : Certificate) → i < length cs → c ≡ get_or cs i c → row certificate_text 0 (take i cs) ++ certificate_text i c ≡ row certificate_text 0 (take (i + 1) cs)
row-taken cs i c lt is =
    let many : length (take i cs) ≡ i = length-take-le i cs (omega arith) in
    let place : i ≡ 0 + length (take i cs) = omega arith in
    ap (λ n. row certificate_text 0 (take i cs) ++ certificate_text n c) place
    ∙ sym (row_push certificate_text FitsCertificate 0 (take i cs) c)
    ∙ ap (row certificate_text 0) (sym (taken cs i c lt is))

pub more_text : (cs : List Certificate) (i n : ℕ) (c : Certificate) (out new : List ℕ) → i < length cs → c ≡ get_or cs i c → out ≡ head_words ++ (decimal n ++ (feed ++ row certificate_text 0 (take i cs)))
    → new ≡ out ++ certificate_text i c → new ≡ head_words ++ (decimal n ++ (feed ++ row certificate_text 0 (take (i + 1) cs)))
more_text cs i n c out new lt is so_far more =
    let done = row certificate_text 0 (take i cs) in
    let text = certificate_text i c in
    more
    ∙ ap (λ t. t ++ text) so_far
    ∙ append_assoc head_words (decimal n ++ (feed ++ done)) text
    ∙ ap (λ t. head_words ++ t) (append_assoc (decimal n) (feed ++ done) text ∙ ap (λ t. decimal n ++ t) (append_assoc feed done text))
    ∙ ap (λ t. head_words ++ (decimal n ++ (feed ++ t))) (row-taken cs i c lt is)

pub more_fit : (cs : List Certificate) (i : ℕ) (c : Certificate) → i < length cs → c ≡ get_or cs i c → (AllByRecursion IsCertificateInRange cs → AllByRecursion FitsCertificate (take i cs)) → (IsCertificateInRange c → FitsCertificate c)
    → AllByRecursion IsCertificateInRange cs → AllByRecursion FitsCertificate (take (i + 1) cs)
more_fit cs i c lt is so_far one all =
    subst (AllByRecursion FitsCertificate) (sym (taken cs i c lt is))
    (all_push FitsCertificate (take i cs) c (so_far all) (one (subst IsCertificateInRange (sym is) (all_at IsCertificateInRange cs i c lt all))))
