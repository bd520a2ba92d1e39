-- A text is of one list of certificates only.
use Rattle.std.proofs.Common.{◌≡◌, ℕ, suc, refl, sym, ap, ◌∙◌, List, [], ◌∷◌, ◌++◌, length, Some, arith, decimal, codes, append_assoc}
use Rattle.std.specs.List.{flat_map, AllByRecursion}
use Rattle.std.proofs.lemmas.List.{append-nil}
use Rattle.mon_text.specs.Parts.{behind, feed}
use Rattle.mon_text.proofs.Joining.{behind-again}
use Rattle.mon_refute.specs.declared.lines.LogLine.{LogLine}
use Rattle.mon_refute.specs.Text.{line_text, log_text, FitsLog}
use Rattle.mon_refute.specs.Reading.{CountAt, LinesAt}
use Rattle.mon_refute.proofs.LineTexts.{log_once}
use Rattle.mon_certificate.specs.declared.certificate.Certificate.{Certificate}
use Rattle.mon_certificate.specs.declared.certificate.Certificate.TheVariants.{Probe, Nothing, Overlap}
use Rattle.mon_certificate_file.specs.CertificateFile.{logs_text, probe_text, nothing_text, certificate_text, row, FitsLogs, FitsCertificate, Spells}
use Rattle.mon_certificate_file.specs.Reading.{PartAt}
use Rattle.mon_certificate_file.proofs.LineReaders.{overlap-again, reader_probe}
use Rattle.mon_certificate_file.proofs.Certifying.{logs_count, logs_row, nothing_rule, nothing_part, probe_same, refuted_same, overlap_same, file_head, file_row}
use Rattle.mon_refute.proofs.Items.{cons_parts}

pub log-once : (l m : List LogLine) (r s : List ℕ) → FitsLog l → FitsLog m → log_text l ++ r ≡ log_text m ++ s → (l ≡ m) × (r ≡ s)
log-once l m r s f g e =
    let count : CountAt (log_text l ++ r) (length l) (flat_map line_text l ++ r) = record { is = ap (λ t. codes "log " ++ t) (append_assoc (decimal (length l)) (10 ∷ flat_map line_text l) r); fits = f.0 } in
    let lines : LinesAt (flat_map line_text l ++ r) (length l) l r = record { is = refl; count_is = refl; fit = f.1 } in
    log_once (log_text l ++ r) (flat_map line_text l ++ r) r (length l) l m s count lines (record { is = e; fits = g })

module _ {X : Type 0} (text : ℕ → X → List ℕ) (Fits : X → Type 0) (once : (n : ℕ) (x y : X) (r s : List ℕ) → Fits x → Fits y → text n x ++ r ≡ text n y ++ s → (x ≡ y) × (r ≡ s)) where
  pub row-once : (place : ℕ) (xs ys : List X) (r s : List ℕ) → length xs ≡ length ys → AllByRecursion Fits xs → AllByRecursion Fits ys → row text place xs ++ r ≡ row text place ys ++ s → (xs ≡ ys) × (r ≡ s)
  row-once place [] [] r s n f g e = (refl, e)
  row-once place [] (y ∷ ys) r s n f g e = absurd (omega arith)
  row-once place (x ∷ xs) [] r s n f g e = absurd (omega arith)
  row-once place (x ∷ xs) (y ∷ ys) r s n f g e =
      let one = once place x y (row text (suc place) xs ++ r) (row text (suc place) ys ++ s) f.0 g.0
      (sym (append_assoc (text place x) (row text (suc place) xs) r) ∙ e ∙ append_assoc (text place y) (row text (suc place) ys) s) in
      let more = row-once (suc place) xs ys r s (omega arith) f.1 g.1 one.1 in
      (cons_parts x y xs ys one.0 more.0, more.1)

logs-once : (rule : ℕ) (logs others : List (List LogLine)) (r s : List ℕ) → FitsLogs logs → PartAt (nothing_text rule) FitsLogs (nothing_text rule logs ++ r) others s → (logs ≡ others) × (r ≡ s)
logs-once rule logs others r s f p =
    let part = nothing_part rule (nothing_text rule logs ++ r) (logs_text logs ++ r) others s (nothing_rule rule (nothing_text rule logs ++ r) logs r (record { is = refl; fits = f })) p in
    let a = logs_row (logs_text logs ++ r) (row (λ _. log_text) 0 logs ++ r) (length logs) others s (logs_count (logs_text logs ++ r) logs r (record { is = refl; fits = f })) part in
    row-once (λ _. log_text) FitsLog (λ n l m q t. log-once l m q t) 0 logs others r s (sym a.count_is) f.1 p.fits.1 a.is

front : (word text r : List ℕ) → behind word ((word ++ text) ++ r) ≡ Some (text ++ r)
front word text r = ap (behind word) (append_assoc word text r) ∙ behind-again word (text ++ r)

pub certificate-once : (rule : ℕ) (c d : Certificate) (r s : List ℕ) → FitsCertificate c → FitsCertificate d → certificate_text rule c ++ r ≡ certificate_text rule d ++ s → (c ≡ d) × (r ≡ s)
certificate-once rule (Probe h e) d r s f g is =
    probe_same rule (certificate_text rule (Probe h e) ++ r) (probe_text rule (h, e) ++ r) h e r d s (front (codes "probe ") (probe_text rule (h, e)) r) ((reader_probe rule).again (h, e) r f) (record { is = is; fits = g })
certificate-once rule (Nothing logs) d r s f g is =
    refuted_same rule (certificate_text rule (Nothing logs) ++ r) (nothing_text rule logs ++ r) logs r d s (front (codes "none ") (nothing_text rule logs) r) (λ others q p. logs-once rule logs others r q f p) (record { is = is; fits = g })
certificate-once rule Overlap d r s f g is =
    overlap_same rule (certificate_text rule Overlap ++ r) ((decimal rule ++ feed) ++ r) r d s (front (codes "overlap ") (decimal rule ++ feed) r) (overlap-again rule r) (record { is = is; fits = g })

pub spelled-once : (text : List ℕ) (a b : List Certificate) → Spells text a → Spells text b → a ≡ b
spelled-once text a b s t =
    let p = file_row text (row certificate_text 0 a) (length a) b (file_head text a s) t in
    (row-once certificate_text FitsCertificate certificate-once 0 a b [] [] (sym p.count_is) s.fit.1 t.fit.1 (append-nil (row certificate_text 0 a) ∙ p.is)).0
