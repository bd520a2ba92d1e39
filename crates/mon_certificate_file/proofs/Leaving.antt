-- Where a text leaves the form of a certificate file.
use Rattle.std.proofs.Common.{◌≡◌, ◌≢◌, ℕ, suc, ◌+◌, ◌^◌, ◌<◌, refl, sym, ap, subst, ◌∙◌, List, [], ◌∷◌, ◌++◌, length, Some, None, Result, Ok, Err, Bor, arith, decimal, codes, append_assoc}
use Rattle.std.specs.List.{flat_map, AllByRecursion}
use Rattle.std.proofs.lemmas.Option.{none-some}
use Rattle.mon_text.specs.Parts.{behind, feed}
use Rattle.mon_text.specs.declared.fault.FileFault.{FileFault}
use Rattle.mon_text.specs.declared.fault.FileFault.TheVariants as file
use Rattle.mon_text.specs.declared.fault.LineFault.{LineFault}
use Rattle.mon_text.specs.declared.fault.LineFault.TheVariants as line
use Rattle.mon_text.specs.BadLines.{NoFeed, AreLines, IsFirstBadLine, IsBadFrom}
use Rattle.mon_text.specs.Faults.{OnBadAt, OnBadFrom, IsWithin, StopsIn}
use Rattle.mon_text.proofs.Feedless.{feedless_is, feedless_join, feedless_decimal, feedless_hex}
use Rattle.mon_text.proofs.Joining.{behind-found, behind-again}
use Rattle.mon_text.proofs.Stopping.{lines_join, lines_feed, Ends, ends_behind, ends_feed, cancel, bad_as, bad_here, bad_behind, bad_after, Row, row_bad}
use Rattle.mon_header.specs.declared.header.Header.{Header}
use Rattle.mon_outcome.specs.declared.emission.Emission.{Emission}
use Rattle.mon_outcome.specs.declared.emission.Emission.TheVariants.{Port, Controller, Miss}
use Rattle.mon_refute.specs.declared.lines.LogLine.{LogLine}
use Rattle.mon_refute.specs.Text.{log_text, FitsLog, IsLogText}
use Rattle.mon_refute.proofs.Leaving.{whole_log}
use Rattle.mon_certificate.specs.declared.certificate.Certificate.{Certificate}
use Rattle.mon_certificate.specs.declared.certificate.Certificate.TheVariants.{Probe, Nothing, Overlap}
use Rattle.mon_certificate_file.specs.Headers.{header_bytes}
use Rattle.mon_certificate_file.specs.CertificateFile.{header_text, emission_text, certificate_text, row, certificates_text, FitsEmission, FitsCertificate, Spells, IsCertificateFile}
use Rattle.mon_certificate_file.specs.Reading.{probe_in, overlap_in, nothing_in, head_in, IsOne, IsRow, FileAt}
use Rattle.mon_certificate_file.proofs.LineReaders.{head_words, reader_head}
use Rattle.mon_certificate_file.proofs.Rows.{flat_is_row, SoFar}
use Rattle.mon_certificate_file.proofs.Certifying.{some_is, CertificateAt, rows_part, nothing_again, nothing_line, refuted_only, probe_none, overlap_none, no_kind, file_is, front_head, front_rows, file_alone}
use Rattle.mon_certificate_file.proofs.Spelling.{log-once, row-once, certificate-once}

-- one in a row
module _ {X : Type 0} (text : ℕ → X → List ℕ) (Fits : X → Type 0)
    (once : (n : ℕ) (x y : X) (r s : List ℕ) → Fits x → Fits y → text n x ++ r ≡ text n y ++ s → (x ≡ y) × (r ≡ s))
    (whole : (n : ℕ) (x : X) → Fits x → AreLines (text n x)) (some : X) (fits : Fits some) where
  pub row_stops : (count i : ℕ) (fault : LineFault) (bytes rest : List ℕ) (front : List X) → i < count → SoFar text Fits count i bytes front rest
      → OnBadFrom fault (IsBadFrom (IsOne (text i) Fits) rest) → OnBadFrom fault (IsBadFrom (IsRow text Fits count) bytes)
  row_stops count i (line.Bad back) bytes rest front w s bad =
      let n : length front ≡ i = s.found.count_is in
      let place : i ≡ 0 + length front = omega arith in
      bad_as (Row X text Fits (row text) (λ n. refl) (λ n x xs. refl) 0 count) (IsRow text Fits count) bytes back.now (λ s r. (r.items, r.many, r.fit, r.is))
      (λ s r. record { items = r.0; many = r.1; fit = r.2; is = r.3 })
      (row_bad X text Fits (row text) (λ n. refl) (λ n x xs. refl) once whole some fits 0 count bytes rest back.now front (omega arith) s.found.fit s.found.is
      (subst (λ k. IsBadFrom (IsOne (text k) Fits) rest back.now) place bad))
  row_stops count i line.OutOfMemory bytes rest front w s bad = tt

-- logs in a row
pub log_stops_as : (text : List ℕ) (r : Result (List LogLine × Bor (List ℕ)) LineFault) → StopsIn IsLogText text r → StopsIn (IsOne log_text FitsLog) text r
log_stops_as text (Ok x) bad = tt
log_stops_as text (Err (line.Bad back)) bad = bad_as IsLogText (IsOne log_text FitsLog) text back.now (λ s o. (o.0, o.1.fits, o.1.is)) (λ s o. (o.0, record { is = o.2; fits = o.1 })) bad
log_stops_as text (Err line.OutOfMemory) bad = tt

pub logs_stop : (count i : ℕ) (fault : LineFault) (bytes rest : List ℕ) (front : List (List LogLine)) → i < count → SoFar (λ _. log_text) FitsLog count i bytes front rest
    → OnBadFrom fault (IsBadFrom (IsOne log_text FitsLog) rest) → OnBadFrom fault (IsBadFrom (IsRow (λ _. log_text) FitsLog count) bytes)
logs_stop count i fault bytes rest front w s bad =
    row_stops (λ _. log_text) FitsLog (λ n x y r s f g e. log-once x y r s f g e) (λ n x f. whole_log x) [] (omega arith, tt) count i fault bytes rest front w s bad

whole_logs : (logs : List (List LogLine)) → AreLines (flat_map log_text logs)
whole_logs [] = tt
whole_logs (l ∷ ls) = lines_join (log_text l) (flat_map log_text ls) (whole_log l) (whole_logs ls)

-- a certificate's text is whole lines
pub whole_certificate : (rule : ℕ) (c : Certificate) → AreLines (certificate_text rule c)
whole_certificate rule (Probe h e) =
    (ends_behind (codes "probe ") _ (ends_behind (decimal rule) _ (ends_behind (codes " ") _ (ends_behind (header_text h) _ (ends_behind (codes " ") _ (ends_behind (emission_text e) feed ends_feed)))))).0
whole_certificate rule (Nothing logs) =
    let e : Ends (feed ++ flat_map log_text logs) = (lines_join feed (flat_map log_text logs) refl (whole_logs logs), λ e. cc) in
    (ends_behind (codes "none ") _ (ends_behind (decimal rule) _ (ends_behind (codes " ") _ (ends_behind (decimal (length logs)) _ e)))).0
whole_certificate rule Overlap = (ends_behind (codes "overlap ") _ (ends_behind (decimal rule) feed ends_feed)).0

pub certificates_stop : (count i : ℕ) (fault : LineFault) (bytes rest : List ℕ) (front : List Certificate) → i < count → SoFar certificate_text FitsCertificate count i bytes front rest
    → OnBadFrom fault (IsBadFrom (IsOne (certificate_text i) FitsCertificate) rest) → OnBadFrom fault (IsBadFrom (IsRow certificate_text FitsCertificate count) bytes)
certificates_stop count i fault bytes rest front w s bad =
    row_stops certificate_text FitsCertificate certificate-once (λ n x f. whole_certificate n x) Overlap tt count i fault bytes rest front w s bad

-- the first lines of certificates, without their line feeds
abbrev none_body : ℕ → ℕ → List ℕ
none_body rule count = codes "none " ++ (decimal rule ++ (codes " " ++ decimal count))

abbrev probe_body : ℕ → Header → Emission → List ℕ
probe_body rule h e = codes "probe " ++ (decimal rule ++ (codes " " ++ (header_text h ++ (codes " " ++ emission_text e))))

abbrev tied_body : ℕ → List ℕ
tied_body rule = codes "overlap " ++ decimal rule

none_is : (rule count : ℕ) (rest : List ℕ) → codes "none " ++ (decimal rule ++ (codes " " ++ ((decimal count ++ feed) ++ rest))) ≡ (none_body rule count ++ feed) ++ rest
none_is rule count rest = simp append_assoc

probe_is : (rule : ℕ) (h : Header) (e : Emission) → certificate_text rule (Probe h e) ≡ probe_body rule h e ++ feed
probe_is rule h e = simp append_assoc

tied_is : (rule : ℕ) → certificate_text rule Overlap ≡ tied_body rule ++ feed
tied_is rule = simp append_assoc

nothing_is : (rule : ℕ) (logs : List (List LogLine)) → certificate_text rule (Nothing logs) ≡ (none_body rule (length logs) ++ feed) ++ flat_map log_text logs
nothing_is rule logs = simp append_assoc

feedless_header : (h : Header) → NoFeed (header_text h)
feedless_header h = feedless_hex (header_bytes h)

feedless_emission : (e : Emission) → FitsEmission e → NoFeed (emission_text e)
feedless_emission (Port port h) f =
    let w : port < 2 ^ 16 = f.0 in
    feedless_join (codes "port ") _ (feedless_is (codes "port ") refl) (feedless_join (decimal port) _ (feedless_decimal port (omega arith)) (feedless_join (codes " ") (header_text h) (feedless_is (codes " ") refl) (feedless_header h)))
feedless_emission (Controller h) f = feedless_join (codes "controller ") (header_text h) (feedless_is (codes "controller ") refl) (feedless_header h)
feedless_emission (Miss h) f = feedless_join (codes "miss ") (header_text h) (feedless_is (codes "miss ") refl) (feedless_header h)

feedless_probe : (rule : ℕ) (h : Header) (e : Emission) → rule < 2 ^ 64 → FitsEmission e → NoFeed (probe_body rule h e)
feedless_probe rule h e w f =
    feedless_join (codes "probe ") _ (feedless_is (codes "probe ") refl) (feedless_join (decimal rule) _ (feedless_decimal rule w)
    (feedless_join (codes " ") _ (feedless_is (codes " ") refl) (feedless_join (header_text h) _ (feedless_header h) (feedless_join (codes " ") (emission_text e) (feedless_is (codes " ") refl) (feedless_emission e f)))))

feedless_none : (rule count : ℕ) → rule < 2 ^ 64 → count < 2 ^ 64 → NoFeed (none_body rule count)
feedless_none rule count w v =
    feedless_join (codes "none ") _ (feedless_is (codes "none ") refl) (feedless_join (decimal rule) _ (feedless_decimal rule w) (feedless_join (codes " ") (decimal count) (feedless_is (codes " ") refl) (feedless_decimal count v)))

feedless_tied : (rule : ℕ) → rule < 2 ^ 64 → NoFeed (tied_body rule)
feedless_tied rule w = feedless_join (codes "overlap ") (decimal rule) (feedless_is (codes "overlap ") refl) (feedless_decimal rule w)

-- no first line of a certificate stands at the front
record NoFirstLine (rule : ℕ) (text : List ℕ) : Type 0 where
  probe : (h : Header) (e : Emission) (rest : List ℕ) → CertificateAt rule text (Probe h e) rest → ⊥
  tied : (rest : List ℕ) → CertificateAt rule text Overlap rest → ⊥
  nothing : (count : ℕ) (rest : List ℕ) → count < 2 ^ 64 → text ≡ (none_body rule count ++ feed) ++ rest → ⊥

record IsFirst (text s : List ℕ) : Type 0 where
  first : List ℕ
  more : List ℕ
  one : NoFeed first
  is : s ≡ first ++ (10 ∷ more)
  none : (rest : List ℕ) → text ≢ first ++ (10 ∷ rest)

ended : (text body whole rest : List ℕ) → whole ≡ body ++ feed → text ≡ body ++ (10 ∷ rest) → text ≡ whole ++ rest
ended text body whole rest w e = e ∙ sym (append_assoc body feed rest) ∙ ap (λ t. t ++ rest) (sym w)

first_of : (rule : ℕ) (text s : List ℕ) (c : Certificate) → rule < 2 ^ 64 → NoFirstLine rule text → FitsCertificate c → s ≡ certificate_text rule c → IsFirst text s
first_of rule text s (Probe h e) w n f is = record {
  first = probe_body rule h e;
  more = [];
  one = feedless_probe rule h e w f.1;
  is = is ∙ probe_is rule h e;
  none = λ rest g. n.probe h e rest (record { is = ended text (probe_body rule h e) (certificate_text rule (Probe h e)) rest (probe_is rule h e) g; fits = f });
}
first_of rule text s (Nothing logs) w n f is = record {
  first = none_body rule (length logs);
  more = flat_map log_text logs;
  one = feedless_none rule (length logs) w f.0;
  is = is ∙ nothing_is rule logs ∙ append_assoc (none_body rule (length logs)) feed (flat_map log_text logs);
  none = λ rest g. n.nothing (length logs) rest f.0 (g ∙ sym (append_assoc (none_body rule (length logs)) feed rest));
}
first_of rule text s Overlap w n f is = record {
  first = tied_body rule;
  more = [];
  one = feedless_tied rule w;
  is = is ∙ tied_is rule;
  none = λ rest g. n.tied rest (record { is = ended text (tied_body rule) (certificate_text rule Overlap) rest (tied_is rule) g; fits = f });
}

bad_certificate : (rule : ℕ) (text : List ℕ) → rule < 2 ^ 64 → NoFirstLine rule text → IsBadFrom (IsOne (certificate_text rule) FitsCertificate) text text
bad_certificate rule text w n =
    bad_here (IsOne (certificate_text rule) FitsCertificate) text (certificate_text rule Overlap) (Overlap, tt, refl)
    (λ s o. let f = first_of rule text s o.0 w n o.1 o.2 in (f.first, f.more, f.one, f.is, f.none))

pub probe_stops : (rule : ℕ) (text after : List ℕ) → rule < 2 ^ 64 → behind (codes "probe ") text ≡ Some after → probe_in rule after ≡ None → IsBadFrom (IsOne (certificate_text rule) FitsCertificate) text text
probe_stops rule text after w b f = bad_certificate rule text w (record {
  probe = λ h e rest a. probe_none rule text after (Probe h e) rest b f a;
  tied = λ rest a. probe_none rule text after Overlap rest b f a;
  nothing = λ count rest v e. none-some after (sym (ap (behind (codes "probe ")) e) ∙ b);
})

pub overlap_stops : (rule : ℕ) (text after : List ℕ) → rule < 2 ^ 64 → behind (codes "overlap ") text ≡ Some after → overlap_in rule after ≡ None → IsBadFrom (IsOne (certificate_text rule) FitsCertificate) text text
overlap_stops rule text after w b f = bad_certificate rule text w (record {
  probe = λ h e rest a. overlap_none rule text after (Probe h e) rest b f a;
  tied = λ rest a. overlap_none rule text after Overlap rest b f a;
  nothing = λ count rest v e. none-some after (sym (ap (behind (codes "overlap ")) e) ∙ b);
})

behind_none : (rule count : ℕ) (text rest : List ℕ) → text ≡ (none_body rule count ++ feed) ++ rest → behind (codes "none ") text ≡ Some (decimal rule ++ (codes " " ++ ((decimal count ++ feed) ++ rest)))
behind_none rule count text rest e = ap (behind (codes "none ")) (e ∙ sym (none_is rule count rest)) ∙ behind-again (codes "none ") (decimal rule ++ (codes " " ++ ((decimal count ++ feed) ++ rest)))

pub kind_stops : (rule : ℕ) (text : List ℕ) → rule < 2 ^ 64 → behind (codes "probe ") text ≡ None → behind (codes "none ") text ≡ None → behind (codes "overlap ") text ≡ None
    → IsBadFrom (IsOne (certificate_text rule) FitsCertificate) text text
kind_stops rule text w a b d = bad_certificate rule text w (record {
  probe = λ h e rest p. no_kind rule text (Probe h e) rest a b d p;
  tied = λ rest p. no_kind rule text Overlap rest a b d p;
  nothing = λ count rest v e. none-some _ (sym b ∙ behind_none rule count text rest e);
})

pub nothing_stops : (rule : ℕ) (text after : List ℕ) → rule < 2 ^ 64 → behind (codes "none ") text ≡ Some after → nothing_in rule after ≡ None → IsBadFrom (IsOne (certificate_text rule) FitsCertificate) text text
nothing_stops rule text after w b f = bad_certificate rule text w (record {
  probe = λ h e rest p. none-some after (sym (ap (behind (codes "none ")) p.is) ∙ b);
  tied = λ rest p. none-some after (sym (ap (behind (codes "none ")) p.is) ∙ b);
  nothing = λ count rest v e. none-some (count, rest) (sym f ∙ ap (nothing_in rule) (some_is _ _ (sym b ∙ behind_none rule count text rest e)) ∙ nothing_again rule count rest v);
})

-- the logs of a rule
nothing_joined : (rule count : ℕ) (s : List ℕ) → count < 2 ^ 64 → IsRow (λ _. log_text) FitsLog count s → IsOne (certificate_text rule) FitsCertificate ((none_body rule count ++ feed) ++ s)
nothing_joined rule count s w r =
    let many : length r.0 ≡ count = r.1 in (
      Nothing r.0,
      (subst (λ n. n < 2 ^ 64) (sym many) w, r.2),
      ap (λ n. (none_body rule n ++ feed) ++ s) (sym many) ∙ ap (λ t. (none_body rule (length r.0) ++ feed) ++ t) (r.3 ∙ sym (flat_is_row log_text 0 r.0)) ∙ sym (nothing_is rule r.0),
    )

pub refuted_bad_from : (rule : ℕ) (text after rest : List ℕ) (count : ℕ) (back : List ℕ) → behind (codes "none ") text ≡ Some after → nothing_in rule after ≡ Some (count, rest)
    → IsBadFrom (IsRow (λ _. log_text) FitsLog count) rest back → IsBadFrom (IsOne (certificate_text rule) FitsCertificate) text back
refuted_bad_from rule text after rest count back b f bad =
    let l = nothing_line rule after count rest f in
    bad_behind (IsRow (λ _. log_text) FitsLog count) (IsOne (certificate_text rule) FitsCertificate) text (none_body rule count ++ feed) rest back
    (behind-found (codes "none ") text after b ∙ ap (λ t. codes "none " ++ t) l.is ∙ none_is rule count rest) (lines_feed (none_body rule count)) bad
    (λ s r. nothing_joined rule count s l.fits r)
    (λ s t more o e.
    let a : CertificateAt rule (s ++ t) o.0 t = record { is = ap (λ x. x ++ t) o.2; fits = o.1 } in
    let p = refuted_only rule (s ++ t) (decimal rule ++ (codes " " ++ ((decimal count ++ feed) ++ more))) o.0 t (behind_none rule count (s ++ t) more e) a in
    let q = rows_part rule (decimal rule ++ (codes " " ++ ((decimal count ++ feed) ++ more))) more count p.logs t (nothing_again rule count more l.fits) p.part in
    (row (λ _. log_text) 0 p.logs, (p.logs, q.count_is, q.fit, refl), sym q.is))

pub refuted_stops : (rule : ℕ) (text after rest : List ℕ) (count : ℕ) (r : Result (List (List LogLine) × Bor (List ℕ)) LineFault) → behind (codes "none ") text ≡ Some after → nothing_in rule after ≡ Some (count, rest)
    → StopsIn (IsRow (λ _. log_text) FitsLog count) rest r → StopsIn (IsOne (certificate_text rule) FitsCertificate) text r
refuted_stops rule text after rest count (Ok x) b f bad = tt
refuted_stops rule text after rest count (Err (line.Bad back)) b f bad = refuted_bad_from rule text after rest count back.now b f bad
refuted_stops rule text after rest count (Err line.OutOfMemory) b f bad = tt

-- the first line of the file
abbrev name_line : List ℕ
name_line = codes "monocle-certificates 1" ++ feed

abbrev rules_body : ℕ → List ℕ
rules_body count = codes "rules " ++ decimal count

pub name_stops : (text : List ℕ) → ((rest : List ℕ) → text ≢ name_line ++ rest) → IsBadFrom IsCertificateFile text text
name_stops text none =
    bad_here IsCertificateFile text (certificates_text []) ([], record { is = refl; fit = (omega arith, tt) })
    (λ s o. (codes "monocle-certificates 1", codes "rules " ++ (decimal (length o.0) ++ (feed ++ row certificate_text 0 o.0)), feedless_is (codes "monocle-certificates 1") refl, o.1.is, λ rest e. none rest e))

-- and the second one
abbrev behind_name : List Certificate → List ℕ
behind_name cs = codes "rules " ++ (decimal (length cs) ++ (feed ++ row certificate_text 0 cs))

named : (s : List ℕ) (cs : List Certificate) → Spells (name_line ++ s) cs → s ≡ rules_body (length cs) ++ (10 ∷ row certificate_text 0 cs)
named s cs sp = cancel name_line s (behind_name cs) sp.is ∙ sym (append_assoc (codes "rules ") (decimal (length cs)) (10 ∷ row certificate_text 0 cs))

feedless_rules : (n : ℕ) → n < 2 ^ 64 → NoFeed (rules_body n)
feedless_rules n w = feedless_join (codes "rules ") (decimal n) (feedless_is (codes "rules ") refl) (feedless_decimal n w)

counted : (text lines rest : List ℕ) (n : ℕ) → n < 2 ^ 64 → text ≡ name_line ++ lines → lines ≡ rules_body n ++ (10 ∷ rest) → head_in text ≡ Some (n, rest)
counted text lines rest n w e f =
    ap head_in (e ∙ ap (λ t. name_line ++ t) f ∙ ap (λ t. name_line ++ (codes "rules " ++ t)) (sym (append_assoc (decimal n) feed rest))) ∙ reader_head.again n rest w

pub count_stops : (text lines : List ℕ) → text ≡ name_line ++ lines → head_in text ≡ None → IsBadFrom IsCertificateFile text lines
count_stops text lines e none =
    bad_behind (λ s. IsCertificateFile (name_line ++ s)) IsCertificateFile text name_line lines lines e (lines_feed (codes "monocle-certificates 1"))
    (bad_here (λ s. IsCertificateFile (name_line ++ s)) lines (behind_name []) ([], record { is = refl; fit = (omega arith, tt) }) (λ s o. (
      rules_body (length o.0),
      row certificate_text 0 o.0,
      feedless_rules (length o.0) o.1.fit.0,
      named s o.0 o.1,
      λ rest f. none-some (length o.0, rest) (sym none ∙ counted text lines rest (length o.0) o.1.fit.0 e f),
    )))
    (λ s f. f)
    (λ s t more o f. (behind_name o.0, (o.0, record { is = refl; fit = o.1.fit }), cancel name_line (behind_name o.0 ++ t) more (ap (λ x. x ++ t) (sym o.1.is) ∙ f)))

-- the rules
abbrev head_line : ℕ → List ℕ
head_line count = head_words ++ (decimal count ++ feed)

whole_head : (count : ℕ) → AreLines (head_line count)
whole_head count = subst AreLines (append_assoc head_words (decimal count) feed) (lines_feed (head_words ++ decimal count))

file_joined : (count : ℕ) (s : List ℕ) → count < 2 ^ 64 → IsRow certificate_text FitsCertificate count s → IsCertificateFile (head_line count ++ s)
file_joined count s w r =
    let many : length r.0 ≡ count = r.1 in (
      r.0,
      record {
        is = ap (λ n. head_line n ++ s) (sym many) ∙ ap (λ t. head_line (length r.0) ++ t) r.3 ∙ file_is r.0;
        fit = (subst (λ n. n < 2 ^ 64) (sym many) w, r.2);
      },
    )

file_bad : (text after : List ℕ) (count : ℕ) (back : List ℕ) → head_in text ≡ Some (count, after) → IsBadFrom (IsRow certificate_text FitsCertificate count) after back → IsBadFrom IsCertificateFile text back
file_bad text after count back e bad =
    let f = reader_head.found text count after e in
    bad_behind (IsRow certificate_text FitsCertificate count) IsCertificateFile text (head_line count) after back f.1 (whole_head count) bad
    (λ s r. file_joined count s f.0 r)
    (λ s t more o g.
    let a : FileAt (s ++ t) o.0 t = record { is = ap (λ x. x ++ t) o.1.is; fits = o.1.fit } in
    let p = front_rows (s ++ t) more count o.0 t (ap head_in g ∙ reader_head.again count more f.0) a in
    (row certificate_text 0 o.0, (o.0, p.count_is, p.fit, refl), sym p.is))

pub file_stops : (text after : List ℕ) (count : ℕ) (r : Result (List Certificate × Bor (List ℕ)) LineFault) → head_in text ≡ Some (count, after) → StopsIn (IsRow certificate_text FitsCertificate count) after r → StopsIn IsCertificateFile text r
file_stops text after count (Ok x) e bad = tt
file_stops text after count (Err (line.Bad back)) e bad = file_bad text after count back.now e bad
file_stops text after count (Err line.OutOfMemory) e bad = tt

-- what stands behind the last rule
whole_rows : (place : ℕ) (cs : List Certificate) → AreLines (row certificate_text place cs)
whole_rows place [] = tt
whole_rows place (c ∷ cs) = lines_join (certificate_text place c) (row certificate_text (suc place) cs) (whole_certificate place c) (whole_rows (suc place) cs)

whole_file : (cs : List Certificate) → AreLines (certificates_text cs)
whole_file cs = subst AreLines (file_is cs) (lines_join (head_line (length cs)) (row certificate_text 0 cs) (whole_head (length cs)) (whole_rows 0 cs))

longest : (cs : List Certificate) (more : List ℕ) → (length cs < 2 ^ 64) × AllByRecursion FitsCertificate cs → IsCertificateFile (certificates_text cs ++ more) → more ≡ []
longest cs more f o =
    let a : FileAt (certificates_text cs ++ more) cs more = record { is = refl; fits = f } in
    let p = front_rows (certificates_text cs ++ more) (row certificate_text 0 cs ++ more) (length cs) o.0 [] (front_head (certificates_text cs ++ more) cs more a) (file_alone (certificates_text cs ++ more) o.0 o.1) in
    (row-once certificate_text FitsCertificate certificate-once 0 cs o.0 more [] (sym p.count_is) f.1 p.fit p.is).1

pub trailed : (text : List ℕ) (back : Bor (List ℕ)) (cs : List Certificate) (result : FileFault) → FileAt text cs back.now → IsWithin (line.Bad back) result (length text) → OnBadAt result (IsFirstBadLine IsCertificateFile text)
trailed text back cs (file.Bad offset) a w =
    bad_after IsCertificateFile text (certificates_text cs) back.now offset a.is w (whole_file cs) (cs, record { is = refl; fit = a.fits }) (λ more o. longest cs more a.fits o)
trailed text back cs file.OutOfMemory a w = absurd w
