-- The lines of a rule, and the whole file, are read just as they are spelled.
use Rattle.std.proofs.Common.{◌≡◌, ℕ, suc, ◌^◌, ◌<◌, true, refl, sym, ap, subst, ◌∙◌, List, [], ◌∷◌, ◌++◌, length, Option, Some, None, Err, arith, decimal, codes, append_assoc}
use Rattle.std.specs.Prelude.{◌==◌, option_and_then}
use Rattle.std.specs.List.{flat_map}
use Rattle.std.proofs.lemmas.List.{append-nil}
use Rattle.std.proofs.lemmas.Bool.{eqb-true}
use Rattle.std.proofs.lemmas.Option.{none-some, some_pair_parts}
use Rattle.mon_text.specs.Parts.{behind, feed}
use Rattle.mon_text.specs.declared.fault.LineFault.{LineFault}
use Rattle.mon_text.specs.Faults.{LinesReadPart}
use Rattle.mon_text.proofs.Joining.{bound, behind-found, behind-again}
use Rattle.mon_header.specs.declared.header.Header.{Header}
use Rattle.mon_outcome.specs.declared.emission.Emission.{Emission}
use Rattle.mon_refute.specs.declared.lines.LogLine.{LogLine}
use Rattle.mon_refute.specs.Text.{log_text, FitsLog}
use Rattle.mon_refute.specs.Reading.{LogAt}
use Rattle.mon_certificate.specs.declared.certificate.Certificate.{Certificate}
use Rattle.mon_certificate.specs.declared.certificate.Certificate.TheVariants.{Probe, Nothing, Overlap}
use Rattle.mon_certificate_file.specs.CertificateFile.{logs_text, probe_text, nothing_text, certificate_text, row, certificates_text, FitsLogs, FitsCertificate, Spells}
use Rattle.mon_certificate_file.specs.Reading.{behind_rule, probe_in, overlap_in, count_in, nothing_in, head_in, PartAt, RowAt, FileAt}
use Rattle.mon_certificate_file.proofs.LineReaders.{rule-found, rule-again, overlap-found, overlap-again, reader_probe, reader_count, head_words, reader_head}
use Rattle.mon_certificate_file.proofs.Rows.{flat_is_row}

-- a log is a part
pub log_part : (bytes : List ℕ) (log : List LogLine) (rest : List ℕ) → LogAt bytes log rest → PartAt log_text FitsLog bytes log rest
log_part bytes log rest a = record { is = a.is; fits = a.fits }

pub part_log : (bytes : List ℕ) (log : List LogLine) (rest : List ℕ) → PartAt log_text FitsLog bytes log rest → LogAt bytes log rest
part_log bytes log rest a = record { is = a.is; fits = a.fits }

abbrev pub LogsAt : ℕ → List ℕ → List (List LogLine) → List ℕ → Type 0
LogsAt count bytes logs rest = RowAt (λ _. log_text) FitsLog 0 count bytes logs rest

-- a count and so many logs
logs_is : (logs : List (List LogLine)) (rest : List ℕ) → (decimal (length logs) ++ feed) ++ (row (λ _. log_text) 0 logs ++ rest) ≡ logs_text logs ++ rest
logs_is logs rest =
    ap (λ t. (decimal (length logs) ++ feed) ++ (t ++ rest)) (sym (flat_is_row log_text 0 logs))
    ∙ append_assoc (decimal (length logs)) feed (flat_map log_text logs ++ rest)
    ∙ ap (λ t. decimal (length logs) ++ t) (sym (append_assoc feed (flat_map log_text logs) rest))
    ∙ sym (append_assoc (decimal (length logs)) (feed ++ flat_map log_text logs) rest)

pub logs_found : (bytes after : List ℕ) (count : ℕ) (logs : List (List LogLine)) (rest : List ℕ) → count_in bytes ≡ Some (count, after) → LogsAt count after logs rest → PartAt logs_text FitsLogs bytes logs rest
logs_found bytes after count logs rest e a =
    let f = reader_count.found bytes count after e in
    record {
      is = f.1 ∙ ap (λ n. (decimal n ++ feed) ++ after) (sym a.count_is) ∙ ap (λ t. (decimal (length logs) ++ feed) ++ t) a.is ∙ logs_is logs rest;
      fits = (subst (λ n. n < 2 ^ 64) (sym a.count_is) f.0, a.fit);
    }

pub logs_count : (bytes : List ℕ) (logs : List (List LogLine)) (rest : List ℕ) → PartAt logs_text FitsLogs bytes logs rest → count_in bytes ≡ Some (length logs, row (λ _. log_text) 0 logs ++ rest)
logs_count bytes logs rest p = ap count_in (p.is ∙ sym (logs_is logs rest)) ∙ reader_count.again (length logs) (row (λ _. log_text) 0 logs ++ rest) p.fits.0

pub logs_row : (bytes after : List ℕ) (count : ℕ) (logs : List (List LogLine)) (rest : List ℕ) → count_in bytes ≡ Some (count, after) → PartAt logs_text FitsLogs bytes logs rest → LogsAt count after logs rest
logs_row bytes after count logs rest e p =
    let s = some_pair_parts count (length logs) after (row (λ _. log_text) 0 logs ++ rest) (sym e ∙ logs_count bytes logs rest p) in
    record { is = s.1; count_is = sym s.0; fit = p.fits.1 }

pub logs_none : (bytes : List ℕ) (logs : List (List LogLine)) (rest : List ℕ) → count_in bytes ≡ None → PartAt logs_text FitsLogs bytes logs rest → ⊥
logs_none bytes logs rest e p = none-some (length logs, row (λ _. log_text) 0 logs ++ rest) (sym e ∙ logs_count bytes logs rest p)

-- a rule that no probe shows
nothing_is : (rule : ℕ) (logs : List (List LogLine)) (rest : List ℕ) → decimal rule ++ (codes " " ++ (logs_text logs ++ rest)) ≡ nothing_text rule logs ++ rest
nothing_is rule logs rest = ap (λ t. decimal rule ++ t) (sym (append_assoc (codes " ") (logs_text logs) rest)) ∙ sym (append_assoc (decimal rule) (codes " " ++ logs_text logs) rest)

pub nothing_found : (rule : ℕ) (bytes after : List ℕ) (logs : List (List LogLine)) (rest : List ℕ) → behind_rule rule bytes ≡ Some after → PartAt logs_text FitsLogs after logs rest → PartAt (nothing_text rule) FitsLogs bytes logs rest
nothing_found rule bytes after logs rest e p = record {
  is = rule-found rule bytes after e ∙ ap (λ t. decimal rule ++ (codes " " ++ t)) p.is ∙ nothing_is rule logs rest;
  fits = p.fits;
}

pub nothing_rule : (rule : ℕ) (bytes : List ℕ) (logs : List (List LogLine)) (rest : List ℕ) → PartAt (nothing_text rule) FitsLogs bytes logs rest → behind_rule rule bytes ≡ Some (logs_text logs ++ rest)
nothing_rule rule bytes logs rest p = ap (behind_rule rule) (p.is ∙ sym (nothing_is rule logs rest)) ∙ rule-again rule (logs_text logs ++ rest)

pub some_is : (x y : List ℕ) → ◌≡◌ {A = Option (List ℕ)} (Some x) (Some y) → x ≡ y
some_is x y e = cc

pub nothing_part : (rule : ℕ) (bytes after : List ℕ) (logs : List (List LogLine)) (rest : List ℕ) → behind_rule rule bytes ≡ Some after → PartAt (nothing_text rule) FitsLogs bytes logs rest → PartAt logs_text FitsLogs after logs rest
nothing_part rule bytes after logs rest e p = record { is = some_is after (logs_text logs ++ rest) (sym e ∙ nothing_rule rule bytes logs rest p); fits = p.fits }

-- the same with the count behind the rule's number
pub rows_found : (rule : ℕ) (bytes after : List ℕ) (count : ℕ) (logs : List (List LogLine)) (rest : List ℕ) → nothing_in rule bytes ≡ Some (count, after) → LogsAt count after logs rest → PartAt (nothing_text rule) FitsLogs bytes logs rest
unfolding nothing_in
rows_found rule bytes after count logs rest e a =
    let b = bound count_in (behind_rule rule bytes) (count, after) e in
    nothing_found rule bytes b.0 logs rest b.1 (logs_found b.0 after count logs rest b.2 a)

pub rows_part : (rule : ℕ) (bytes after : List ℕ) (count : ℕ) (logs : List (List LogLine)) (rest : List ℕ) → nothing_in rule bytes ≡ Some (count, after) → PartAt (nothing_text rule) FitsLogs bytes logs rest → LogsAt count after logs rest
unfolding nothing_in
rows_part rule bytes after count logs rest e p =
    let b = bound count_in (behind_rule rule bytes) (count, after) e in
    logs_row b.0 after count logs rest b.2 (nothing_part rule bytes b.0 logs rest b.1 p)

pub rows_none : (rule : ℕ) (bytes : List ℕ) (logs : List (List LogLine)) (rest : List ℕ) → nothing_in rule bytes ≡ None → PartAt (nothing_text rule) FitsLogs bytes logs rest → ⊥
unfolding nothing_in
rows_none rule bytes logs rest e p =
    none-some (length logs, row (λ _. log_text) 0 logs ++ rest)
    (sym e ∙ ap (option_and_then count_in) (nothing_rule rule bytes logs rest p) ∙ logs_count (logs_text logs ++ rest) logs rest (record { is = refl; fits = p.fits }))

pub nothing_again : (rule count : ℕ) (rest : List ℕ) → count < 2 ^ 64 → nothing_in rule (decimal rule ++ (codes " " ++ ((decimal count ++ feed) ++ rest))) ≡ Some (count, rest)
unfolding nothing_in
nothing_again rule count rest w = ap (option_and_then count_in) (rule-again rule ((decimal count ++ feed) ++ rest)) ∙ reader_count.again count rest w

pub record IsNothingLine (rule : ℕ) (bytes : List ℕ) (count : ℕ) (after : List ℕ) : Type 0 where
  pub is : bytes ≡ decimal rule ++ (codes " " ++ ((decimal count ++ feed) ++ after))
  pub fits : count < 2 ^ 64

pub nothing_line : (rule : ℕ) (bytes : List ℕ) (count : ℕ) (after : List ℕ) → nothing_in rule bytes ≡ Some (count, after) → IsNothingLine rule bytes count after
unfolding nothing_in
nothing_line rule bytes count after e =
    let b = bound count_in (behind_rule rule bytes) (count, after) e in
    let f = reader_count.found b.0 count after b.2 in
    record { is = rule-found rule bytes b.0 b.1 ∙ ap (λ t. decimal rule ++ (codes " " ++ t)) f.1; fits = f.0 }

abbrev pub CertificateAt : ℕ → List ℕ → Certificate → List ℕ → Type 0
CertificateAt rule bytes c rest = PartAt (certificate_text rule) FitsCertificate bytes c rest

-- what stands behind the first word
worded : (word text after rest bytes behind_it : List ℕ) → bytes ≡ (word ++ text) ++ rest → behind word bytes ≡ Some behind_it → behind_it ≡ text ++ rest
worded word text after rest bytes behind_it e f = some_is behind_it (text ++ rest) (sym f ∙ ap (behind word) (e ∙ append_assoc word text rest) ∙ behind-again word (text ++ rest))

with_word : (word text bytes after rest : List ℕ) → behind word bytes ≡ Some after → after ≡ text ++ rest → bytes ≡ (word ++ text) ++ rest
with_word word text bytes after rest e f = behind-found word bytes after e ∙ ap (λ t. word ++ t) f ∙ sym (append_assoc word text rest)

-- the line of a probe
pub probe_found : (rule : ℕ) (bytes after : List ℕ) (h : Header) (e : Emission) (rest : List ℕ) → behind (codes "probe ") bytes ≡ Some after → probe_in rule after ≡ Some ((h, e), rest) → CertificateAt rule bytes (Probe h e) rest
probe_found rule bytes after h e rest b f =
    let r = (reader_probe rule).found after (h, e) rest f in
    record { is = with_word (codes "probe ") (probe_text rule (h, e)) bytes after rest b r.1; fits = r.0 }

pub record IsProbe (rule : ℕ) (after : List ℕ) (c : Certificate) (rest : List ℕ) : Type 0 where
  pub h : Header
  pub e : Emission
  pub is : Probe h e ≡ c
  pub read : probe_in rule after ≡ Some ((h, e), rest)

pub probe_only : (rule : ℕ) (bytes after : List ℕ) (c : Certificate) (rest : List ℕ) → behind (codes "probe ") bytes ≡ Some after → CertificateAt rule bytes c rest → IsProbe rule after c rest
probe_only rule bytes after (Probe h e) rest b p = record {
  h = h;
  e = e;
  is = refl;
  read = ap (probe_in rule) (worded (codes "probe ") (probe_text rule (h, e)) after rest bytes after p.is b) ∙ (reader_probe rule).again (h, e) rest p.fits;
}
probe_only rule bytes after (Nothing logs) rest b p = absurd (none-some after (sym (ap (behind (codes "probe ")) p.is) ∙ b))
probe_only rule bytes after Overlap rest b p = absurd (none-some after (sym (ap (behind (codes "probe ")) p.is) ∙ b))

pub probe_same : (rule : ℕ) (bytes after : List ℕ) (h : Header) (e : Emission) (read : List ℕ) (c : Certificate) (rest : List ℕ) → behind (codes "probe ") bytes ≡ Some after → probe_in rule after ≡ Some ((h, e), read)
    → CertificateAt rule bytes c rest → (Probe h e ≡ c) × (read ≡ rest)
probe_same rule bytes after h e read c rest b f a =
    let p = probe_only rule bytes after c rest b a in
    let s = some_pair_parts (h, e) (p.h, p.e) read rest (sym f ∙ p.read) in
    (ap (λ (x : Header × Emission). Probe x.0 x.1) s.0 ∙ p.is, s.1)

pub probe_none : (rule : ℕ) (bytes after : List ℕ) (c : Certificate) (rest : List ℕ) → behind (codes "probe ") bytes ≡ Some after → probe_in rule after ≡ None → CertificateAt rule bytes c rest → ⊥
probe_none rule bytes after c rest b f a = let p = probe_only rule bytes after c rest b a in none-some ((p.h, p.e), rest) (sym f ∙ p.read)

-- the lines of refutations
pub refuted_found : (rule : ℕ) (bytes after : List ℕ) (logs : List (List LogLine)) (rest : List ℕ) → behind (codes "none ") bytes ≡ Some after → PartAt (nothing_text rule) FitsLogs after logs rest → CertificateAt rule bytes (Nothing logs) rest
refuted_found rule bytes after logs rest b p = record { is = with_word (codes "none ") (nothing_text rule logs) bytes after rest b p.is; fits = p.fits }

pub record IsRefuted (rule : ℕ) (after : List ℕ) (c : Certificate) (rest : List ℕ) : Type 0 where
  pub logs : List (List LogLine)
  pub is : Nothing logs ≡ c
  pub part : PartAt (nothing_text rule) FitsLogs after logs rest

pub refuted_only : (rule : ℕ) (bytes after : List ℕ) (c : Certificate) (rest : List ℕ) → behind (codes "none ") bytes ≡ Some after → CertificateAt rule bytes c rest → IsRefuted rule after c rest
refuted_only rule bytes after (Probe h e) rest b p = absurd (none-some after (sym (ap (behind (codes "none ")) p.is) ∙ b))
refuted_only rule bytes after (Nothing logs) rest b p = record {
  logs = logs;
  is = refl;
  part = record { is = worded (codes "none ") (nothing_text rule logs) after rest bytes after p.is b; fits = p.fits };
}
refuted_only rule bytes after Overlap rest b p = absurd (none-some after (sym (ap (behind (codes "none ")) p.is) ∙ b))

pub refuted_same : (rule : ℕ) (bytes after : List ℕ) (logs : List (List LogLine)) (read : List ℕ) (c : Certificate) (rest : List ℕ) → behind (codes "none ") bytes ≡ Some after
    → ((ls : List (List LogLine)) (r : List ℕ) → PartAt (nothing_text rule) FitsLogs after ls r → (logs ≡ ls) × (read ≡ r)) → CertificateAt rule bytes c rest → (Nothing logs ≡ c) × (read ≡ rest)
refuted_same rule bytes after logs read c rest b once a =
    let p = refuted_only rule bytes after c rest b a in
    let s = once p.logs rest p.part in
    (ap Nothing s.0 ∙ p.is, s.1)

pub refuted_bad : (f : LineFault) (rule : ℕ) (bytes after : List ℕ) (c : Certificate) (rest : List ℕ) → behind (codes "none ") bytes ≡ Some after
    → ((ls : List (List LogLine)) (r : List ℕ) → PartAt (nothing_text rule) FitsLogs after ls r → LinesReadPart {X = List (List LogLine)} (Err f) ls r) → CertificateAt rule bytes c rest → LinesReadPart {X = Certificate} (Err f) c rest
refuted_bad f rule bytes after c rest b none a = let p = refuted_only rule bytes after c rest b a in none p.logs rest p.part

-- the line of a tied rule
pub overlap_found : (rule : ℕ) (bytes after rest : List ℕ) → behind (codes "overlap ") bytes ≡ Some after → overlap_in rule after ≡ Some rest → CertificateAt rule bytes Overlap rest
overlap_found rule bytes after rest b f = record { is = with_word (codes "overlap ") (decimal rule ++ feed) bytes after rest b (overlap-found rule after rest f); fits = tt }

pub record IsTied (rule : ℕ) (after : List ℕ) (c : Certificate) (rest : List ℕ) : Type 0 where
  pub is : Overlap ≡ c
  pub read : overlap_in rule after ≡ Some rest

pub overlap_only : (rule : ℕ) (bytes after : List ℕ) (c : Certificate) (rest : List ℕ) → behind (codes "overlap ") bytes ≡ Some after → CertificateAt rule bytes c rest → IsTied rule after c rest
overlap_only rule bytes after (Probe h e) rest b p = absurd (none-some after (sym (ap (behind (codes "overlap ")) p.is) ∙ b))
overlap_only rule bytes after (Nothing logs) rest b p = absurd (none-some after (sym (ap (behind (codes "overlap ")) p.is) ∙ b))
overlap_only rule bytes after Overlap rest b p = record {
  is = refl;
  read = ap (overlap_in rule) (worded (codes "overlap ") (decimal rule ++ feed) after rest bytes after p.is b) ∙ overlap-again rule rest;
}

pub overlap_same : (rule : ℕ) (bytes after read : List ℕ) (c : Certificate) (rest : List ℕ) → behind (codes "overlap ") bytes ≡ Some after → overlap_in rule after ≡ Some read → CertificateAt rule bytes c rest → (Overlap ≡ c) × (read ≡ rest)
overlap_same rule bytes after read c rest b f a = let p = overlap_only rule bytes after c rest b a in (p.is, some_is read rest (sym f ∙ p.read))

pub overlap_none : (rule : ℕ) (bytes after : List ℕ) (c : Certificate) (rest : List ℕ) → behind (codes "overlap ") bytes ≡ Some after → overlap_in rule after ≡ None → CertificateAt rule bytes c rest → ⊥
overlap_none rule bytes after c rest b f a = let p = overlap_only rule bytes after c rest b a in none-some rest (sym f ∙ p.read)

-- a line begins with one of the three words
no_word : (word text rest bytes : List ℕ) → bytes ≡ (word ++ text) ++ rest → behind word bytes ≡ None → ⊥
no_word word text rest bytes e f = none-some (text ++ rest) (sym f ∙ ap (behind word) (e ∙ append_assoc word text rest) ∙ behind-again word (text ++ rest))

pub no_kind : (rule : ℕ) (bytes : List ℕ) (c : Certificate) (rest : List ℕ) → behind (codes "probe ") bytes ≡ None → behind (codes "none ") bytes ≡ None → behind (codes "overlap ") bytes ≡ None → CertificateAt rule bytes c rest → ⊥
no_kind rule bytes (Probe h e) rest a b d p = no_word (codes "probe ") (probe_text rule (h, e)) rest bytes p.is a
no_kind rule bytes (Nothing logs) rest a b d p = no_word (codes "none ") (nothing_text rule logs) rest bytes p.is b
no_kind rule bytes Overlap rest a b d p = no_word (codes "overlap ") (decimal rule ++ feed) rest bytes p.is d

-- the whole file
pub file_is : (cs : List Certificate) → (head_words ++ (decimal (length cs) ++ feed)) ++ row certificate_text 0 cs ≡ certificates_text cs
file_is cs = append_assoc head_words (decimal (length cs) ++ feed) (row certificate_text 0 cs) ∙ ap (λ t. head_words ++ t) (append_assoc (decimal (length cs)) feed (row certificate_text 0 cs))

abbrev pub CertificatesAt : ℕ → List ℕ → List Certificate → List ℕ → Type 0
CertificatesAt count bytes cs rest = RowAt certificate_text FitsCertificate 0 count bytes cs rest

pub file_part : (text after : List ℕ) (count : ℕ) (cs : List Certificate) (rest : List ℕ) → head_in text ≡ Some (count, after) → CertificatesAt count after cs rest → FileAt text cs rest
file_part text after count cs rest e a =
    let f = reader_head.found text count after e in
    let head = head_words ++ (decimal (length cs) ++ feed) in
    record {
      is = f.1 ∙ ap (λ n. (head_words ++ (decimal n ++ feed)) ++ after) (sym a.count_is)
          ∙ ap (λ t. head ++ t) a.is ∙ sym (append_assoc head (row certificate_text 0 cs) rest)
          ∙ ap (λ t. t ++ rest) (file_is cs);
      fits = (subst (λ n. n < 2 ^ 64) (sym a.count_is) f.0, a.fit);
    }

pub front_head : (text : List ℕ) (cs : List Certificate) (rest : List ℕ) → FileAt text cs rest → head_in text ≡ Some (length cs, row certificate_text 0 cs ++ rest)
front_head text cs rest a =
    ap head_in (a.is ∙ ap (λ t. t ++ rest) (sym (file_is cs)) ∙ append_assoc (head_words ++ (decimal (length cs) ++ feed)) (row certificate_text 0 cs) rest)
    ∙ reader_head.again (length cs) (row certificate_text 0 cs ++ rest) a.fits.0

pub front_rows : (text after : List ℕ) (count : ℕ) (cs : List Certificate) (rest : List ℕ) → head_in text ≡ Some (count, after) → FileAt text cs rest → CertificatesAt count after cs rest
front_rows text after count cs rest e a =
    let p = some_pair_parts count (length cs) after (row certificate_text 0 cs ++ rest) (sym e ∙ front_head text cs rest a) in
    record { is = p.1; count_is = sym p.0; fit = a.fits.1 }

pub front_none : (text : List ℕ) (cs : List Certificate) (rest : List ℕ) → head_in text ≡ None → FileAt text cs rest → ⊥
front_none text cs rest e a = none-some (length cs, row certificate_text 0 cs ++ rest) (sym e ∙ front_head text cs rest a)

pub file_alone : (text : List ℕ) (cs : List Certificate) → Spells text cs → FileAt text cs []
file_alone text cs s = record { is = s.is ∙ sym (append-nil (certificates_text cs)); fits = s.fit }

pub file_spelled : (text rest : List ℕ) (cs : List Certificate) → FileAt text cs rest → rest ≡ [] → Spells text cs
file_spelled text rest cs a e = record { is = a.is ∙ ap (λ r. certificates_text cs ++ r) e ∙ append-nil (certificates_text cs); fit = a.fits }

pub file_head : (text : List ℕ) (cs : List Certificate) → Spells text cs → head_in text ≡ Some (length cs, row certificate_text 0 cs)
file_head text cs s = ap head_in (s.is ∙ sym (file_is cs)) ∙ reader_head.again (length cs) (row certificate_text 0 cs) s.fit.0

pub file_row : (text after : List ℕ) (count : ℕ) (cs : List Certificate) → head_in text ≡ Some (count, after) → Spells text cs → CertificatesAt count after cs []
file_row text after count cs e s =
    let p = some_pair_parts count (length cs) after (row certificate_text 0 cs) (sym e ∙ file_head text cs s) in
    record { is = p.1 ∙ sym (append-nil (row certificate_text 0 cs)); count_is = sym p.0; fit = s.fit.1 }

pub none_left : (rest : List ℕ) → (length rest == 0) ≡ true → rest ≡ []
none_left [] e = refl
none_left (x ∷ rest) e = absurd (let k : suc (length rest) ≡ 0 = eqb-true (suc (length rest)) 0 e in omega arith)
