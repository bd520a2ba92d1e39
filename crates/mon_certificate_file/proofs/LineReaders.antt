-- What stands on the lines of a certificate file is read just as it is spelled.
use Rattle.std.proofs.Common.{◌≡◌, ℕ, ◌^◌, ◌<◌, ◌≤◌, refl, sym, ap, subst, ◌∙◌, List, [], ◌++◌, Option, Some, None, option_map, arith, decimal, codes, append_assoc}
use Rattle.std.specs.Prelude.{option_and_then}
use Rattle.std.specs.Int.{IsInRange}
use Rattle.mon_text.specs.Hex.{hex, AreBytes}
use Rattle.mon_text.specs.Numbers.{FitsNumber}
use Rattle.mon_text.specs.Parts.{Part, behind, led, ended, both, seen, bytes_in, number_within, feed}
use Rattle.mon_text.proofs.Joining.{IsReader, bound, mapped, behind-found, behind-again, reader_led, reader_ended, reader_seen, reader_both, reader_within, reader_number}
use Rattle.mon_text.proofs.InDigits.{reader_bytes}
use Rattle.mon_header.specs.declared.header.Header.{Header}
use Rattle.mon_header.specs.Matching.{InRange}
use Rattle.mon_outcome.specs.declared.emission.Emission.{Emission}
use Rattle.mon_outcome.specs.declared.emission.Emission.TheVariants.{Port, Controller, Miss}
use Rattle.mon_certificate_file.specs.Headers.{header_bytes, header_from}
use Rattle.mon_certificate_file.specs.CertificateFile.{header_text, emission_text, probe_text, FitsEmission}
use Rattle.mon_certificate_file.specs.Reading.{header_in, last_header, port_of, port_in, controller_in, miss_in, or_else, emission_in, behind_rule, probe_in, overlap_in, count_in, head_in}
use Rattle.mon_certificate_file.proofs.Fields.{header-written, header-bytes, header-read, header-below}

no_digit : IsInRange 48 57 32 → ⊥
no_digit h = let k : 48 ≤ 32 = h.0 in omega arith

no_digit_either : IsInRange 48 57 10 → ⊥
no_digit_either h = let k : 48 ≤ 10 = h.0 in omega arith

reader_header : IsReader header_text InRange header_in
unfolding header_in
reader_header = reader_seen hex (AreBytes 33) (bytes_in 33) (reader_bytes 33) header_from header_bytes InRange
    (λ h r. (header-bytes h, header-read h r))
    (λ bytes are. (header-below bytes are.1, header-written bytes are))

reader_header_word : IsReader (λ h. header_text h ++ codes " ") InRange (ended (codes " ") header_in)
reader_header_word = reader_ended header_text InRange header_in reader_header (codes " ")

reader_last_header : IsReader (λ h. header_text h ++ feed) InRange last_header
reader_last_header = reader_ended header_text InRange header_in reader_header feed

-- a port and a header
abbrev port_text : ℕ × Header → List ℕ
port_text x = (decimal x.0 ++ codes " ") ++ (header_text x.1 ++ feed)

abbrev FitsPort : ℕ × Header → Type 0
FitsPort x = ((0 ≤ x.0) × (x.0 ≤ 65535)) × InRange x.1

abbrev port_parts : List ℕ → Part (ℕ × Header)
port_parts = both (ended (codes " ") (number_within 0 65535)) last_header

reader_port : IsReader port_text FitsPort port_parts
reader_port = reader_both (λ n. decimal n ++ codes " ") (λ h. header_text h ++ feed) (λ n. (0 ≤ n) × (n ≤ 65535)) InRange (ended (codes " ") (number_within 0 65535)) last_header
    (reader_within 0 65535 32 [] (omega arith) no_digit) reader_last_header

abbrev Found : List ℕ → Emission → List ℕ → Type 0
Found bytes e rest = FitsEmission e × (bytes ≡ (emission_text e ++ feed) ++ rest)

port_is : (port : ℕ) (h : Header) (rest : List ℕ) → codes "port " ++ (port_text (port, h) ++ rest) ≡ (emission_text (Port port h) ++ feed) ++ rest
port_is port h rest = simp append_assoc

controller_is : (h : Header) (rest : List ℕ) → codes "controller " ++ ((header_text h ++ feed) ++ rest) ≡ (emission_text (Controller h) ++ feed) ++ rest
controller_is h rest = simp append_assoc

miss_is : (h : Header) (rest : List ℕ) → codes "miss " ++ ((header_text h ++ feed) ++ rest) ≡ (emission_text (Miss h) ++ feed) ++ rest
miss_is h rest = simp append_assoc

port-found : (text bytes : List ℕ) (e : Emission) (rest : List ℕ) → text ≡ codes "port " ++ bytes → port_in bytes ≡ Some (e, rest) → Found text e rest
unfolding port_in
port-found text bytes e rest front f =
    let p = mapped {B = Emission × List ℕ} (λ (x : (ℕ × Header) × List ℕ). (port_of x.0, x.1)) (port_parts bytes) (e, rest) f in
    let r = reader_port.found bytes p.0.0 p.0.1 p.1 in
    let same : port_of p.0.0 ≡ e = ap (λ (z : Emission × List ℕ). z.0) p.2 in
    let after : p.0.1 ≡ rest = ap (λ (z : Emission × List ℕ). z.1) p.2 in
    let most : p.0.0.0 ≤ 65535 = r.0.0.1 in
    subst (λ z. Found text z rest) same (subst (λ z. Found text (port_of p.0.0) z) after
    (((omega arith, r.0.1)), front ∙ ap (λ t. codes "port " ++ t) r.1 ∙ port_is p.0.0.0 p.0.0.1 p.0.1))

controller-found : (text bytes : List ℕ) (e : Emission) (rest : List ℕ) → text ≡ codes "controller " ++ bytes → controller_in bytes ≡ Some (e, rest) → Found text e rest
unfolding controller_in
controller-found text bytes e rest front f =
    let p = mapped {B = Emission × List ℕ} (λ (x : Header × List ℕ). (Controller x.0, x.1)) (last_header bytes) (e, rest) f in
    let r = reader_last_header.found bytes p.0.0 p.0.1 p.1 in
    let same : Controller p.0.0 ≡ e = ap (λ (z : Emission × List ℕ). z.0) p.2 in
    let after : p.0.1 ≡ rest = ap (λ (z : Emission × List ℕ). z.1) p.2 in
    subst (λ z. Found text z rest) same (subst (λ z. Found text (Controller p.0.0) z) after
    (r.0, front ∙ ap (λ t. codes "controller " ++ t) r.1 ∙ controller_is p.0.0 p.0.1))

miss-found : (text : List ℕ) (e : Emission) (rest : List ℕ) → led (codes "miss ") miss_in text ≡ Some (e, rest) → Found text e rest
unfolding miss_in
miss-found text e rest f =
    let b = bound (seen Miss last_header) (behind (codes "miss ") text) (e, rest) f in
    let p = mapped {B = Emission × List ℕ} (λ (x : Header × List ℕ). (Miss x.0, x.1)) (last_header b.0) (e, rest) b.2 in
    let r = reader_last_header.found b.0 p.0.0 p.0.1 p.1 in
    let same : Miss p.0.0 ≡ e = ap (λ (z : Emission × List ℕ). z.0) p.2 in
    let after : p.0.1 ≡ rest = ap (λ (z : Emission × List ℕ). z.1) p.2 in
    subst (λ z. Found text z rest) same (subst (λ z. Found text (Miss p.0.0) z) after
    (r.0, behind-found (codes "miss ") text b.0 b.1 ∙ ap (λ t. codes "miss " ++ t) r.1 ∙ miss_is p.0.0 p.0.1))

after_port : (text : List ℕ) (e : Emission) (rest : List ℕ) (o : Option (List ℕ)) → behind (codes "controller ") text ≡ o → or_else o controller_in (led (codes "miss ") miss_in text) ≡ Some (e, rest) → Found text e rest
after_port text e rest (Some bytes) b f = controller-found text bytes e rest (behind-found (codes "controller ") text bytes b) f
after_port text e rest None b f = miss-found text e rest f

some_kind : (text : List ℕ) (e : Emission) (rest : List ℕ) (o : Option (List ℕ)) → behind (codes "port ") text ≡ o
    → or_else o port_in (or_else (behind (codes "controller ") text) controller_in (led (codes "miss ") miss_in text)) ≡ Some (e, rest) → Found text e rest
some_kind text e rest (Some bytes) b f = port-found text bytes e rest (behind-found (codes "port ") text bytes b) f
some_kind text e rest None b f = after_port text e rest (behind (codes "controller ") text) refl f

port-again : (port : ℕ) (h : Header) (rest : List ℕ) → FitsEmission (Port port h) → port_in (port_text (port, h) ++ rest) ≡ Some (Port port h, rest)
unfolding port_in
port-again port h rest fits =
    let small : port < 2 ^ 16 = fits.0 in
    ap (option_map {U = Emission × List ℕ} (λ (x : (ℕ × Header) × List ℕ). (port_of x.0, x.1))) (reader_port.again (port, h) rest ((omega arith, omega arith), fits.1))

controller-again : (h : Header) (rest : List ℕ) → InRange h → controller_in ((header_text h ++ feed) ++ rest) ≡ Some (Controller h, rest)
unfolding controller_in
controller-again h rest fits = ap (option_map {U = Emission × List ℕ} (λ (x : Header × List ℕ). (Controller x.0, x.1))) (reader_last_header.again h rest fits)

miss-again : (h : Header) (rest : List ℕ) → InRange h → miss_in ((header_text h ++ feed) ++ rest) ≡ Some (Miss h, rest)
unfolding miss_in
miss-again h rest fits = ap (option_map {U = Emission × List ℕ} (λ (x : Header × List ℕ). (Miss x.0, x.1))) (reader_last_header.again h rest fits)

emission-again : (e : Emission) (rest : List ℕ) → FitsEmission e → emission_in ((emission_text e ++ feed) ++ rest) ≡ Some (e, rest)
unfolding emission_in
emission-again (Port port h) rest fits =
    let after = port_text (port, h) ++ rest in
    let text = codes "port " ++ after in
    ap emission_in (sym (port_is port h rest))
    ∙ ap (λ o. or_else o port_in (or_else (behind (codes "controller ") text) controller_in (led (codes "miss ") miss_in text))) (behind-again (codes "port ") after)
    ∙ port-again port h rest fits
emission-again (Controller h) rest fits =
    let after = (header_text h ++ feed) ++ rest in
    let text = codes "controller " ++ after in
    ap emission_in (sym (controller_is h rest))
    ∙ ap (λ o. or_else o controller_in (led (codes "miss ") miss_in text)) (behind-again (codes "controller ") after)
    ∙ controller-again h rest fits
emission-again (Miss h) rest fits =
    let after = (header_text h ++ feed) ++ rest in
    ap emission_in (sym (miss_is h rest))
    ∙ ap (option_and_then miss_in) (behind-again (codes "miss ") after)
    ∙ miss-again h rest fits

reader_emission : IsReader (λ e. emission_text e ++ feed) FitsEmission emission_in
unfolding emission_in
reader_emission = record {
  found = λ text e rest f. some_kind text e rest (behind (codes "port ") text) refl f;
  again = emission-again;
}

-- the number of a rule and a space
pub rule-found : (rule : ℕ) (text rest : List ℕ) → behind_rule rule text ≡ Some rest → text ≡ decimal rule ++ (codes " " ++ rest)
unfolding behind_rule
rule-found rule text rest e =
    let b = bound (behind (codes " ")) (behind (decimal rule) text) rest e in
    behind-found (decimal rule) text b.0 b.1 ∙ ap (λ t. decimal rule ++ t) (behind-found (codes " ") b.0 rest b.2)

pub rule-again : (rule : ℕ) (rest : List ℕ) → behind_rule rule (decimal rule ++ (codes " " ++ rest)) ≡ Some rest
unfolding behind_rule
rule-again rule rest = ap (option_and_then (behind (codes " "))) (behind-again (decimal rule) (codes " " ++ rest)) ∙ behind-again (codes " ") rest

pub overlap-found : (rule : ℕ) (text rest : List ℕ) → overlap_in rule text ≡ Some rest → text ≡ (decimal rule ++ feed) ++ rest
unfolding overlap_in
overlap-found rule text rest e =
    let b = bound (behind feed) (behind (decimal rule) text) rest e in
    behind-found (decimal rule) text b.0 b.1 ∙ ap (λ t. decimal rule ++ t) (behind-found feed b.0 rest b.2) ∙ sym (append_assoc (decimal rule) feed rest)

pub overlap-again : (rule : ℕ) (rest : List ℕ) → overlap_in rule ((decimal rule ++ feed) ++ rest) ≡ Some rest
unfolding overlap_in
overlap-again rule rest =
    ap (overlap_in rule) (append_assoc (decimal rule) feed rest)
    ∙ ap (option_and_then (behind feed)) (behind-again (decimal rule) (feed ++ rest))
    ∙ behind-again feed rest

-- a probe behind its first word
abbrev pub FitsProbe : Header × Emission → Type 0
FitsProbe x = InRange x.0 × FitsEmission x.1

abbrev probe_words : Header × Emission → List ℕ
probe_words x = (header_text x.0 ++ codes " ") ++ (emission_text x.1 ++ feed)

abbrev probe_parts : List ℕ → Part (Header × Emission)
probe_parts = both (ended (codes " ") header_in) emission_in

reader_parts : IsReader probe_words FitsProbe probe_parts
reader_parts = reader_both (λ h. header_text h ++ codes " ") (λ e. emission_text e ++ feed) InRange FitsEmission (ended (codes " ") header_in) emission_in reader_header_word reader_emission

probe_is : (rule : ℕ) (x : Header × Emission) (rest : List ℕ) → decimal rule ++ (codes " " ++ (probe_words x ++ rest)) ≡ probe_text rule x ++ rest
probe_is rule x rest = simp append_assoc

pub reader_probe : (rule : ℕ) → IsReader (probe_text rule) FitsProbe (probe_in rule)
unfolding probe_in
reader_probe rule = record {
  found = λ text x rest e.
      let b = bound probe_parts (behind_rule rule text) (x, rest) e in
      let f = reader_parts.found b.0 x rest b.2 in
      (f.0, rule-found rule text b.0 b.1 ∙ ap (λ t. decimal rule ++ (codes " " ++ t)) f.1 ∙ probe_is rule x rest);
  again = λ x rest fits.
      ap (probe_in rule) (sym (probe_is rule x rest))
      ∙ ap (option_and_then probe_parts) (rule-again rule (probe_words x ++ rest))
      ∙ reader_parts.again x rest fits;
}

pub reader_count : IsReader (λ n. decimal n ++ feed) FitsNumber count_in
unfolding count_in
reader_count = reader_number 10 [] no_digit_either

-- the first two lines
abbrev pub head_words : List ℕ
head_words = codes "monocle-certificates 1" ++ (feed ++ codes "rules ")

pub reader_head : IsReader (λ n. head_words ++ (decimal n ++ feed)) FitsNumber head_in
unfolding head_in
reader_head = reader_led (λ n. decimal n ++ feed) FitsNumber count_in reader_count head_words
