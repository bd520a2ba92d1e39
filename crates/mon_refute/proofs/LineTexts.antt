-- Lines and logs are spelled in one way.
use Rattle.std.proofs.Common.{◌≡◌, ◌≢◌, ℕ, ◌+◌, ◌^◌, ◌<◌, ◌≤◌, refl, sym, ap, ◌∙◌, subst, List, [], ◌∷◌, ◌++◌, length, arith, decimal, append_assoc, codes, length-append}
use Rattle.std.specs.List.{flat_map, AllByRecursion}
use Rattle.std.proofs.lemmas.List.{append-nil}
use Rattle.mon_cnf.specs.declared.clause.Lit.{Lit}
use Rattle.mon_refute.specs.declared.lines.LogLine.{LogLine}
use Rattle.mon_text.specs.declared.fault.TextFault.{TextFault}
use Rattle.mon_text.specs.declared.fault.TextFault.TheVariants.{Bad, OutOfMemory}
use Rattle.mon_text.specs.Reads.{OnBad}
use Rattle.mon_refute.specs.Text.{literals_text, hints_text, line_text, log_text, FitsLiteral, FitsHint, FitsLiterals, FitsHints, FitsLine, Spells}
use Rattle.mon_text.specs.Numbers.{NoDigit, NoneAt, FoundAt, FitsNumber}
use Rattle.mon_refute.specs.Reading.{literal_word, hint_word, LineAt, NoLineAt, LinesAt, NoLinesAt, CountAt, NoCountAt, LogAt}
use Rattle.mon_text.proofs.Spelling.{decimal_once}
use Rattle.mon_refute.proofs.WordKinds.{literal_fits, literal_same, hint_fits, hint_same}
use Rattle.mon_refute.proofs.Items.{list_once, next}
use Rattle.mon_refute.proofs.Words.{tails}
use Rattle.mon_text.proofs.Growing.{all_push, flat_push}

line_is : (l : LogLine) (r : List ℕ) → line_text l ++ r ≡ 108 ∷ (literals_text l.literals ++ (hints_text l.hints ++ (10 ∷ r)))
line_is l r = ap (λ xs. 108 ∷ xs) (append_assoc (literals_text l.literals) (hints_text l.hints ++ (10 ∷ [])) r ∙ ap (λ xs. literals_text l.literals ++ xs) (append_assoc (hints_text l.hints) (10 ∷ []) r))

no_feed : (r : List ℕ) → NoDigit (10 ∷ r)
no_feed r h = let k : 48 ≤ 10 = h.0 in omega arith

hints_next : (hs : List ℕ) (r : List ℕ) → NoDigit (hints_text hs ++ r)
hints_next hs r = next ℕ hint_word FitsHint hint_fits hint_same hs r

literals_once : (c d : List Lit) (r s : List ℕ) → FitsLiterals c → FitsLiterals d → NoDigit r → NoDigit s → literals_text c ++ r ≡ literals_text d ++ s → (c ≡ d) × (r ≡ s)
literals_once c d r s f g a b e = list_once Lit literal_word FitsLiteral literal_fits literal_same c d r s f g a b e

hints_once : (c d : List ℕ) (r s : List ℕ) → FitsHints c → FitsHints d → NoDigit r → NoDigit s → hints_text c ++ r ≡ hints_text d ++ s → (c ≡ d) × (r ≡ s)
hints_once c d r s f g a b e = list_once ℕ hint_word FitsHint hint_fits hint_same c d r s f g a b e

-- what a line has behind its first byte
behind_first : (bytes r1 rest : List ℕ) (l : LogLine) → bytes ≡ 108 ∷ r1 → LineAt bytes l rest → r1 ≡ literals_text l.literals ++ (hints_text l.hints ++ (10 ∷ rest))
behind_first bytes r1 rest l e h = tails 108 108 _ _ (sym e ∙ h.is ∙ line_is l rest)

pub no_literals : (bytes r1 : List ℕ) (f : TextFault) → bytes ≡ 108 ∷ r1 → OnBad f (NoneAt literals_text FitsLiterals r1) → OnBad f (NoLineAt bytes)
no_literals bytes r1 Bad e n = λ l rest h. n l.literals (hints_text l.hints ++ (10 ∷ rest)) (h.fits.0, record { is = behind_first bytes r1 rest l e h; ends = hints_next l.hints (10 ∷ rest) })
no_literals bytes r1 OutOfMemory e n = tt

-- the literals that were read are the line's
behind_literals : (bytes r1 r2 rest : List ℕ) (c : List Lit) (l : LogLine) → bytes ≡ 108 ∷ r1 → FoundAt literals_text FitsLiterals r1 c r2 → LineAt bytes l rest
    → (c ≡ l.literals) × (r2 ≡ hints_text l.hints ++ (10 ∷ rest))
behind_literals bytes r1 r2 rest c l e f h =
    literals_once c l.literals r2 _ f.0 h.fits.0 f.1.ends (hints_next l.hints (10 ∷ rest)) (sym f.1.is ∙ behind_first bytes r1 rest l e h)

pub no_hints : (bytes r1 r2 : List ℕ) (c : List Lit) (f : TextFault) → bytes ≡ 108 ∷ r1 → FoundAt literals_text FitsLiterals r1 c r2 → OnBad f (NoneAt hints_text FitsHints r2) → OnBad f (NoLineAt bytes)
no_hints bytes r1 r2 c Bad e g n = λ l rest h. n l.hints (10 ∷ rest) (h.fits.1, record { is = (behind_literals bytes r1 r2 rest c l e g h).1; ends = no_feed rest })
no_hints bytes r1 r2 c OutOfMemory e g n = tt

behind_hints : (bytes r1 r2 r3 rest : List ℕ) (c : List Lit) (hs : List ℕ) (l : LogLine) → bytes ≡ 108 ∷ r1 → FoundAt literals_text FitsLiterals r1 c r2 → FoundAt hints_text FitsHints r2 hs r3 → LineAt bytes l rest
    → (hs ≡ l.hints) × (r3 ≡ 10 ∷ rest)
behind_hints bytes r1 r2 r3 rest c hs l e f g h = hints_once hs l.hints r3 _ g.0 h.fits.1 g.1.ends (no_feed rest) (sym g.1.is ∙ (behind_literals bytes r1 r2 rest c l e f h).1)

pub no_end : (bytes r1 r2 r3 : List ℕ) (c : List Lit) (hs : List ℕ) → bytes ≡ 108 ∷ r1 → FoundAt literals_text FitsLiterals r1 c r2 → FoundAt hints_text FitsHints r2 hs r3
    → ((rest : List ℕ) → r3 ≢ 10 ∷ rest) → NoLineAt bytes
no_end bytes r1 r2 r3 c hs e f g n l rest h = n rest (behind_hints bytes r1 r2 r3 rest c hs l e f g h).1

line_parts : (c d : List Lit) (hs ks : List ℕ) → c ≡ d → hs ≡ ks → (let l : LogLine = record { literals = c; hints = hs } in l) ≡ record { literals = d; hints = ks }
line_parts c d hs ks e f = cc

pub line_once : (l m : LogLine) (r s : List ℕ) → FitsLine l → FitsLine m → line_text l ++ r ≡ line_text m ++ s → (l ≡ m) × (r ≡ s)
line_once l m r s f g e =
    let a = literals_once l.literals m.literals _ _ f.0 g.0 (hints_next l.hints (10 ∷ r)) (hints_next m.hints (10 ∷ s)) (tails 108 108 _ _ (sym (line_is l r) ∙ e ∙ line_is m s)) in
    let b = hints_once l.hints m.hints _ _ f.1 g.1 (no_feed r) (no_feed s) a.1 in
    (line_parts l.literals m.literals l.hints m.hints a.0 b.0, tails 10 10 _ _ b.1)

cons_lines : (l m : LogLine) (ls ms : List LogLine) → l ≡ m → ls ≡ ms → l ∷ ls ≡ m ∷ ms
cons_lines l m ls ms e f = cc

pub lines_once : (ls ms : List LogLine) (r s : List ℕ) → length ls ≡ length ms → AllByRecursion FitsLine ls → AllByRecursion FitsLine ms → flat_map line_text ls ++ r ≡ flat_map line_text ms ++ s → (ls ≡ ms) × (r ≡ s)
lines_once [] [] r s n f g e = (refl, e)
lines_once [] (m ∷ ms) r s n f g e = absurd (omega arith)
lines_once (l ∷ ls) [] r s n f g e = absurd (omega arith)
lines_once (l ∷ ls) (m ∷ ms) r s n f g e =
    let a = line_once l m _ _ f.0 g.0 (sym (append_assoc (line_text l) (flat_map line_text ls) r) ∙ e ∙ append_assoc (line_text m) (flat_map line_text ms) s) in
    let b = lines_once ls ms r s (omega arith) f.1 g.1 a.1 in
    (cons_lines l m ls ms a.0 b.0, b.1)

pub lines_none : (front ls : List LogLine) (rest after : List ℕ) → length front < length ls → AllByRecursion FitsLine front → AllByRecursion FitsLine ls → NoLineAt rest
    → flat_map line_text front ++ rest ≡ flat_map line_text ls ++ after → ⊥
lines_none [] [] rest after w f g n e = omega arith
lines_none [] (l ∷ ls) rest after w f g n e = n l (flat_map line_text ls ++ after) (record { is = e ∙ append_assoc (line_text l) (flat_map line_text ls) after; fits = g.0 })
lines_none (x ∷ xs) [] rest after w f g n e = omega arith
lines_none (x ∷ xs) (l ∷ ls) rest after w f g n e =
    let a = line_once x l _ _ f.0 g.0 (sym (append_assoc (line_text x) (flat_map line_text xs) rest) ∙ e ∙ append_assoc (line_text l) (flat_map line_text ls) after) in
    lines_none xs ls rest after (omega arith) f.1 g.1 n a.1

pub one_line : (bytes rest after : List ℕ) (i : ℕ) (front new : List LogLine) (l : LogLine) → LinesAt bytes i front rest → LineAt rest l after → new ≡ front ++ (l ∷ []) → LinesAt bytes (i + 1) new after
one_line bytes rest after i front new l s h g = subst (λ ls. LinesAt bytes (i + 1) ls after) (sym g) (record {
  is = s.is ∙ ap (λ xs. flat_map line_text front ++ xs) h.is ∙ flat_push line_text front l after;
  count_is = omega (arith, s.count_is, length-append front (l ∷ []));
  fit = all_push FitsLine front l s.fit h.fits;
})

count_once : (m n : ℕ) (r s : List ℕ) → FitsNumber m → FitsNumber n → codes "log " ++ (decimal m ++ (10 ∷ r)) ≡ codes "log " ++ (decimal n ++ (10 ∷ s)) → (m ≡ n) × (r ≡ s)
count_once m n r s f g e =
    let a = decimal_once m n (10 ∷ r) (10 ∷ s) f g (no_feed r) (no_feed s) (tails 32 32 _ _ (tails 103 103 _ _ (tails 111 111 _ _ (tails 108 108 _ _ e)))) in
    (a.0, tails 10 10 _ _ a.1)

-- a log's text, as its parts are read
log_is : (log : List LogLine) (rest : List ℕ) → log_text log ++ rest ≡ codes "log " ++ (decimal (length log) ++ (10 ∷ (flat_map line_text log ++ rest)))
log_is log rest = ap (λ xs. codes "log " ++ xs) (append_assoc (decimal (length log)) (10 ∷ flat_map line_text log) rest)

pub log_count : (bytes : List ℕ) (log : List LogLine) (rest : List ℕ) → LogAt bytes log rest → CountAt bytes (length log) (flat_map line_text log ++ rest)
log_count bytes log rest a = record { is = a.is ∙ log_is log rest; fits = a.fits.0 }

pub bad_count : (bytes : List ℕ) → NoCountAt bytes → (log : List LogLine) (rest : List ℕ) → LogAt bytes log rest → ⊥
bad_count bytes n log rest a = n (length log) (flat_map line_text log ++ rest) (log_count bytes log rest a)

pub log_lines : (bytes lines : List ℕ) (count : ℕ) (log : List LogLine) (rest : List ℕ) → CountAt bytes count lines → LogAt bytes log rest → LinesAt lines count log rest
log_lines bytes lines count log rest c a =
    let k = count_once count (length log) lines (flat_map line_text log ++ rest) c.fits a.fits.0 (sym c.is ∙ a.is ∙ log_is log rest) in
    record { is = k.1; count_is = sym k.0; fit = a.fits.1 }

pub bad_lines : (bytes lines : List ℕ) (count : ℕ) → CountAt bytes count lines → NoLinesAt lines count → (log : List LogLine) (rest : List ℕ) → LogAt bytes log rest → ⊥
bad_lines bytes lines count c n log rest a = n log rest (log_lines bytes lines count log rest c a)

pub log_once : (bytes lines after : List ℕ) (count : ℕ) (read log : List LogLine) (rest : List ℕ) → CountAt bytes count lines → LinesAt lines count read after → LogAt bytes log rest → (read ≡ log) × (after ≡ rest)
log_once bytes lines after count read log rest c l a =
    let k = log_lines bytes lines count log rest c a in
    lines_once read log after rest (l.count_is ∙ sym k.count_is) l.fit k.fit (sym l.is ∙ k.is)

pub log_found : (bytes lines after : List ℕ) (count : ℕ) (read : List LogLine) → CountAt bytes count lines → LinesAt lines count read after → LogAt bytes read after
log_found bytes lines after count read c l = record {
  is = c.is ∙ ap (λ n. codes "log " ++ (decimal n ++ (10 ∷ lines))) (sym l.count_is) ∙ ap (λ xs. codes "log " ++ (decimal (length read) ++ (10 ∷ xs))) l.is ∙ sym (log_is read after);
  fits = (subst (λ n. n < 2 ^ 64) (sym l.count_is) c.fits, l.fit);
}

-- the text of a log alone
pub log_alone : (text : List ℕ) (log : List LogLine) → Spells text log → LogAt text log []
log_alone text log s = record { is = s.is ∙ sym (append-nil (log_text log)); fits = s.fits }

pub log_spelled : (text rest : List ℕ) (log : List LogLine) → LogAt text log rest → rest ≡ [] → Spells text log
log_spelled text rest log a e = record { is = a.is ∙ ap (λ xs. log_text log ++ xs) e ∙ append-nil (log_text log); fits = a.fits }

number_of_log : (bytes number rest : List ℕ) (count : ℕ) → bytes ≡ codes "log " ++ number → CountAt bytes count rest → number ≡ decimal count ++ (10 ∷ rest)
number_of_log bytes number rest count e c = tails 32 32 _ _ (tails 103 103 _ _ (tails 111 111 _ _ (tails 108 108 _ _ (sym e ∙ c.is))))

pub no_count_end : (bytes number after : List ℕ) (n : ℕ) → bytes ≡ codes "log " ++ number → FoundAt decimal FitsNumber number n after → ((rest : List ℕ) → after ≢ 10 ∷ rest) → NoCountAt bytes
no_count_end bytes number after n e f g count rest c =
    g rest (decimal_once n count after (10 ∷ rest) f.0 c.fits f.1.ends (no_feed rest) (sym f.1.is ∙ number_of_log bytes number rest count e c)).1
