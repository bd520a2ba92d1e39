-- Where a text leaves the form of a log.
use Rattle.std.proofs.Common.{◌≡◌, ℕ, ◌+◌, ◌<◌, ◌^◌, Bool, true, false, cond, refl, sym, ap, subst, ◌∙◌, List, [], ◌∷◌, ◌++◌, length, Result, Ok, Err, MatchResult, Bor, arith, append_assoc, codes, decimal}
use Rattle.std.specs.List.{flat_map}
use Rattle.mon_cnf.specs.declared.clause.Lit.{Lit}
use Rattle.mon_text.specs.Numbers.{FitsNumber}
use Rattle.mon_text.specs.Parts.{feed}
use Rattle.mon_text.specs.declared.fault.FileFault.{FileFault}
use Rattle.mon_text.specs.declared.fault.FileFault.TheVariants as file
use Rattle.mon_text.specs.declared.fault.LineFault.{LineFault}
use Rattle.mon_text.specs.declared.fault.LineFault.TheVariants as line
use Rattle.mon_text.specs.Faults.{OnBadAt, OnBadFrom, IsWithin, LinesReadPart, StopsIn}
use Rattle.mon_text.specs.BadLines.{NoFeed, AreLines, IsFirstBadLine, IsBadFrom}
use Rattle.mon_text.proofs.Feedless.{feedless_is, feedless_join, feedless_decimal, feedless_flat}
use Rattle.mon_text.proofs.Stopping.{lines_join, lines_feed, bad_here, bad_behind, bad_after, Row, One, row_bad}
use Rattle.mon_refute.specs.declared.lines.LogLine.{LogLine}
use Rattle.mon_refute.specs.Text.{literal_text, hint_text, end_text, literals_text, hints_text, line_text, log_text, FitsLiteral, FitsHint, FitsLiterals, FitsHints, FitsLine, FitsLog, IsLogText}
use Rattle.mon_refute.specs.Reading.{NoLineAt, LinesAt, NoLinesAt, StopsBehind, CountAt, NoCountAt, LogAt}
use Rattle.mon_refute.proofs.LineTexts.{line_once, lines_once, lines_none, log_count, log_lines, log_alone, log_once, bad_lines}

signed : (n : ℕ) (p : Bool) → n < 2 ^ 64 → NoFeed (32 ∷ cond p (decimal n) (45 ∷ decimal n))
signed n true w = feedless_join (32 ∷ []) (decimal n) (feedless_is (32 ∷ []) refl) (feedless_decimal n w)
signed n false w = feedless_join (32 ∷ 45 ∷ []) (decimal n) (feedless_is (32 ∷ 45 ∷ []) refl) (feedless_decimal n w)

feedless_literals : (c : List Lit) → FitsLiterals c → NoFeed (literals_text c)
feedless_literals c f =
    feedless_join (flat_map literal_text c) end_text (feedless_flat literal_text FitsLiteral (λ l w. signed (l.var + 1) l.positive (let k : l.var < 2 ^ 32 = w in omega arith)) c f)
    (signed 0 true (omega arith))

feedless_hints : (hs : List ℕ) → FitsHints hs → NoFeed (hints_text hs)
feedless_hints hs f = feedless_join (flat_map hint_text hs) end_text (feedless_flat hint_text FitsHint (λ h w. signed h true w.1) hs f) (signed 0 true (omega arith))

-- a line without its line feed
abbrev body : LogLine → List ℕ
body l = 108 ∷ (literals_text l.literals ++ hints_text l.hints)

body_feed : (l : LogLine) → line_text l ≡ body l ++ feed
body_feed l = ap (λ s. 108 ∷ s) (sym (append_assoc (literals_text l.literals) (hints_text l.hints) feed))

feedless_body : (l : LogLine) → FitsLine l → NoFeed (body l)
feedless_body l f = feedless_join (108 ∷ []) _ (feedless_is (108 ∷ []) refl) (feedless_join (literals_text l.literals) (hints_text l.hints) (feedless_literals l.literals f.0) (feedless_hints l.hints f.1))

whole_line : (l : LogLine) → AreLines (line_text l)
whole_line l = subst AreLines (sym (body_feed l)) (lines_feed (body l))

whole_lines : (ls : List LogLine) → AreLines (flat_map line_text ls)
whole_lines [] = tt
whole_lines (l ∷ ls) = lines_join (line_text l) (flat_map line_text ls) (whole_line l) (whole_lines ls)

-- the line without literals and hints
abbrev blank : LogLine
blank = record { literals = []; hints = [] }

abbrev line_at : ℕ → LogLine → List ℕ
line_at n l = line_text l

abbrev lines_at : ℕ → List LogLine → List ℕ
lines_at n ls = flat_map line_text ls

-- lines of a count
abbrev Lines : ℕ → List ℕ → Type 0
Lines count = Row LogLine line_at FitsLine lines_at (λ n. refl) (λ n x xs. refl) 0 count

bad_line : (back : List ℕ) (n : ℕ) → NoLineAt back → IsBadFrom (One LogLine line_at FitsLine lines_at (λ n. refl) (λ n x xs. refl) n) back back
bad_line back n none =
    bad_here (One LogLine line_at FitsLine lines_at (λ n. refl) (λ n x xs. refl) n) back (line_text blank) (blank, (tt, tt), refl) (λ s o. (
      body o.0,
      [],
      feedless_body o.0 o.1,
      o.2 ∙ body_feed o.0,
      λ rest e. none o.0 rest (record { is = e ∙ sym (append_assoc (body o.0) feed rest) ∙ ap (λ t. t ++ rest) (sym (body_feed o.0)); fits = o.1 }),
    ))

pub lines_bad : (bytes : List ℕ) (count : ℕ) (back : List ℕ) → StopsBehind bytes count back → IsBadFrom (Lines count) bytes back
lines_bad bytes count back s =
    row_bad LogLine line_at FitsLine lines_at (λ n. refl) (λ n x xs. refl) (λ n x y r s f g e. line_once x y r s f g e) (λ n x f. whole_line x) blank (tt, tt)
    0 count bytes back back s.front s.few s.read.fit s.read.is (bad_line back (length s.front) s.none)

pub no_lines : (bytes : List ℕ) (count : ℕ) (back : List ℕ) → StopsBehind bytes count back → NoLinesAt bytes count
no_lines bytes count back s log after h = lines_none s.front log back after (let few : length s.front < count = s.few in let is : length log ≡ count = h.count_is in omega arith) s.read.fit h.fit s.none (sym s.read.is ∙ h.is)

-- the first line without its line feed
abbrev count_body : ℕ → List ℕ
count_body n = codes "log " ++ decimal n

count_is : (n : ℕ) (rest : List ℕ) → codes "log " ++ (decimal n ++ (10 ∷ rest)) ≡ (count_body n ++ feed) ++ rest
count_is n rest = sym (append_assoc (count_body n) feed rest ∙ append_assoc (codes "log ") (decimal n) (10 ∷ rest))

feedless_count : (n : ℕ) → FitsNumber n → NoFeed (count_body n)
feedless_count n w = feedless_join (codes "log ") (decimal n) (feedless_is (codes "log ") refl) (feedless_decimal n w)

pub whole_log : (log : List LogLine) → AreLines (log_text log)
whole_log log = subst AreLines (sym (count_is (length log) (flat_map line_text log))) (lines_join (count_body (length log) ++ feed) (flat_map line_text log) (lines_feed (count_body (length log))) (whole_lines log))

-- a log without lines
pub some_log : IsLogText (log_text [])
some_log = ([], record { is = refl; fits = (omega arith, tt) })

pub count_bad : (bytes : List ℕ) → NoCountAt bytes → IsBadFrom IsLogText bytes bytes
count_bad bytes none =
    bad_here IsLogText bytes (log_text []) some_log (λ s o. (
      count_body (length o.0),
      flat_map line_text o.0,
      feedless_count (length o.0) o.1.fits.0,
      o.1.is ∙ count_is (length o.0) (flat_map line_text o.0) ∙ append_assoc (count_body (length o.0)) feed (flat_map line_text o.0),
      λ rest e. none (length o.0) rest (record { is = e ∙ append_assoc (codes "log ") (decimal (length o.0)) (10 ∷ rest); fits = o.1.fits.0 }),
    ))

log_joined : (count : ℕ) (s : List ℕ) → FitsNumber count → Lines count s → IsLogText ((count_body count ++ feed) ++ s)
log_joined count s w r =
    let many : length r.items ≡ count = r.many in (
      r.items,
      record {
        is = sym (count_is count s) ∙ ap (λ n. codes "log " ++ (decimal n ++ (10 ∷ s))) (sym many) ∙ ap (λ t. codes "log " ++ (decimal (length r.items) ++ (10 ∷ t))) r.is;
        fits = (subst (λ n. n < 2 ^ 64) (sym many) w, r.fit);
      },
    )

pub log_bad : (bytes rest : List ℕ) (count : ℕ) (back : List ℕ) → CountAt bytes count rest → StopsBehind rest count back → IsBadFrom IsLogText bytes back
log_bad bytes rest count back c s =
    bad_behind (Lines count) IsLogText bytes (count_body count ++ feed) rest back (c.is ∙ count_is count rest) (lines_feed (count_body count)) (lines_bad rest count back s)
    (λ s r. log_joined count s c.fits r)
    (λ s t more o e.
    let a : LogAt (s ++ t) o.0 t = record { is = ap (λ x. x ++ t) o.1.is; fits = o.1.fits } in
    let b : CountAt (s ++ t) count more = record { is = e ∙ sym (count_is count more); fits = c.fits } in
    let l = log_lines (s ++ t) more count o.0 t b a in
    (flat_map line_text o.0, record { items = o.0; many = l.count_is; fit = l.fit; is = refl }, sym l.is))

-- a log's text is the front of no longer one
log_longest : (log : List LogLine) (more : List ℕ) → FitsLog log → IsLogText (log_text log ++ more) → more ≡ []
log_longest log more f o =
    let a : LogAt (log_text log ++ more) log more = record { is = refl; fits = f } in
    let l = log_lines (log_text log ++ more) (flat_map line_text log ++ more) (length log) o.0 [] (log_count (log_text log ++ more) log more a) (log_alone (log_text log ++ more) o.0 o.1) in
    (lines_once log o.0 more [] (sym l.count_is) f.1 l.fit l.is).1

pub log_trailed : (text back : List ℕ) (n : ℕ) (log : List LogLine) → LogAt text log back → n + length back ≡ length text → IsFirstBadLine IsLogText text n
log_trailed text back n log a e =
    bad_after IsLogText text (log_text log) back n a.is e (whole_log log) (log, record { is = refl; fits = a.fits }) (λ more o. log_longest log more a.fits o)

-- what the reading of the lines answers
pub log_only : (bytes lines : List ℕ) (count : ℕ) (r : Result (List LogLine × Bor (List ℕ)) LineFault) → CountAt bytes count lines
    → MatchResult r (λ x. LinesAt lines count x.0 x.1.now) (λ e. OnBadFrom e (StopsBehind lines count)) → (log : List LogLine) (rest : List ℕ) → LogAt bytes log rest → LinesReadPart r log rest
log_only bytes lines count (Ok x) c m log rest a = log_once bytes lines x.1.now count x.0 log rest c m a
log_only bytes lines count (Err (line.Bad back)) c m log rest a = bad_lines bytes lines count c (no_lines lines count back.now m) log rest a
log_only bytes lines count (Err line.OutOfMemory) c m log rest a = tt

pub log_stops : (bytes lines : List ℕ) (count : ℕ) (r : Result (List LogLine × Bor (List ℕ)) LineFault) → CountAt bytes count lines
    → MatchResult r (λ x. LinesAt lines count x.0 x.1.now) (λ e. OnBadFrom e (StopsBehind lines count)) → StopsIn IsLogText bytes r
log_stops bytes lines count (Ok x) c m = tt
log_stops bytes lines count (Err (line.Bad back)) c m = log_bad bytes lines count back.now c m
log_stops bytes lines count (Err line.OutOfMemory) c m = tt

-- what the end of the text answers
pub trailed : (text bytes : List ℕ) (back : Bor (List ℕ)) (log : List LogLine) (result : FileFault) → bytes ≡ text → LogAt bytes log back.now → IsWithin (line.Bad back) result (length bytes)
    → OnBadAt result (IsFirstBadLine IsLogText text)
trailed text bytes back log (file.Bad offset) e a w = subst (λ t. IsFirstBadLine IsLogText t offset) e (log_trailed bytes back.now offset log a w)
trailed text bytes back log file.OutOfMemory e a w = absurd w
