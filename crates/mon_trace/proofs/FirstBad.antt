-- A text that is no trace leaves the form of traces at the offset that the grammar gives.
use Rattle.std.proofs.Common.{◌≡◌, ◌≢◌, ℕ, ◌+◌, Bool, true, false, cond, refl, sym, ap, subst, ◌∙◌, List, [], ◌∷◌, ◌++◌, length, Option, Some, None, Result, Ok, Err, ◌⊎◌, ⊎_elim, inl, inr, arith, codes, append_assoc, length-append}
use Rattle.std.specs.Prelude.{◌==◌}
use Rattle.std.specs.List.{flat_map, AllByRecursion}
use Rattle.std.proofs.lemmas.Bool.{ne_eqb, eqb-true, eq-eqb, false≢true, cases_Bool}
use Rattle.std.proofs.lemmas.List.{append-nil}
use Rattle.mon_text.specs.Parts.{feed}
use Rattle.mon_text.specs.BadLines.{NoFeed, AreLines, IsFirstBadLine}
use Rattle.mon_text.specs.Hex.{byte_of, digit_of}
use Rattle.mon_text.proofs.Stopping.{feed_once, feed_behind, lines_join, lines_feed, bad_next}
use Rattle.mon_world.specs.declared.event.Event.{Event}
use Rattle.mon_trace.specs.Grammar.{Recorded, Traced, Lines, line_before, byte_on, byte_before, lines_of, key_of, event_of, is_open, is_lose, opened_behind, losing_behind, Records, record_before, records_in, with_key, traced_in, trace_of}
use Rattle.mon_trace.specs.Broken.{IsTrace}

not_ok : {A : Type 0} (n : ℕ) (x : A) → ◌≡◌ {A = Result A ℕ} (Err n) (Ok x) → ⊥
not_ok n x e = cc

same_fault : {A : Type 0} (m n : ℕ) → ◌≡◌ {A = Result A ℕ} (Err m) (Err n) → m ≡ n
same_fault m n e = cc

-- lines, each with its line feed
abbrev text_of : List (List ℕ) → List ℕ
text_of lines = flat_map (λ line. line ++ feed) lines

no_feed_in : (line rest : List ℕ) → NoFeed (line ++ 10 ∷ rest) → ⊥
no_feed_in [] rest n = n.0 refl
no_feed_in (byte ∷ line) rest n = no_feed_in line rest n.1

one_line : (line rest : List ℕ) → NoFeed line → lines_of (line ++ 10 ∷ rest) ≡ line_before line (lines_of rest)
one_line [] rest n = refl
one_line (byte ∷ line) rest n =
    ap (λ (b : Bool). cond b (line_before [] (lines_of (line ++ 10 ∷ rest))) (byte_before byte (lines_of (line ++ 10 ∷ rest)))) (ne_eqb byte 10 n.0)
    ∙ ap (byte_before byte) (one_line line rest n.1)

many_lines : (lines : List (List ℕ)) (rest : List ℕ) → AllByRecursion NoFeed lines → lines_of (text_of lines ++ rest) ≡ record { ended = lines ++ (lines_of rest).ended; rest = (lines_of rest).rest }
many_lines [] rest all = refl
many_lines (line ∷ lines) rest all =
    ap lines_of (append_assoc (line ++ feed) (text_of lines) rest ∙ feed_behind line (text_of lines ++ rest))
    ∙ one_line line (text_of lines ++ rest) all.0
    ∙ ap (line_before line) (many_lines lines rest all.1)

whole_lines : (lines : List (List ℕ)) → AreLines (text_of lines)
whole_lines [] = tt
whole_lines (line ∷ lines) = lines_join (line ++ feed) (text_of lines) (lines_feed line) (whole_lines lines)

text_join : (a b : List (List ℕ)) → text_of (a ++ b) ≡ text_of a ++ text_of b
text_join [] b = refl
text_join (line ∷ a) b = ap (λ t. (line ++ feed) ++ t) (text_join a b) ∙ sym (append_assoc (line ++ feed) (text_of a) (text_of b))

-- a text is its lines
record Split (text : List ℕ) (lines : Lines) : Type 0 where
  is : text ≡ text_of lines.ended ++ lines.rest
  each : AllByRecursion NoFeed lines.ended
  last : NoFeed lines.rest

split_byte : (byte : ℕ) (bytes : List ℕ) (ended : List (List ℕ)) (rest : List ℕ) → byte ≢ 10 → Split bytes (record { ended = ended; rest = rest }) → Split (byte ∷ bytes) (byte_on byte ended rest)
split_byte byte bytes [] rest n s = record { is = ap (λ t. byte ∷ t) s.is; each = tt; last = (n, s.last) }
split_byte byte bytes (line ∷ lines) rest n s = record { is = ap (λ t. byte ∷ t) s.is; each = ((n, s.each.0), s.each.1); last = s.last }

split : (text : List ℕ) → Split text (lines_of text)
split [] = record { is = refl; each = tt; last = tt }
split (byte ∷ bytes) =
    let more = split bytes in
    ⊎_elim
    (λ (e : (byte == 10) ≡ true). subst (Split (byte ∷ bytes)) (ap (λ (b : Bool). cond b (line_before [] (lines_of bytes)) (byte_before byte (lines_of bytes))) (sym e))
    (record { is = ap (λ c. c ∷ bytes) (eqb-true byte 10 e) ∙ ap (λ t. 10 ∷ t) more.is; each = (tt, more.each); last = more.last }))
    (λ (e : (byte == 10) ≡ false). subst (Split (byte ∷ bytes)) (ap (λ (b : Bool). cond b (line_before [] (lines_of bytes)) (byte_before byte (lines_of bytes))) (sym e))
    (split_byte byte bytes (lines_of bytes).ended (lines_of bytes).rest (λ g. false≢true (sym e ∙ eq-eqb byte 10 g)) more))
    (cases_Bool (byte == 10))

-- records before others
down : (offset losing : ℕ) (lose : Bool) (event : Option Event) (others : Records) (x : List Recorded × ℕ) → record_before offset losing lose event others ≡ Ok x → (y : List Recorded × ℕ) × (others ≡ Ok y)
down offset losing true event others x e = (x, e)
down offset losing false None others x e = absurd (not_ok offset x e)
down offset losing false (Some event) (Ok y) x e = (y, refl)
down offset losing false (Some event) (Err n) x e = absurd (not_ok n x e)

-- a record is bad itself, or it is none of the fault's
record Stays (offset losing : ℕ) (lose : Bool) (event : Option Event) (others : Records) (n : ℕ) : Type 0 where
  later : others ≡ Err n
  up : (y : List Recorded × ℕ) → (x : List Recorded × ℕ) × (record_before offset losing lose event (Ok y) ≡ Ok x)

abbrev IsBadRecord : ℕ → Bool → Option Event → ℕ → Type 0
IsBadRecord offset lose event n = (n ≡ offset) × (lose ≡ false) × (event ≡ None)

faulty : (offset losing : ℕ) (lose : Bool) (event : Option Event) (others : Records) (n : ℕ) → record_before offset losing lose event others ≡ Err n → IsBadRecord offset lose event n ⊎ Stays offset losing lose event others n
faulty offset losing true event others n e = inr (record { later = e; up = λ y. (y, refl) })
faulty offset losing false None others n e = inl (sym (same_fault offset n e), refl, refl)
faulty offset losing false (Some event) (Ok y) n e = absurd (not_ok n _ (sym e))
faulty offset losing false (Some event) (Err m) n e = inr (record { later = ap Err (same_fault m n e); up = λ y. (_, refl) })

-- a line that stands where lines do
same_first : (first line rest : List ℕ) (lines : List (List ℕ)) (more : List ℕ) → NoFeed first → NoFeed line → text_of (first ∷ lines) ++ rest ≡ line ++ 10 ∷ more → line ≡ first
same_first first line rest lines more n one here =
    (feed_once line first more (text_of lines ++ rest) one n (sym here ∙ append_assoc (first ++ feed) (text_of lines) rest ∙ feed_behind first (text_of lines ++ rest))).0

-- where records break off
record Breaks (offset opened losing : ℕ) (lines : List (List ℕ)) (rest : List ℕ) (n : ℕ) : Type 0 where
  good : List (List ℕ)
  others : List (List ℕ)
  are : lines ≡ good ++ others
  at : n ≡ offset + length (text_of good)
  found : List Recorded × ℕ
  read : records_in offset opened losing good [] ≡ Ok found
  wrong : (line behind : List ℕ) (more : List (List ℕ)) (end : List ℕ) (x : List Recorded × ℕ) → NoFeed line → text_of others ++ rest ≡ line ++ 10 ∷ behind → records_in offset opened losing (good ++ line ∷ more) end ≡ Ok x → ⊥

breaks_here : (offset opened losing : ℕ) (lines : List (List ℕ)) (rest : List ℕ) (n : ℕ) → n ≡ offset
    → ((line behind : List ℕ) (more : List (List ℕ)) (end : List ℕ) (x : List Recorded × ℕ) → NoFeed line → text_of lines ++ rest ≡ line ++ 10 ∷ behind → records_in offset opened losing (line ∷ more) end ≡ Ok x → ⊥) → Breaks offset opened losing lines rest n
breaks_here offset opened losing lines rest n e wrong = record { good = []; others = lines; are = refl; at = e ∙ (omega arith); found = ([], losing); read = refl; wrong = wrong }

breaks : (offset opened losing : ℕ) (lines : List (List ℕ)) (rest : List ℕ) (n : ℕ) → AllByRecursion NoFeed lines → NoFeed rest → records_in offset opened losing lines rest ≡ Err n → Breaks offset opened losing lines rest n
breaks offset opened losing [] [] n each last e = absurd (not_ok n _ (sym e))
breaks offset opened losing [] (byte ∷ bytes) n each last e =
    breaks_here offset opened losing [] (byte ∷ bytes) n (sym (same_fault offset n e)) (λ line behind more end x one here read. no_feed_in line behind (subst NoFeed here last))
breaks offset opened losing (first ∷ lines) rest n each last e =
    let next = records_in (offset + (length first + 1)) (opened_behind (is_lose first) (is_open first) opened) (losing_behind (is_lose first) losing) in
    ⊎_elim
    (λ (bad : IsBadRecord offset (is_lose first) (event_of opened first) n).
    breaks_here offset opened losing (first ∷ lines) rest n bad.0 (λ line behind more end x one here read.
    let same = same_first first line rest lines behind each.0 one here in
    let first_read : record_before offset losing (is_lose first) (event_of opened first) (next more end) ≡ Ok x = ap (λ l. records_in offset opened losing (l ∷ more) end) (sym same) ∙ read in
    not_ok offset x (ap (λ (o : Option Event). record_before offset losing false o (next more end)) (sym bad.2) ∙ ap (λ (b : Bool). record_before offset losing b (event_of opened first) (next more end)) (sym bad.1) ∙ first_read)))
    (λ (s : Stays offset losing (is_lose first) (event_of opened first) (next lines rest) n).
    let more = breaks (offset + (length first + 1)) (opened_behind (is_lose first) (is_open first) opened) (losing_behind (is_lose first) losing) lines rest n each.1 last s.later in
    let u = s.up more.found in
    record {
      good = first ∷ more.good;
      others = more.others;
      are = ap (λ (ls : List (List ℕ)). first ∷ ls) more.are;
      at = more.at ∙ (let k : length ((first ++ feed) ++ text_of more.good) ≡ length (first ++ feed) + length (text_of more.good) = length-append (first ++ feed) (text_of more.good) in let l : length (first ++ feed) ≡ length first + 1 = length-append first feed in omega arith);
      found = u.0;
      read = ap (record_before offset losing (is_lose first) (event_of opened first)) more.read ∙ u.1;
      wrong = λ line behind rows end x one here read. let d = down offset losing (is_lose first) (event_of opened first) (next (more.good ++ line ∷ rows) end) x read in more.wrong line behind rows end d.0 one here d.1;
    })
    (faulty offset losing (is_lose first) (event_of opened first) (next lines rest) n e)

all_left : (a b : List (List ℕ)) → AllByRecursion NoFeed (a ++ b) → AllByRecursion NoFeed a
all_left [] b all = tt
all_left (line ∷ a) b all = (all.0, all_left a b all.1)

no_some : (k : ℕ) → ◌≡◌ {A = Option ℕ} None (Some k) → ⊥
no_some k e = cc

-- the first line
keyed : (key : Option ℕ) (records : Records) (t : Traced) → with_key key records ≡ Ok t → ((k : ℕ) × (key ≡ Some k)) × ((x : List Recorded × ℕ) × (records ≡ Ok x))
keyed None records t e = absurd (not_ok 0 t e)
keyed (Some k) (Err n) t e = absurd (not_ok n t e)
keyed (Some k) (Ok x) t e = ((k, refl), (x, refl))

no_key : (key : Option ℕ) (records : Records) (n : ℕ) → with_key key records ≡ Err n → ((n ≡ 0) × (key ≡ None)) ⊎ (((k : ℕ) × (key ≡ Some k)) × (records ≡ Err n))
no_key None records n e = inl (sym (same_fault 0 n e), refl)
no_key (Some k) (Ok x) n e = absurd (not_ok n _ (sym e))
no_key (Some k) (Err m) n e = inr ((k, refl), ap Err (same_fault m n e))

some_name : List ℕ
some_name = codes "monocle-trace 1 0000000000000000"

some_trace : (t : Traced) × (trace_of (some_name ++ feed) ≡ Ok t)
unfolding some_name key_of byte_of digit_of
some_trace = (record { key = 0; events = []; losing = 0 }, refl)

-- the lines of a text that goes on with a line
begun : (lines : List (List ℕ)) (line more : List ℕ) (t : Traced) → AllByRecursion NoFeed lines → NoFeed line → trace_of (text_of lines ++ (line ++ 10 ∷ more)) ≡ Ok t → traced_in (lines ++ line ∷ (lines_of more).ended) (lines_of more).rest ≡ Ok t
begun lines line more t each one e =
    let l : lines_of (text_of lines ++ (line ++ 10 ∷ more)) ≡ record { ended = lines ++ line ∷ (lines_of more).ended; rest = (lines_of more).rest } =
    many_lines lines (line ++ 10 ∷ more) each ∙ ap (λ (ls : Lines). record { ended = lines ++ ls.ended; rest = ls.rest }) (one_line line more one) in
    ap (λ (ls : Lines). traced_in ls.ended ls.rest) (sym l) ∙ e

-- the name is bad
bad_name : (text : List ℕ) (n : ℕ) → n ≡ 0 → ((line behind : List ℕ) (k : ℕ) → NoFeed line → text ≡ line ++ 10 ∷ behind → key_of line ≡ Some k → ⊥) → IsFirstBadLine IsTrace text n
bad_name text n e wrong =
    bad_next IsTrace text [] text (some_name ++ feed) n refl (ap (λ k. k + length text) e ∙ (omega arith)) tt some_trace
    (λ line rest more one here trace.
    let k = (keyed (key_of line) _ trace.0 (begun [] line more trace.0 tt one trace.1)).0 in
    wrong line rest k.0 one here k.1)

from_lines : (text : List ℕ) (ended : List (List ℕ)) (rest : List ℕ) (n : ℕ) → Split text (record { ended = ended; rest = rest }) → traced_in ended rest ≡ Err n → IsFirstBadLine IsTrace text n
from_lines text [] rest n s e = bad_name text n (sym (same_fault 0 n e)) (λ line behind k one here key. no_feed_in line behind (subst NoFeed (sym s.is ∙ here) s.last))
from_lines text (first ∷ lines) rest n s e = ⊎_elim
    (λ (none : (n ≡ 0) × (key_of first ≡ None)). bad_name text n none.0 (λ line behind k one here key.
    let same = same_first first line rest lines behind s.each.0 one (sym s.is ∙ here) in
    no_some k (sym none.1 ∙ ap key_of (sym same) ∙ key)))
    (λ (p : ((k : ℕ) × (key_of first ≡ Some k)) × (records_in (length first + 1) 0 0 lines rest ≡ Err n)).
    let b = breaks (length first + 1) 0 0 lines rest n s.each.1 s.last p.1 in
    let front = first ∷ b.good in
    let back = text_of b.others ++ rest in
    let is : text ≡ text_of front ++ back =
    s.is ∙ ap (λ (ls : List (List ℕ)). text_of (first ∷ ls) ++ rest) b.are ∙ ap (λ t. t ++ rest) (text_join front b.others) ∙ append_assoc (text_of front) (text_of b.others) rest in
    let each : AllByRecursion NoFeed front = (s.each.0, all_left b.good b.others (subst (AllByRecursion NoFeed) b.are s.each.1)) in
    let at : n + length back ≡ length text =
    let whole : length text ≡ length (text_of front) + length back = ap length is ∙ length-append (text_of front) back in
    let k : length ((first ++ feed) ++ text_of b.good) ≡ length (first ++ feed) + length (text_of b.good) = length-append (first ++ feed) (text_of b.good) in
    let l : length (first ++ feed) ≡ length first + 1 = length-append first feed in
    let m : n ≡ (length first + 1) + length (text_of b.good) = b.at in
    omega arith in
    let alone : lines_of (text_of front ++ []) ≡ record { ended = front ++ []; rest = [] } = many_lines front [] each in
    let read : traced_in (front ++ []) [] ≡ Ok (record { key = p.0.0; events = b.found.0; losing = b.found.1 }) =
    ap (λ (ls : List (List ℕ)). traced_in ls []) (append-nil front) ∙ ap (λ (o : Option ℕ). with_key o (records_in (length first + 1) 0 0 b.good [])) p.0.1 ∙ ap (with_key (Some p.0.0)) b.read in
    bad_next IsTrace text (text_of front) back [] n is at (whole_lines front) (record { key = p.0.0; events = b.found.0; losing = b.found.1 }, ap (λ (ls : Lines). traced_in ls.ended ls.rest) alone ∙ read)
    (λ line behind more one here trace.
    let r = (keyed (key_of first) _ trace.0 (begun front line more trace.0 each one trace.1)).1 in
    b.wrong line behind (lines_of more).ended (lines_of more).rest r.0 one here r.1))
    (no_key (key_of first) (records_in (length first + 1) 0 0 lines rest) n e)

pub first_bad : (text : List ℕ) (n : ℕ) → trace_of text ≡ Err n → IsFirstBadLine IsTrace text n
first_bad text n e = from_lines text (lines_of text).ended (lines_of text).rest n (split text) e
