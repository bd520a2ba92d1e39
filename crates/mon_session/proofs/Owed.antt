-- What returns, answers and ticks make due is what the history says.
use Rattle.std.specs.Prelude.{◌≡◌, ℕ, Bool, true, false, not, ◌==◌, ◌&&◌, ◌||◌, if◌then◌else◌, List, [], ◌∷◌, ◌++◌, map, filter, find, Option, Some, None, option_map, refl}
use Rattle.std.specs.List.{AllByRecursion, list_any}
use Rattle.std.proofs.Common.{arith, ap, sym, ◌∙◌, cond, subst}
use Rattle.std.proofs.lemmas.Bool.{false≢true}
use Rattle.std.proofs.lemmas.Bool.Decides.{eqb_tells}
use Rattle.std.proofs.lemmas.List.{append_assoc, append-nil}
use Rattle.mon_table.specs.declared.rule.Rule.{Rule}
use Rattle.mon_shows.specs.declared.seen.Seen.{Seen}
use Rattle.mon_report.specs.declared.line.Line.TheVariants as line
use Rattle.mon_report.specs.declared.line.WatchWhat.TheVariants as watch_what
use Rattle.mon_world.specs.declared.event.Kind.TheVariants as kind
use Rattle.mon_legal.specs.Runs.{Run}
use Rattle.mon_legal.specs.Owns.{Own}
use Rattle.mon_legal.specs.Barriers.{is_armed}
use Rattle.mon_legal.specs.Edits.{Passed, passed, unsettled, is_number}
use Rattle.mon_legal.specs.Probes.{Live, live, with_job, fits, confirmed_by, is_open, is_due, again_for, wants, or_own, oldest_of}
use Rattle.mon_legal.specs.Watching.{watch, seen_by, watch_again}
use Rattle.mon_legal.specs.Directly.{Due, told, on_return, is_over, confirmed_with}
use Rattle.mon_legal.specs.Directly.Due.{Tells, Going}
use Rattle.mon_session.specs.Now.{now_of, edit_numbered}
use Rattle.mon_session.specs.Tracks.{Track, confirmed_in, again_in, again_of, is_again, is_live, wants_job, wanting_in, track_of, tracks_of, oldest_first}
use Rattle.mon_session.specs.Tracks as tracks
use Rattle.mon_session.specs.Probing.{confirms, serial_of, told_at_tick}
use Rattle.mon_session.specs.Standing.{AllPassedWell, is_vanishing, Standing, ReturnsOwe, AnswersOwe, TicksOwe, WantsStand}
use Rattle.mon_session.proofs.Tracking.{unsettled-differ, IsOpenAs, all-open, due-same}

or-none : (x : Option ℕ) → or_own x None ≡ x
or-none None = refl
or-none (Some k) = refl

or-all : (x y z : Option ℕ) → or_own (or_own x y) z ≡ or_own x (or_own y z)
or-all None y z = refl
or-all (Some k) y z = refl

-- the edit that a return confirms -------------------------------------------------

confirmed-last : (serial : ℕ) (seen : Seen) (ts : List Track) (t : Track)
    → confirmed_in serial seen (ts ++ t ∷ []) ≡ or_own (if tracks.fits serial seen t then Some t.number else None) (confirmed_in serial seen ts)
confirmed-last serial seen [] t = sym (or-none (if tracks.fits serial seen t then Some t.number else None))
confirmed-last serial seen (u ∷ ts) t =
    ap (λ (o : Option ℕ). or_own o (if tracks.fits serial seen u then Some u.number else None)) (confirmed-last serial seen ts t)
    ∙ or-all (if tracks.fits serial seen t then Some t.number else None) (confirmed_in serial seen ts) (if tracks.fits serial seen u then Some u.number else None)

first-found : (b : Bool) (p : Passed) (o : Option Passed) → option_map (λ q. q.number) (if b then Some p else o) ≡ or_own (if b then Some p.number else None) (option_map (λ q. q.number) o)
first-found true p o = refl
first-found false p o = refl

confirmed-among : (run : Run) (own : List Own) (serial : ℕ) (seen : Seen) (us : List Passed)
    → option_map (λ p. p.number) (find (λ p. fits serial seen own p.number) us) ≡ confirmed_in serial seen (tracks_of run own us)
confirmed-among run own serial seen [] = refl
confirmed-among run own serial seen (p ∷ us) =
    first-found (fits serial seen own p.number) p (find (λ p. fits serial seen own p.number) us)
    ∙ ap (or_own (if fits serial seen own p.number then Some p.number else None)) (confirmed-among run own serial seen us)
    ∙ sym (confirmed-last serial seen (tracks_of run own us) (track_of run own p))

or-later : (a b : Bool) → b ≡ true → (a || b) ≡ true
or-later true b e = refl
or-later false b e = e

-- it is among the unsettled ones, and no settled one has its number
found-is : (test : Passed → Bool) (k : ℕ) (us : List Passed) → option_map (λ p. p.number) (find test us) ≡ Some k → list_any (is_number k) us ≡ true
found-is test k [] e = absurd (let g : None ≡ Some k = e in cc)
found-is test k (p ∷ us) e =
    elim (test p) as (λ b. option_map (λ q. q.number) (cond b (Some p) (find test us)) ≡ Some k → (is_number k p || list_any (is_number k) us) ≡ true) [
      | true ↦ λ f.
          let g : Some p.number ≡ Some k = f in
          let same : p.number ≡ k = cc in
          let own : is_number k p ≡ true = grind (arith, eqb_tells p.number k) in
          rw own refl
      | false ↦ λ f. or-later (is_number k p) (list_any (is_number k) us) (found-is test k us f)
    ] e

none-here : (k : ℕ) (test : Passed → Bool) (ps : List Passed) → AllByRecursion (λ q. (q.number == k) ≡ false) ps → list_any (is_number k) (filter test ps) ≡ false
none-here k test [] a = refl
none-here k test (p ∷ ps) a =
    elim (test p) as (λ b. list_any (is_number k) (cond b (p ∷ filter test ps) (filter test ps)) ≡ false) [
      | true ↦ rw a.0 (none-here k test ps a.1)
      | false ↦ none-here k test ps a.1
    ]

-- a number of an unsettled edit is not that of an entry that vanished
not-vanished : (start : List Rule) (k : ℕ) (ps : List Passed) → AllPassedWell start ps → list_any (is_number k) (filter (λ p. not p.settled) ps) ≡ true → (k == 0) ≡ false
not-vanished start k [] a h = absurd (false≢true h)
not-vanished start k (p ∷ ps) a h =
    elim (p.settled) as (λ b. p.settled ≡ b → list_any (is_number k) (cond (not b) (p ∷ filter (λ p. not p.settled) ps) (filter (λ p. not p.settled) ps)) ≡ true → (k == 0) ≡ false) [
      | true ↦ λ y g. not-vanished start k ps a.1 g
      | false ↦ λ y g.
          elim (is_number k p) as (λ b. is_number k p ≡ b → (b || list_any (is_number k) (filter (λ p. not p.settled) ps)) ≡ true → (k == 0) ≡ false) [
            | true ↦ λ z f.
                let same : p.number ≡ k = grind (arith, eqb_tells p.number k, z) in
                subst (λ (j : ℕ). (j == 0) ≡ false) same (a.0.counted y)
            | false ↦ λ z f. not-vanished start k ps a.1 f
          ] refl g
    ] refl h

found-open : (start : List Rule) (k : ℕ) (ps : List Passed) → AllPassedWell start ps → list_any (is_number k) (filter (λ p. not p.settled) ps) ≡ true
    → find (is_number k) ps ≡ edit_numbered k (filter (λ p. not p.settled) ps)
found-open start k [] a h = absurd (false≢true h)
found-open start k (p ∷ ps) a h =
    let counts : (k == 0) ≡ false = not-vanished start k (p ∷ ps) a h in
    elim (p.settled) as (λ b. p.settled ≡ b → list_any (is_number k) (cond (not b) (p ∷ filter (λ p. not p.settled) ps) (filter (λ p. not p.settled) ps)) ≡ true
    → (if is_number k p then Some p else find (is_number k) ps) ≡ edit_numbered k (cond (not b) (p ∷ filter (λ p. not p.settled) ps) (filter (λ p. not p.settled) ps))) [
      | true ↦ λ y g.
          elim (is_number k p) as (λ b. is_number k p ≡ b → cond b (Some p) (find (is_number k) ps) ≡ edit_numbered k (filter (λ p. not p.settled) ps)) [
            | true ↦ λ z.
                let same : p.number ≡ k = grind (arith, eqb_tells p.number k, z) in
                let real : is_vanishing p ≡ false = subst (λ (j : ℕ). (j == 0) ≡ false) (sym same) counts in
                let gone = none-here k (λ q. not q.settled) ps (subst (λ (j : ℕ). AllByRecursion (λ q. (q.number == j) ≡ false) ps) same (a.0.numbered real)) in
                absurd (false≢true (sym gone ∙ g))
            | false ↦ λ z. found-open start k ps a.1 g
          ] refl
      | false ↦ λ y g.
          elim (is_number k p) as (λ b. is_number k p ≡ b → (b || list_any (is_number k) (filter (λ p. not p.settled) ps)) ≡ true
          → cond b (Some p) (find (is_number k) ps) ≡ cond b (Some p) (edit_numbered k (filter (λ p. not p.settled) ps))) [
            | true ↦ λ z f. refl
            | false ↦ λ z f. found-open start k ps a.1 f
          ] refl g
    ] refl h

on-confirmed : (run : Run) (s earlier : ℕ) (own : List Own) (serial : ℕ) (found : Option ℕ) → Standing own
    → ((k : ℕ) → found ≡ Some k → list_any (is_number k) (unsettled own) ≡ true)
    → on_return s own serial found ≡ confirms s (now_of run earlier own) serial found
on-confirmed run s earlier own serial None good f = refl
on-confirmed run s earlier own serial (Some k) good f =
    ap (λ (o : Option Passed). Tells (line.Confirmed s k serial) ∷ confirmed_with (is_over o)) (found-open [] k (passed own) good.0 (f k refl))

pub returns-owe : ReturnsOwe
returns-owe run s earlier dues own serial seen good =
    ap (λ (ds : List Due). ds ++ told s (Some serial) watch_what.Seen (seen_by serial seen (watch run own)))
    (on-confirmed run s earlier own serial (confirmed_by serial seen own) good (λ k e. found-is (λ p. fits serial seen own p.number) k (unsettled own) e)
    ∙ ap (λ (o : Option ℕ). confirms s (now_of run earlier own) serial o) (confirmed-among run own serial seen (unsettled own)))

pub answers-owe : AnswersOwe
answers-owe run s earlier dues own job k kind.Probe fresh = refl
answers-owe run s earlier dues own job k kind.Indistinguishable fresh = refl
answers-owe run s earlier dues own job k kind.Skipped fresh = refl

-- what goes out again at a tick -----------------------------------------------------

again-last : (retry version : ℕ) (ts : List Track) (t : Track) → again_in retry version (ts ++ t ∷ []) ≡ again_in retry version ts ++ again_of retry version t
again-last retry version [] t = append-nil (again_of retry version t)
again-last retry version (u ∷ ts) t =
    ap (λ (ls : List Live). again_of retry version u ++ ls) (again-last retry version ts t)
    ∙ sym (append_assoc (again_of retry version u) (again_in retry version ts) (again_of retry version t))

serials-on : (xs ys : List Live) → map serial_of (xs ++ ys) ≡ map serial_of xs ++ map serial_of ys
serials-on [] ys = refl
serials-on (x ∷ xs) ys = ap (λ (ks : List ℕ). serial_of x ∷ ks) (serials-on xs ys)

again-one : (run : Run) (version : ℕ) (edits : List Passed) (k : ℕ) (r : Bool) (ls : List Live) → is_open edits k ≡ not r
    → filter (λ l. (l.probe.edit == k) && (is_due run edits l && (l.probe.version == version))) ls
    ≡ filter (is_again run.retry_ticks version r) (filter (λ l. l.probe.edit == k) ls)
again-one run version edits k r [] o = refl
again-one run version edits k r (l ∷ ls) o =
    elim (l.probe.edit == k) as (λ b. (l.probe.edit == k) ≡ b
    → cond (b && (is_due run edits l && (l.probe.version == version))) (l ∷ filter (λ l. (l.probe.edit == k) && (is_due run edits l && (l.probe.version == version))) ls) (filter (λ l. (l.probe.edit == k) && (is_due run edits l && (l.probe.version == version))) ls)
    ≡ filter (is_again run.retry_ticks version r) (cond b (l ∷ filter (λ l. l.probe.edit == k) ls) (filter (λ l. l.probe.edit == k) ls))) [
      | true ↦ λ y.
          let same : l.probe.edit ≡ k = grind (arith, eqb_tells l.probe.edit k, y) in
          rw (due-same run edits k r l o same)
          (elim (is_again run.retry_ticks version r l) as (λ b.
          cond b (l ∷ filter (λ l. (l.probe.edit == k) && (is_due run edits l && (l.probe.version == version))) ls) (filter (λ l. (l.probe.edit == k) && (is_due run edits l && (l.probe.version == version))) ls)
          ≡ cond b (l ∷ filter (is_again run.retry_ticks version r) (filter (λ l. l.probe.edit == k) ls)) (filter (is_again run.retry_ticks version r) (filter (λ l. l.probe.edit == k) ls))) [
            | true ↦ ap (λ (xs : List Live). l ∷ xs) (again-one run version edits k r ls o)
            | false ↦ again-one run version edits k r ls o
          ])
      | false ↦ λ y. again-one run version edits k r ls o
    ] refl

again-among : (run : Run) (own : List Own) (version : ℕ) (us : List Passed) → AllByRecursion (IsOpenAs (unsettled own)) us
    → again_for run version (unsettled own) (live run own) us ≡ map serial_of (again_in run.retry_ticks version (tracks_of run own us))
again-among run own version [] a = refl
again-among run own version (p ∷ us) a =
    ap (λ (ks : List ℕ). ks ++ map serial_of (filter (λ l. (l.probe.edit == p.number) && (is_due run (unsettled own) l && (l.probe.version == version))) (live run own)))
    (again-among run own version us a.1)
    ∙ ap (λ (ls : List Live). map serial_of (again_in run.retry_ticks version (tracks_of run own us)) ++ map serial_of ls)
    (again-one run version (unsettled own) p.number p.reported (live run own) a.0)
    ∙ sym (serials-on (again_in run.retry_ticks version (tracks_of run own us)) (again_of run.retry_ticks version (track_of run own p)))
    ∙ ap (map serial_of) (sym (again-last run.retry_ticks version (tracks_of run own us) (track_of run own p)))

pub ticks-owe : TicksOwe
ticks-owe run s earlier dues own version good =
    ap (λ (ks : List ℕ). map Going (ks ++ watch_again run version (watch run own)) ++ told_at_tick run s version (now_of run earlier own))
    (again-among run own version (unsettled own) (all-open (unsettled own) (unsettled-differ [] (passed own) good.0)))

-- the edit that wants a job -----------------------------------------------------------

find-last : (ts : List Track) (t : Track)
    → option_map (λ t. t.number) (find wants_job (ts ++ t ∷ [])) ≡ or_own (option_map (λ t. t.number) (find wants_job ts)) (if wants_job t then Some t.number else None)
find-last [] t = elim (wants_job t) as (λ b. option_map (λ t. t.number) (cond b (Some t) None) ≡ cond b (Some t.number) None) [ true ↦ refl | false ↦ refl ]
find-last (u ∷ ts) t =
    elim (wants_job u) as (λ b. option_map (λ t. t.number) (cond b (Some u) (find wants_job (ts ++ t ∷ [])))
    ≡ or_own (option_map (λ t. t.number) (cond b (Some u) (find wants_job ts))) (if wants_job t then Some t.number else None)) [
      | true ↦ refl
      | false ↦ find-last ts t
    ]

live-left : (k : ℕ) (ls : List Live) → list_any (λ l. l.probe.edit == k) ls ≡ is_live (filter (λ l. l.probe.edit == k) ls)
live-left k [] = refl
live-left k (l ∷ ls) =
    elim (l.probe.edit == k) as (λ b. (b || list_any (λ l. l.probe.edit == k) ls) ≡ is_live (cond b (l ∷ filter (λ l. l.probe.edit == k) ls) (filter (λ l. l.probe.edit == k) ls))) [
      | true ↦ refl
      | false ↦ live-left k ls
    ]

wants-same : (run : Run) (own : List Own) (p : Passed) → wants (with_job own) (live run own) p ≡ wants_job (track_of run own p)
wants-same run own p = ap (λ (b : Bool). not p.reported && not (list_any (λ k. k == p.number) (with_job own) || b)) (live-left p.number (live run own))

wanting-among : (run : Run) (own : List Own) (us : List Passed) → oldest_of (wants (with_job own) (live run own)) us ≡ wanting_in (tracks_of run own us)
wanting-among run own [] = refl
wanting-among run own (p ∷ us) =
    ap (λ (o : Option ℕ). or_own o (if wants (with_job own) (live run own) p then Some p.number else None)) (wanting-among run own us)
    ∙ ap (λ (b : Bool). or_own (wanting_in (tracks_of run own us)) (if b then Some p.number else None)) (wants-same run own p)
    ∙ sym (find-last (tracks_of run own us) (track_of run own p))

pub wants-stand : WantsStand
wants-stand run earlier own = ap (λ (o : Option ℕ). if is_armed own then o else None) (wanting-among run own (unsettled own))
