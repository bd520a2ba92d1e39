-- What a session keeps of each unsettled edit's jobs and probes stands for its history.
use Rattle.std.specs.Prelude.{◌≡◌, ℕ, zero, suc, ◌+◌, ◌<◌, ◌≤◌, Bool, true, false, not, ◌==◌, ◌&&◌, ◌||◌, if◌then◌else◌, List, [], ◌∷◌, ◌++◌, take, map, filter, Option, Some, None, refl}
use Rattle.std.specs.List.{AllByRecursion, list_any}
use Rattle.std.proofs.Common.{arith, ap, sym, ◌∙◌, cond}
use Rattle.std.proofs.lemmas.Bool.Decides.{eqb_tells}
use Rattle.mon_table.specs.declared.rule.Rule.{Rule}
use Rattle.mon_table.specs.declared.edit.Edit.{Edit}
use Rattle.mon_report.specs.declared.line.Line.{Line}
use Rattle.mon_report.specs.declared.line.Line.TheVariants.{Armed, Closed, Confirmed, Fact, Watch}
use Rattle.mon_report.specs.declared.line.What.{What}
use Rattle.mon_world.specs.declared.event.Side.TheVariants.{Controller, Switch}
use Rattle.mon_legal.specs.Runs.{Run}
use Rattle.mon_legal.specs.Owns.{Own}
use Rattle.mon_legal.specs.Owns.Own.{From_switch, Ticks, Judged, Offers, Probes, Goes_out, Sends, Reports}
use Rattle.mon_legal.specs.Barriers.{count, edit_out, answered_by, own_edit}
use Rattle.mon_legal.specs.Edits.{Passed, passed, unsettled, entries, is_number, changes_nothing, tells_of_vanishing, mark_reported, older, rejected_by}
use Rattle.mon_table.specs.Rules.{identity_of}
use Rattle.mon_table.specs.Tables.{rule_of}
use Rattle.mon_table.specs.Edits.{edited}
use Rattle.mon_outcome.specs.declared.emission.Emission.{Emission}
use Rattle.mon_shows.specs.declared.seen.Seen.{Seen}
use Rattle.mon_world.specs.declared.event.Kind.{Kind}
use Rattle.mon_legal.specs.Watching.{watching}
use Rattle.mon_legal.specs.Probes.{Probe, Live, just_live, with_live, sent_out, probes, kept_of, live, with_job, is_open, is_due, is_over, ticked, after_tick}
use Rattle.mon_session.specs.Now.{Now, now_of, tells, answered, tracks_after, watching_after, probe_of, unsettled_at, unsettled_by, unsettled_after, with_unsettled, without}
use Rattle.mon_session.specs.Tracks.{Track, new_track, is_track, with_track, without_track, tracks_at, mark_track, tracks_by, offered, answered_for, kept_with, probed, gone_out, a_tick_later, track_of, oldest_first, tracks_of}
use Rattle.mon_session.specs.Tracks as tracks
use Rattle.mon_session.specs.Standing.{AllPassedWell, AsksPassed, Standing}
use Rattle.mon_session.proofs.GoesOn.{all-kept}
use Rattle.mon_session.proofs.Tables.{unsettled_stands}

-- the newest first ---------------------------------------------------------------

abbrev with_newest : Option Edit → ℕ → List Track → List Track
with_newest None count ts = ts
with_newest (Some x) count ts = if changes_nothing x then ts else new_track (count + 1) ∷ ts

abbrev newest_after : Run → Now → Own → List Track → List Track
newest_after run n (Offers job edit) ts = map (offered edit) ts
newest_after run n (Judged job edit kind fresh) ts = map (answered_for edit) ts
newest_after run n (Probes serial edit version emission shows) ts = map (probed (probe_of serial edit version emission shows)) ts
newest_after run n (Goes_out serial near frame) ts = map (gone_out serial near frame) ts
newest_after run n (Sends Switch frame lost) ts = with_newest n.out n.count ts
newest_after run n (From_switch frame others) ts = tracks_at (tells n frame) (own_edit (answered n frame)) frame n.unsettled ts
newest_after run n (Reports line) ts = tracks_by line ts
newest_after run n (Ticks version) ts = map (tracks.ticked run.retry_ticks version) ts
newest_after run n o ts = ts

-- lists ------------------------------------------------------------------------

maps-same : (f : Passed → Track) (g : Track → Track) (h : Passed → Track) → ((p : Passed) → f p ≡ g (h p)) → (ps : List Passed) → map f ps ≡ map g (map h ps)
maps-same f g h e [] = refl
maps-same f g h e (p ∷ ps) = rw (e p) (rw (maps-same f g h e ps) refl)

-- of an edit, the live probes that some change leaves at it
of-mapped : (k : ℕ) (f : Live → Live) → ((l : Live) → (f l).probe.edit ≡ l.probe.edit) → (ls : List Live)
    → filter (λ l. l.probe.edit == k) (map f ls) ≡ map f (filter (λ l. l.probe.edit == k) ls)
of-mapped k f same [] = refl
of-mapped k f same (l ∷ ls) =
    let e : ((f l).probe.edit == k) ≡ (l.probe.edit == k) = ap (λ (j : ℕ). j == k) (same l) in
    rw e (elim (l.probe.edit == k) as (λ b. cond b (f l ∷ filter (λ l. l.probe.edit == k) (map f ls)) (filter (λ l. l.probe.edit == k) (map f ls))
    ≡ map f (cond b (l ∷ filter (λ l. l.probe.edit == k) ls) (filter (λ l. l.probe.edit == k) ls))) [
      | true ↦ ap (λ (xs : List Live). f l ∷ xs) (of-mapped k f same ls)
      | false ↦ of-mapped k f same ls
    ])

take-again : {A : Type 0} (n m : ℕ) (xs : List A) → n ≤ m → take n (take m xs) ≡ take n xs
take-again zero m xs le = refl
take-again (suc n) zero xs le = absurd (omega (arith, le))
take-again (suc n) (suc m) [] le = refl
take-again (suc n) (suc m) (x ∷ xs) le =
    let less : n ≤ m = omega (arith, le) in
    ap (λ ys. x ∷ ys) (take-again n m xs less)

-- the number of an edit that goes out is new -------------------------------------

not-that : (n k e : ℕ) → n < k → e ≤ n → (e == k) ≡ false
not-that n k e lt le = grind (arith, eqb_tells e k)

none-probed : (n k : ℕ) (own : List Own) → n < k → AsksPassed n own → filter (λ p. p.edit == k) (probes own) ≡ []
none-probed n k [] lt a = refl
none-probed n k (Probes serial edit version emission shows ∷ own) lt a = rw (not-that n k edit lt a.0) (none-probed n k own lt a.1)
none-probed n k (Offers job edit ∷ own) lt a = none-probed n k own lt a.1
none-probed n k (o ∷ own) lt a = none-probed n k own lt a

-- a job is answered: the edit has none any more
asked-less : (j k : ℕ) (ks : List ℕ) → list_any (λ i. i == j) (filter (λ i. not (i == k)) ks) ≡ (list_any (λ i. i == j) ks && not (j == k))
asked-less j k [] = refl
asked-less j k (i ∷ ks) = grind (arith, asked-less j k ks, eqb_tells i k, eqb_tells i j, eqb_tells j k)

none-asked : (n k : ℕ) (own : List Own) → n < k → AsksPassed n own → list_any (λ j. j == k) (with_job own) ≡ false
none-asked n k [] lt a = refl
none-asked n k (Probes serial edit version emission shows ∷ own) lt a = none-asked n k own lt a.1
none-asked n k (Offers job edit ∷ own) lt a = rw (not-that n k edit lt a.0) (none-asked n k own lt a.1)
none-asked n k (Judged job edit kind fresh ∷ own) lt a = asked-less k edit (with_job own) ∙ rw (none-asked n k own lt a) refl
none-asked n k (o ∷ own) lt a = none-asked n k own lt a

live-with : (b : Bool) (k : ℕ) (p : Probe) (ls : List Live)
    → filter (λ l. l.probe.edit == k) (with_live b p ls) ≡ with_live (b && (p.edit == k)) p (filter (λ l. l.probe.edit == k) ls)
live-with false k p ls = refl
live-with true k p ls =
    elim (p.edit == k) as (λ b. cond b (just_live p ∷ filter (λ l. l.probe.edit == k) ls) (filter (λ l. l.probe.edit == k) ls) ≡ with_live b p (filter (λ l. l.probe.edit == k) ls)) [
      | true ↦ refl
      | false ↦ refl
    ]

of-filtered : (k : ℕ) (test : Live → Bool) (ls : List Live)
    → filter (λ l. l.probe.edit == k) (filter test ls) ≡ filter test (filter (λ l. l.probe.edit == k) ls)
of-filtered k test [] = refl
of-filtered k test (l ∷ ls) =
    elim (test l) as (λ b. test l ≡ b → filter (λ l. l.probe.edit == k) (cond b (l ∷ filter test ls) (filter test ls)) ≡ filter test (cond (l.probe.edit == k) (l ∷ filter (λ l. l.probe.edit == k) ls) (filter (λ l. l.probe.edit == k) ls))) [
      | true ↦ λ y.
          elim (l.probe.edit == k) as (λ b. cond b (l ∷ filter (λ l. l.probe.edit == k) (filter test ls)) (filter (λ l. l.probe.edit == k) (filter test ls))
          ≡ filter test (cond b (l ∷ filter (λ l. l.probe.edit == k) ls) (filter (λ l. l.probe.edit == k) ls))) [
            | true ↦ rw y (ap (λ (xs : List Live). l ∷ xs) (of-filtered k test ls))
            | false ↦ of-filtered k test ls
          ]
      | false ↦ λ y.
          elim (l.probe.edit == k) as (λ b. filter (λ l. l.probe.edit == k) (filter test ls)
          ≡ filter test (cond b (l ∷ filter (λ l. l.probe.edit == k) ls) (filter (λ l. l.probe.edit == k) ls))) [
            | true ↦ rw y (of-filtered k test ls)
            | false ↦ of-filtered k test ls
          ]
    ] refl

no-one : (b : Bool) (p : Probe) → with_live (b && false) p [] ≡ []
no-one true p = refl
no-one false p = refl

none-live : (run : Run) (n k : ℕ) (own : List Own) → n < k → AsksPassed n own → filter (λ l. l.probe.edit == k) (live run own) ≡ []
none-live run n k [] lt a = refl
none-live run n k (Probes serial edit version emission shows ∷ own) lt a =
    live-with (not (edit == 0)) k (probe_of serial edit version emission shows) (live run own)
    ∙ rw (not-that n k edit lt a.0) (rw (none-live run n k own lt a.1) (no-one (not (edit == 0)) (probe_of serial edit version emission shows)))
none-live run n k (Offers job edit ∷ own) lt a = none-live run n k own lt a.1
none-live run n k (Goes_out serial near frame ∷ own) lt a =
    of-mapped k (sent_out serial near frame) (λ l. refl) (live run own) ∙ ap (map (sent_out serial near frame)) (none-live run n k own lt a)
none-live run n k (Ticks version ∷ own) lt a =
    of-mapped k (ticked run (unsettled own)) (λ l. refl) (filter (λ l. not (is_over run version (unsettled own) l)) (live run own))
    ∙ ap (map (ticked run (unsettled own))) (of-filtered k (λ l. not (is_over run version (unsettled own) l)) (live run own) ∙ ap (filter (λ l. not (is_over run version (unsettled own) l))) (none-live run n k own lt a))
none-live run n k (o ∷ own) lt a = none-live run n k own lt a

-- numbers of unsettled edits differ ----------------------------------------------

abbrev pub Differ : List Passed → Type 0
Differ [] = Unit {0}
Differ (p ∷ ps) = AllByRecursion (λ q. (q.number == p.number) ≡ false) ps × Differ ps

pub unsettled-differ : (start : List Rule) (ps : List Passed) → AllPassedWell start ps → Differ (filter (λ p. not p.settled) ps)
unsettled-differ start [] a = tt
unsettled-differ start (p ∷ ps) a =
    elim (p.settled) as (λ b. p.settled ≡ b → Differ (cond (not b) (p ∷ filter (λ p. not p.settled) ps) (filter (λ p. not p.settled) ps))) [
      | true ↦ λ y. unsettled-differ start ps a.1
      | false ↦ λ y. (all-kept (λ q. (q.number == p.number) ≡ false) (λ q. not q.settled) ps (a.0.numbered (a.0.counted y)), unsettled-differ start ps a.1)
    ] refl

abbrev pub IsOpenAs : List Passed → Passed → Type 0
IsOpenAs edits p = is_open edits p.number ≡ not p.reported

none-open : (k : ℕ) (ps : List Passed) → AllByRecursion (λ q. (q.number == k) ≡ false) ps → is_open ps k ≡ false
none-open k [] a = refl
none-open k (p ∷ ps) a = rw a.0 (none-open k ps a.1)

or-false : (b : Bool) → (b || false) ≡ b
or-false true = refl
or-false false = refl

open-first : (p : Passed) (ps : List Passed) → AllByRecursion (λ q. (q.number == p.number) ≡ false) ps → IsOpenAs (p ∷ ps) p
open-first p ps a =
    let own : (p.number == p.number) ≡ true = grind (arith, eqb_tells p.number p.number) in
    rw own (rw (none-open p.number ps a) (or-false (not p.reported)))

open-later : (p : Passed) (edits ps : List Passed) → AllByRecursion (λ q. (q.number == p.number) ≡ false) ps → AllByRecursion (IsOpenAs edits) ps
    → AllByRecursion (IsOpenAs (p ∷ edits)) ps
open-later p edits [] a b = tt
open-later p edits (q ∷ ps) a b =
    let other : (p.number == q.number) ≡ false = grind (arith, eqb_tells p.number q.number, eqb_tells q.number p.number, a.0) in
    (rw other b.0, open-later p edits ps a.1 b.1)

pub all-open : (ps : List Passed) → Differ ps → AllByRecursion (IsOpenAs ps) ps
all-open [] d = tt
all-open (p ∷ ps) d = (open-first p ps d.0, open-later p ps ps d.0 (all-open ps d.1))

-- a tick: whether an edit is open is what its own report says
pub due-same : (run : Run) (edits : List Passed) (k : ℕ) (r : Bool) (l : Live) → is_open edits k ≡ not r → l.probe.edit ≡ k
    → is_due run edits l ≡ tracks.is_due run.retry_ticks r l
due-same run edits k r l o e = ap (λ (j : ℕ). (l.ticks + 1 == run.retry_ticks) && is_open edits j) e ∙ ap (λ (b : Bool). (l.ticks + 1 == run.retry_ticks) && b) o

over-same : (run : Run) (version : ℕ) (edits : List Passed) (k : ℕ) (r : Bool) (l : Live) → is_open edits k ≡ not r → l.probe.edit ≡ k
    → is_over run version edits l ≡ tracks.is_over run.retry_ticks version r l
over-same run version edits k r l o e = ap (λ (b : Bool). b && not (l.probe.version == version)) (due-same run edits k r l o e)

later-same : (run : Run) (edits : List Passed) (k : ℕ) (r : Bool) (l : Live) → is_open edits k ≡ not r → l.probe.edit ≡ k
    → ticked run edits l ≡ a_tick_later run.retry_ticks r l
later-same run edits k r l o e = ap (λ (b : Bool). record l { ticks = if b then 0 else l.ticks + 1 }) (due-same run edits k r l o e)

tick-one : (run : Run) (version : ℕ) (edits : List Passed) (k : ℕ) (r : Bool) (ls : List Live) → is_open edits k ≡ not r
    → map (ticked run edits) (filter (λ l. not (is_over run version edits l)) (filter (λ l. l.probe.edit == k) ls))
    ≡ map (a_tick_later run.retry_ticks r) (filter (λ l. not (tracks.is_over run.retry_ticks version r l)) (filter (λ l. l.probe.edit == k) ls))
tick-one run version edits k r [] o = refl
tick-one run version edits k r (l ∷ ls) o =
    elim (l.probe.edit == k) as (λ b. (l.probe.edit == k) ≡ b
    → map (ticked run edits) (filter (λ l. not (is_over run version edits l)) (cond b (l ∷ filter (λ l. l.probe.edit == k) ls) (filter (λ l. l.probe.edit == k) ls)))
    ≡ map (a_tick_later run.retry_ticks r) (filter (λ l. not (tracks.is_over run.retry_ticks version r l)) (cond b (l ∷ filter (λ l. l.probe.edit == k) ls) (filter (λ l. l.probe.edit == k) ls)))) [
      | true ↦ λ y.
          let same : l.probe.edit ≡ k = grind (arith, eqb_tells l.probe.edit k, y) in
          rw (over-same run version edits k r l o same)
          (elim (tracks.is_over run.retry_ticks version r l) as (λ b.
          map (ticked run edits) (cond (not b) (l ∷ filter (λ l. not (is_over run version edits l)) (filter (λ l. l.probe.edit == k) ls)) (filter (λ l. not (is_over run version edits l)) (filter (λ l. l.probe.edit == k) ls)))
          ≡ map (a_tick_later run.retry_ticks r) (cond (not b) (l ∷ filter (λ l. not (tracks.is_over run.retry_ticks version r l)) (filter (λ l. l.probe.edit == k) ls)) (filter (λ l. not (tracks.is_over run.retry_ticks version r l)) (filter (λ l. l.probe.edit == k) ls)))) [
            | true ↦ tick-one run version edits k r ls o
            | false ↦ rw (later-same run edits k r l o same) (ap (λ (xs : List Live). a_tick_later run.retry_ticks r l ∷ xs) (tick-one run version edits k r ls o))
          ])
      | false ↦ λ y. tick-one run version edits k r ls o
    ] refl

tick-track : (run : Run) (version : ℕ) (own : List Own) (p : Passed) → IsOpenAs (unsettled own) p
    → track_of run (Ticks version ∷ own) (older p) ≡ tracks.ticked run.retry_ticks version (track_of run own p)
tick-track run version own p o =
    let e : filter (λ l. l.probe.edit == p.number) (after_tick run version (unsettled own) (live run own))
    ≡ map (a_tick_later run.retry_ticks p.reported) (filter (λ l. not (tracks.is_over run.retry_ticks version p.reported l)) (filter (λ l. l.probe.edit == p.number) (live run own))) =
    of-mapped p.number (ticked run (unsettled own)) (λ l. refl) (filter (λ l. not (is_over run version (unsettled own) l)) (live run own))
    ∙ ap (map (ticked run (unsettled own))) (of-filtered p.number (λ l. not (is_over run version (unsettled own) l)) (live run own))
    ∙ tick-one run version (unsettled own) p.number p.reported (live run own) o in
    ap (λ (ls : List Live). record (track_of run own p) { live = ls }) e

tick-all : (run : Run) (version : ℕ) (own : List Own) (ps : List Passed) → AllByRecursion (IsOpenAs (unsettled own)) ps
    → map (track_of run (Ticks version ∷ own)) (map older ps) ≡ map (tracks.ticked run.retry_ticks version) (map (track_of run own) ps)
tick-all run version own [] a = refl
tick-all run version own (p ∷ ps) a = rw (tick-track run version own p a.0) (rw (tick-all run version own ps a.1) refl)

-- one edit by entry ----------------------------------------------------------------

offer-track : (run : Run) (own : List Own) (job k : ℕ) (p : Passed) → track_of run (Offers job k ∷ own) p ≡ offered k (track_of run own p)
offer-track run own job k p =
    let e : ((k == p.number) || list_any (λ j. j == p.number) (with_job own)) ≡ (list_any (λ j. j == p.number) (with_job own) || (p.number == k)) =
    grind (arith, eqb_tells k p.number, eqb_tells p.number k) in
    ap (λ (b : Bool). record (track_of run own p) { asked = b }) e

answer-track : (run : Run) (own : List Own) (job k : ℕ) (kind : Kind) (fresh : Bool) (p : Passed)
    → track_of run (Judged job k kind fresh ∷ own) p ≡ answered_for k (track_of run own p)
answer-track run own job k kind fresh p = ap (λ (b : Bool). record (track_of run own p) { asked = b }) (asked-less p.number k (with_job own))

kept-more : (q : Probe) (j : ℕ) (qs : List Probe) → take 16 (filter (λ r. r.edit == j) (q ∷ qs)) ≡ kept_with (j == q.edit) q (take 16 (filter (λ r. r.edit == j) qs))
kept-more q j qs =
    let turned : (j == q.edit) ≡ (q.edit == j) = grind (arith, eqb_tells j q.edit, eqb_tells q.edit j) in
    let le : 15 ≤ 16 = omega arith in
    rw turned (elim (q.edit == j) as (λ b. take 16 (cond b (q ∷ filter (λ r. r.edit == j) qs) (filter (λ r. r.edit == j) qs)) ≡ kept_with b q (take 16 (filter (λ r. r.edit == j) qs))) [
      | true ↦ ap (λ (rs : List Probe). q ∷ rs) (sym (take-again 15 16 (filter (λ r. r.edit == j) qs) le))
      | false ↦ refl
    ])

live-more : (q : Probe) (j : ℕ) (ls : List Live)
    → filter (λ l. l.probe.edit == j) (with_live (not (q.edit == 0)) q ls) ≡ with_live (not (q.edit == 0) && (j == q.edit)) q (filter (λ l. l.probe.edit == j) ls)
live-more q j ls =
    let turned : (j == q.edit) ≡ (q.edit == j) = grind (arith, eqb_tells j q.edit, eqb_tells q.edit j) in
    rw turned (live-with (not (q.edit == 0)) j q ls)

probe-track : (run : Run) (own : List Own) (serial k version : ℕ) (e : Emission) (shows : Option Seen) (p : Passed)
    → track_of run (Probes serial k version e shows ∷ own) p ≡ probed (probe_of serial k version e shows) (track_of run own p)
probe-track run own serial k version e shows p =
    ap (λ (qs : List Probe). record (track_of run own p) { kept = qs; live = filter (λ l. l.probe.edit == p.number) (live run (Probes serial k version e shows ∷ own)) })
    (kept-more (probe_of serial k version e shows) p.number (probes own))
    ∙ ap (λ (ls : List Live). record (track_of run own p) { kept = kept_with (p.number == k) (probe_of serial k version e shows) (kept_of p.number own); live = ls })
    (live-more (probe_of serial k version e shows) p.number (live run own))

going-track : (run : Run) (own : List Own) (serial near : ℕ) (frame : List ℕ) (p : Passed)
    → track_of run (Goes_out serial near frame ∷ own) p ≡ gone_out serial near frame (track_of run own p)
going-track run own serial near frame p =
    ap (λ (ls : List Live). record (track_of run own p) { live = ls }) (of-mapped p.number (sent_out serial near frame) (λ l. refl) (live run own))

filter-tracks : (run : Run) (own : List Own) (k : ℕ) (ps : List Passed)
    → map (track_of run own) (filter (λ p. not (is_number k p)) ps) ≡ filter (λ t. not (is_track k t)) (map (track_of run own) ps)
filter-tracks run own k [] = refl
filter-tracks run own k (p ∷ ps) =
    elim (p.number == k) as (λ b. map (track_of run own) (cond (not b) (p ∷ filter (λ p. not (is_number k p)) ps) (filter (λ p. not (is_number k p)) ps))
    ≡ cond (not b) (track_of run own p ∷ filter (λ t. not (is_track k t)) (map (track_of run own) ps)) (filter (λ t. not (is_track k t)) (map (track_of run own) ps))) [
      | true ↦ filter-tracks run own k ps
      | false ↦ ap (λ (ts : List Track). track_of run own p ∷ ts) (filter-tracks run own k ps)
    ]

tracks-without : (run : Run) (own : List Own) (o : Option ℕ) (ps : List Passed)
    → map (track_of run own) (without o ps) ≡ without_track o (map (track_of run own) ps)
tracks-without run own None ps = refl
tracks-without run own (Some k) ps = filter-tracks run own k ps

tracks-framed : (run : Run) (own : List Own) (b : Bool) (settled : Option ℕ) (frame : List ℕ) (us : List Passed)
    → map (track_of run own) (unsettled_at b settled frame us) ≡ tracks_at b settled frame us (map (track_of run own) us)
tracks-framed run own true settled frame us = refl
tracks-framed run own false settled frame us =
    tracks-without run own settled (without (rejected_by frame us) us) ∙ ap (without_track settled) (tracks-without run own (rejected_by frame us) us)

marked-all : (run : Run) (own : List Own) (what : What) (k : ℕ) (us : List Passed)
    → map (track_of run own) (map (mark_reported what k) us) ≡ map (mark_track what k) (map (track_of run own) us)
marked-all run own what k [] = refl
marked-all run own what k (p ∷ us) = ap (λ (ts : List Track). mark_track what k (track_of run own p) ∷ ts) (marked-all run own what k us)

tracks-lined : (run : Run) (own : List Own) (line : Line) (us : List Passed)
    → map (track_of run own) (unsettled_by line us) ≡ tracks_by line (map (track_of run own) us)
tracks-lined run own (Confirmed s k n) us = filter-tracks run own k us
tracks-lined run own (Fact s k what) us = marked-all run own what k us
tracks-lined run own (Armed s d t) us = refl
tracks-lined run own (Closed s why) us = refl
tracks-lined run own (Watch s m p n w) us = refl

new-track : (run : Run) (own : List Own) (p : Passed) → AsksPassed (count own) own → p.number ≡ count own + 1 → p.reported ≡ false
    → track_of run own p ≡ new_track (count own + 1)
new-track run own p a number fresh =
    let lt : count own < p.number = omega (arith, number) in
    rw (none-asked (count own) p.number own lt a) (rw (none-probed (count own) p.number own lt a) (rw (none-live run (count own) p.number own lt a) (rw number (rw fresh refl))))

tracks-if : (run : Run) (own : List Own) (b : Bool) (p : Passed) (us : List Passed) → AsksPassed (count own) own → p.number ≡ count own + 1 → p.reported ≡ false
    → map (track_of run own) (if b then us else p ∷ us) ≡ (if b then map (track_of run own) us else new_track (count own + 1) ∷ map (track_of run own) us)
tracks-if run own true p us a number fresh = refl
tracks-if run own false p us a number fresh = ap (λ (t : Track). t ∷ map (track_of run own) us) (new-track run own p a number fresh)

tracks-with : (run : Run) (own : List Own) (x : Option Edit) (frame : List ℕ) (t : List Rule) (us : List Passed) → AsksPassed (count own) own
    → map (track_of run own) (with_unsettled x (count own) frame t us) ≡ with_newest x (count own) (map (track_of run own) us)
tracks-with run own None frame t us a = refl
tracks-with run own (Some x) frame t us a =
    tracks-if run own (changes_nothing x) (record { number = count own + 1; edit = x; stood = rule_of (identity_of (edited x)) t; frame = frame; settled = false; reported = false; ticks = 0 }) us a refl refl

by-unsettled : (run : Run) (earlier : ℕ) (own : List Own) (o : Own)
    → map (track_of run (o ∷ own)) (unsettled (o ∷ own)) ≡ map (track_of run (o ∷ own)) (unsettled_after (now_of run earlier own) o)
by-unsettled run earlier own o = ap (map (track_of run (o ∷ own))) (unsettled_stands run earlier own o)

newest-stand : (run : Run) (earlier : ℕ) (own : List Own) (o : Own) → Standing own
    → map (track_of run (o ∷ own)) (unsettled (o ∷ own)) ≡ newest_after run (now_of run earlier own) o (map (track_of run own) (unsettled own))
newest-stand run earlier own (Sends Controller frame lost) good = refl
newest-stand run earlier own (Sends Switch frame lost) good =
    by-unsettled run earlier own (Sends Switch frame lost) ∙ tracks-with run own (edit_out own) frame (entries own) (unsettled own) good.2
newest-stand run earlier own (From_switch frame others) good =
    by-unsettled run earlier own (From_switch frame others)
    ∙ tracks-framed run own (tells_of_vanishing own frame) (own_edit (answered_by own frame)) frame (unsettled own)
newest-stand run earlier own (Reports line) good = by-unsettled run earlier own (Reports line) ∙ tracks-lined run own line (unsettled own)
newest-stand run earlier own (Ticks version) good =
    by-unsettled run earlier own (Ticks version)
    ∙ tick-all run version own (unsettled own) (all-open (unsettled own) (unsettled-differ [] (passed own) good.0))
newest-stand run earlier own (Offers job k) good =
    maps-same (track_of run (Offers job k ∷ own)) (offered k) (track_of run own) (offer-track run own job k) (unsettled own)
newest-stand run earlier own (Judged job k kind fresh) good =
    maps-same (track_of run (Judged job k kind fresh ∷ own)) (answered_for k) (track_of run own) (answer-track run own job k kind fresh) (unsettled own)
newest-stand run earlier own (Probes serial k version e shows) good =
    maps-same (track_of run (Probes serial k version e shows ∷ own)) (probed (probe_of serial k version e shows)) (track_of run own) (probe-track run own serial k version e shows) (unsettled own)
newest-stand run earlier own (Goes_out serial near frame) good =
    maps-same (track_of run (Goes_out serial near frame ∷ own)) (gone_out serial near frame) (track_of run own) (going-track run own serial near frame) (unsettled own)
newest-stand run earlier own o good = refl

-- the oldest first -----------------------------------------------------------------

map-last : (f : Track → Track) (ts : List Track) (t : Track) → map f (ts ++ t ∷ []) ≡ map f ts ++ f t ∷ []
map-last f [] t = refl
map-last f (u ∷ ts) t = ap (λ (us : List Track). f u ∷ us) (map-last f ts t)

turned-map : (f : Track → Track) (ts : List Track) → oldest_first (map f ts) ≡ map f (oldest_first ts)
turned-map f [] = refl
turned-map f (t ∷ ts) = ap (λ (us : List Track). us ++ f t ∷ []) (turned-map f ts) ∙ sym (map-last f (oldest_first ts) t)

into : (b : Bool) (u : Track) (xs ys : List Track) → u ∷ cond b xs ys ≡ cond b (u ∷ xs) (u ∷ ys)
into true u xs ys = refl
into false u xs ys = refl

filter-last : (test : Track → Bool) (ts : List Track) (t : Track) → filter test (ts ++ t ∷ []) ≡ (if test t then filter test ts ++ t ∷ [] else filter test ts)
filter-last test [] t = elim (test t) as (λ b. cond b (t ∷ []) [] ≡ cond b (t ∷ []) []) [ true ↦ refl | false ↦ refl ]
filter-last test (u ∷ ts) t =
    elim (test u) as (λ b. cond b (u ∷ filter test (ts ++ t ∷ [])) (filter test (ts ++ t ∷ []))
    ≡ cond (test t) (cond b (u ∷ filter test ts) (filter test ts) ++ t ∷ []) (cond b (u ∷ filter test ts) (filter test ts))) [
      | true ↦ ap (λ (us : List Track). u ∷ us) (filter-last test ts t) ∙ into (test t) u (filter test ts ++ t ∷ []) (filter test ts)
      | false ↦ filter-last test ts t
    ]

turned-filter : (test : Track → Bool) (ts : List Track) → oldest_first (filter test ts) ≡ filter test (oldest_first ts)
turned-filter test [] = refl
turned-filter test (t ∷ ts) =
    elim (test t) as (λ b. oldest_first (cond b (t ∷ filter test ts) (filter test ts)) ≡ cond b (filter test (oldest_first ts) ++ t ∷ []) (filter test (oldest_first ts))) [
      | true ↦ ap (λ (us : List Track). us ++ t ∷ []) (turned-filter test ts)
      | false ↦ turned-filter test ts
    ] ∙ sym (filter-last test (oldest_first ts) t)

turned-without : (o : Option ℕ) (ts : List Track) → oldest_first (without_track o ts) ≡ without_track o (oldest_first ts)
turned-without None ts = refl
turned-without (Some k) ts = turned-filter (λ t. not (is_track k t)) ts

turned-framed : (b : Bool) (settled : Option ℕ) (frame : List ℕ) (us : List Passed) (ts : List Track)
    → oldest_first (tracks_at b settled frame us ts) ≡ tracks_at b settled frame us (oldest_first ts)
turned-framed true settled frame us ts = refl
turned-framed false settled frame us ts =
    turned-without settled (without_track (rejected_by frame us) ts) ∙ ap (without_track settled) (turned-without (rejected_by frame us) ts)

turned-lined : (line : Line) (ts : List Track) → oldest_first (tracks_by line ts) ≡ tracks_by line (oldest_first ts)
turned-lined (Confirmed s k n) ts = turned-filter (λ t. not (is_track k t)) ts
turned-lined (Fact s k what) ts = turned-map (mark_track what k) ts
turned-lined (Armed s d t) ts = refl
turned-lined (Closed s why) ts = refl
turned-lined (Watch s m p n w) ts = refl

turned-if : (b : Bool) (t : Track) (ts : List Track) → oldest_first (if b then ts else t ∷ ts) ≡ (if b then oldest_first ts else oldest_first ts ++ t ∷ [])
turned-if true t ts = refl
turned-if false t ts = refl

turned-with : (x : Option Edit) (n : ℕ) (ts : List Track) → oldest_first (with_newest x n ts) ≡ with_track x n (oldest_first ts)
turned-with None n ts = refl
turned-with (Some x) n ts = turned-if (changes_nothing x) (new_track (n + 1)) ts

turned : (run : Run) (earlier : ℕ) (own : List Own) (o : Own) (ts : List Track) → oldest_first ts ≡ tracks_of run own (unsettled own)
    → oldest_first (newest_after run (now_of run earlier own) o ts) ≡ tracks_after run (now_of run earlier own) o
turned run earlier own (Sends Controller frame lost) ts e = e
turned run earlier own (Sends Switch frame lost) ts e = turned-with (edit_out own) (count own) ts ∙ ap (with_track (edit_out own) (count own)) e
turned run earlier own (From_switch frame others) ts e =
    turned-framed (tells_of_vanishing own frame) (own_edit (answered_by own frame)) frame (unsettled own) ts
    ∙ ap (tracks_at (tells_of_vanishing own frame) (own_edit (answered_by own frame)) frame (unsettled own)) e
turned run earlier own (Reports line) ts e = turned-lined line ts ∙ ap (tracks_by line) e
turned run earlier own (Ticks version) ts e = turned-map (tracks.ticked run.retry_ticks version) ts ∙ ap (map (tracks.ticked run.retry_ticks version)) e
turned run earlier own (Offers job k) ts e = turned-map (offered k) ts ∙ ap (map (offered k)) e
turned run earlier own (Judged job k kind fresh) ts e = turned-map (answered_for k) ts ∙ ap (map (answered_for k)) e
turned run earlier own (Probes serial k version x shows) ts e =
    turned-map (probed (probe_of serial k version x shows)) ts ∙ ap (map (probed (probe_of serial k version x shows))) e
turned run earlier own (Goes_out serial near frame) ts e = turned-map (gone_out serial near frame) ts ∙ ap (map (gone_out serial near frame)) e
turned run earlier own o ts e = e

pub tracks_stand : (run : Run) (earlier : ℕ) (own : List Own) (o : Own) → Standing own
    → tracks_of run (o ∷ own) (unsettled (o ∷ own)) ≡ tracks_after run (now_of run earlier own) o
tracks_stand run earlier own o good =
    ap oldest_first (newest-stand run earlier own o good) ∙ turned run earlier own o (map (track_of run own) (unsettled own)) refl

pub watching_stands : (run : Run) (earlier : ℕ) (own : List Own) (o : Own) → watching run (o ∷ own) ≡ watching_after run (now_of run earlier own) o
watching_stands run earlier own (Offers job edit) = refl
watching_stands run earlier own (Judged job edit kind fresh) = refl
watching_stands run earlier own (Probes serial edit version emission shows) = refl
watching_stands run earlier own (Goes_out serial near frame) = refl
watching_stands run earlier own (Sends Controller frame lost) = refl
watching_stands run earlier own (Sends Switch frame lost) = refl
watching_stands run earlier own (Ticks version) = refl
watching_stands run earlier own (Reports line) = refl
watching_stands run earlier own o = refl
