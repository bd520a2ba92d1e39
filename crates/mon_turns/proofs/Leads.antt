-- Which entries make what due.
use Rattle.std.proofs.Common.{◌≡◌, ℕ, ◌+◌, Bool, true, false, cond, not, ◌&&◌, List, [], ◌∷◌, ◌++◌, map, drop, Option, Some, None, refl, sym, ap, subst, ◌∙◌}
use Rattle.std.specs.Prelude.{◌==◌}
use Rattle.std.specs.List.{AllByRecursion}
use Rattle.std.proofs.lemmas.Bool.{false≢true}
use Rattle.std.proofs.lemmas.List.{append-nil}
use Rattle.mon_topo.specs.Tags.{tag_of}
use Rattle.of_msgs.specs.Layout.{datapath_of}
use Rattle.mon_barriers.specs.declared.barriers.Asker.{Asker}
use Rattle.mon_barriers.specs.declared.barriers.Asker.TheVariants as asker
use Rattle.mon_table.specs.declared.rule.Rule.{Rule}
use Rattle.mon_table.specs.declared.edit.Edit.{Edit}
use Rattle.mon_report.specs.declared.line.Line.{Line}
use Rattle.mon_report.specs.declared.line.Line.TheVariants as line
use Rattle.mon_report.specs.declared.line.What.{What}
use Rattle.mon_report.specs.declared.line.What.TheVariants as what
use Rattle.mon_report.specs.declared.line.WatchWhat.{WatchWhat}
use Rattle.mon_report.specs.declared.line.WatchWhat.TheVariants as watch_what
use Rattle.mon_report.specs.declared.line.Cause.{Cause}
use Rattle.mon_world.specs.declared.event.Kind.{Kind}
use Rattle.mon_world.specs.declared.event.Kind.TheVariants as kind
use Rattle.mon_world.specs.declared.event.Side.TheVariants.{Controller, Switch}
use Rattle.mon_legal.specs.Runs.{Run}
use Rattle.mon_legal.specs.Owns.{Own, Act}
use Rattle.mon_legal.specs.Owns.Own.{Begins, From_controller, From_switch, Breaks, Closes, Ticks, Returns, Judged, Neighbour, Acts, Offers, Probes, Goes_out, Sends, Carries, Reports, Ends}
use Rattle.mon_legal.specs.Owns.Act.{Closing, Reply, Plan, Step}
use Rattle.mon_legal.specs.Messages.{is_light, is_barrier_reply, is_error, is_own_error, features_request, own_barrier, arming_frames}
use Rattle.mon_legal.specs.Barriers.{edit_out, is_edit, count, answered_by, is_armed}
use Rattle.mon_legal.specs.Datapaths.{from_switch, datapath, catching}
use Rattle.mon_legal.specs.Edits.{passed, expected, unsettled, is_unsettled, find_passed, changes_nothing, rejected_by}
use Rattle.mon_legal.specs.Ties.{tie}
use Rattle.mon_legal.specs.Probes.{live, again, silent, confirmed_by}
use Rattle.mon_legal.specs.Watching.{watch, watch_again, missing, seen_by}
use Rattle.mon_legal.specs.Directly.{Due, owed, owes, on_switch, on_barrier, on_error, on_edit, on_judged, on_return, on_act, and_request, ends_in, ends_or_arms, arming_of, armed_line, armed_with, frames_to, fact, told, confirmed_with, is_over, is_closing, is_current, is_own_reply, is_return, refused_reply, rule_of_watch}
use Rattle.mon_legal.specs.Directly.Due.{Frame, Tells, Ending, Probing, Going}
use Rattle.mon_legal.specs.Ordering.{first_due}
use Rattle.mon_legal.proofs.Coming.{some-same}
use Rattle.mon_legal.proofs.Fitting.{AllFit}
use Rattle.mon_turns.proofs.Dues.{is_late, AllLate, well-owed, empty-of}

-- the sorts of what is due ----------------------------------------------------------

pub data Sort : Type 0 where
  Frames : Sort
  Probes_out : Sort
  Notes : Sort
  Ends_now : Sort
  Armed : Sort
  Closed : Sort
  Confirmed : Sort
  Of_passing : Sort
  Indistinguishable : Sort
  Was_closing : Sort
  Settled : Sort
  Rejected : Sort
  Silent : Sort
  Seen : Sort
  Unwatchable : Sort
  Missing : Sort

abbrev pub sort_of_what : What → Sort
sort_of_what what.NoChange = Sort.Of_passing
sort_of_what what.Overlap = Sort.Of_passing
sort_of_what what.Indistinguishable = Sort.Indistinguishable
sort_of_what what.Closing = Sort.Was_closing
sort_of_what what.Settled = Sort.Settled
sort_of_what what.Rejected = Sort.Rejected
sort_of_what what.Silent = Sort.Silent

abbrev pub sort_of_watch : WatchWhat → Sort
sort_of_watch watch_what.Seen = Sort.Seen
sort_of_watch watch_what.Missing = Sort.Missing
sort_of_watch watch_what.Unwatchable = Sort.Unwatchable

abbrev pub sort_of_line : Line → Sort
sort_of_line (line.Armed s d t) = Sort.Armed
sort_of_line (line.Closed s c) = Sort.Closed
sort_of_line (line.Confirmed s k n) = Sort.Confirmed
sort_of_line (line.Fact s k w) = sort_of_what w
sort_of_line (line.Watch s m p n w) = sort_of_watch w

abbrev pub sort_of : Due → Sort
sort_of (Frame to frame) = Sort.Frames
sort_of (Going serial) = Sort.Probes_out
sort_of (Probing job k) = Sort.Notes
sort_of (Ending c) = Sort.Ends_now
sort_of (Tells l) = sort_of_line l

-- which sorts an entry leads to
abbrev pub from_frame : Sort → Bool
from_frame Sort.Frames = true
from_frame Sort.Ends_now = true
from_frame Sort.Armed = true
from_frame Sort.Settled = true
from_frame Sort.Rejected = true
from_frame x = false

abbrev pub from_tick : Sort → Bool
from_tick Sort.Probes_out = true
from_tick Sort.Silent = true
from_tick Sort.Missing = true
from_tick x = false

abbrev pub from_return : Sort → Bool
from_return Sort.Frames = true
from_return Sort.Confirmed = true
from_return Sort.Seen = true
from_return x = false

abbrev pub from_answer : Sort → Bool
from_answer Sort.Frames = true
from_answer Sort.Notes = true
from_answer Sort.Indistinguishable = true
from_answer Sort.Unwatchable = true
from_answer x = false

abbrev pub from_act : Sort → Bool
from_act Sort.Frames = true
from_act Sort.Was_closing = true
from_act x = false

abbrev pub from_passing : Sort → Bool
from_passing Sort.Frames = true
from_passing Sort.Of_passing = true
from_passing x = false

abbrev pub is_frames : Sort → Bool
is_frames Sort.Frames = true
is_frames x = false

abbrev pub is_end : Sort → Bool
is_end Sort.Ends_now = true
is_end x = false

abbrev pub is_closed : Sort → Bool
is_closed Sort.Closed = true
is_closed x = false

abbrev is_probe : Sort → Bool
is_probe Sort.Probes_out = true
is_probe x = false

abbrev pub leads_to : Own → Sort → Bool
leads_to (Begins slot) x = is_end x
leads_to (From_controller frame) x = is_frames x
leads_to (From_switch frame others) x = from_frame x
leads_to (Breaks fault) x = is_end x
leads_to Closes x = is_end x
leads_to (Ticks version) x = from_tick x
leads_to (Returns serial seen) x = from_return x
leads_to (Judged job k kind fresh) x = from_answer x
leads_to (Acts act) x = from_act x
leads_to (Probes serial k version e shows) x = is_probe x
leads_to (Sends to frame lost) x = from_passing x
leads_to Ends x = is_closed x
leads_to o x = false

abbrev pub AllFrom : (Sort → Bool) → List Due → Type 0
AllFrom test dues = AllByRecursion (λ d. test (sort_of d) ≡ true) dues

-- what each entry makes due ------------------------------------------------------

from-cond : (test : Sort → Bool) (b : Bool) (xs ys : List Due) → AllFrom test xs → AllFrom test ys → AllFrom test (cond b xs ys)
from-cond test true xs ys a b = a
from-cond test false xs ys a b = b

from-append : (test : Sort → Bool) (xs ys : List Due) → AllFrom test xs → AllFrom test ys → AllFrom test (xs ++ ys)
from-append test [] ys a b = b
from-append test (x ∷ xs) ys a b = (a.0, from-append test xs ys a.1 b)

from-frames : (frames : List (List ℕ)) → AllFrom from_frame (frames_to Switch frames)
from-frames [] = tt
from-frames (frame ∷ frames) = (refl, from-frames frames)

from-arming : (run : Run) (tag : Option ℕ) → AllFrom from_frame (arming_of run tag)
from-arming run None = tt
from-arming run (Some tag) = from-frames (arming_frames tag run.in_use)

from-ends-or-arms : (run : Run) (d : Option ℕ) (why : Option Cause) → AllFrom from_frame (ends_or_arms run d why)
from-ends-or-arms run d (Some why) = (refl, tt)
from-ends-or-arms run None None = tt
from-ends-or-arms run (Some d) None = from-arming run (tag_of d run.given)

from-armed-with : (s d : ℕ) (tag : Option ℕ) → AllFrom from_frame (armed_with s d tag)
from-armed-with s d None = tt
from-armed-with s d (Some tag) = (refl, tt)

from-armed : (run : Run) (s : ℕ) (d : Option ℕ) → AllFrom from_frame (armed_line run s d)
from-armed run s None = tt
from-armed run s (Some d) = from-armed-with s d (tag_of d run.given)

from-barrier : (run : Run) (s : ℕ) (before : List Own) (frame : List ℕ) (who : Option Asker) → AllFrom from_frame (on_barrier run s before frame who)
from-barrier run s before frame None = (refl, tt)
from-barrier run s before frame (Some asker.Arming) = from-armed run s (datapath before)
from-barrier run s before frame (Some (asker.Own k)) = from-cond from_frame (is_unsettled before k) _ _ (refl, tt) tt
from-barrier run s before frame (Some (asker.Controller edits)) = tt

from-error : (s : ℕ) (before : List Own) (frame : List ℕ) (k : Option ℕ) → AllFrom from_frame (on_error s before frame k)
from-error s before frame (Some k) = (refl, (refl, tt))
from-error s before frame None = from-cond from_frame (is_own_error frame) _ _ (from-cond from_frame (is_armed before) _ _ tt (refl, tt)) (refl, tt)

from-switch : (run : Run) (s : ℕ) (taken : List ℕ) (before : List Own) (frame : List ℕ) → AllFrom from_frame (on_switch run s taken before frame)
unfolding on_switch
from-switch run s taken before frame =
    from-cond from_frame (is_own_reply before frame) _ _ (from-ends-or-arms run (datapath_of frame) (refused_reply run taken (datapath_of frame)))
    (from-cond from_frame (is_barrier_reply frame) _ _ (from-barrier run s before frame (answered_by before frame))
    (from-cond from_frame (is_error frame) _ _ (from-error s before frame (rejected_by frame (passed before)))
    (from-cond from_frame (is_return run frame) _ _ tt (refl, tt))))

from-requested : (before : List Own) (dues : List Due) → AllFrom from_frame dues → AllFrom from_frame (and_request before dues)
from-requested before dues a =
    from-cond from_frame ((from_switch before == 0) && not (ends_in dues)) _ _ (from-append from_frame dues (Frame Switch features_request ∷ []) a (refl, tt)) a

from-edit : (s k : ℕ) (t : List Rule) (x : Option Edit) → AllFrom from_passing (on_edit s k t x)
from-edit s k t None = tt
from-edit s k t (Some x) = from-cond from_passing (changes_nothing x) _ _ (refl, tt) (from-cond from_passing (tie t x) _ _ (refl, (refl, tt)) tt)

from-told : (test : Sort → Bool) (s : ℕ) (serial : Option ℕ) (w : WatchWhat) (r : Option Rule) → test (sort_of_watch w) ≡ true → AllFrom test (told s serial w r)
from-told test s serial w None e = tt
from-told test s serial w (Some r) e = (e, tt)

from-judged : (run : Run) (s : ℕ) (before : List Own) (job k : ℕ) (kind : Kind) → AllFrom from_answer (on_judged run s before job k kind)
from-judged run s before job k kind.Probe = (refl, tt)
from-judged run s before job k kind.Indistinguishable =
    from-cond from_answer (k == 0) _ _ (from-told from_answer s None watch_what.Unwatchable (rule_of_watch (watch run before)) refl) (refl, (refl, tt))
from-judged run s before job k kind.Skipped = tt

from-confirmed : (b : Bool) → AllFrom from_return (confirmed_with b)
from-confirmed true = (refl, tt)
from-confirmed false = tt

from-back : (s : ℕ) (before : List Own) (serial : ℕ) (k : Option ℕ) → AllFrom from_return (on_return s before serial k)
from-back s before serial None = tt
from-back s before serial (Some k) = (refl, from-confirmed (is_over (find_passed k before)))

from-acts : (s : ℕ) (before : List Own) (act : Act) → AllFrom from_act (on_act s before act)
from-acts s before (Closing k close) = (refl, (refl, (refl, tt)))
from-acts s before (Reply frame) = (refl, tt)
from-acts s before (Plan frame) = tt
from-acts s before (Step to frame change) = (refl, tt)

from-going : (serials : List ℕ) → AllFrom from_tick (map Going serials)
from-going [] = tt
from-going (n ∷ serials) = (refl, from-going serials)

from-silent : (s : ℕ) (edits : List ℕ) → AllFrom from_tick (map (λ k. fact s k what.Silent) edits)
from-silent s [] = tt
from-silent s (k ∷ edits) = (refl, from-silent s edits)

pub leads : (run : Run) (s : ℕ) (dues : List Due) (before : List Own) (o : Own) → AllFrom (leads_to o) (owes run s dues before o)
leads run s dues before (Begins None) = (refl, tt)
leads run s dues before (Begins (Some slot)) = tt
leads run s dues before (From_controller frame) = from-cond is_frames (is_light frame) _ _ (refl, tt) tt
leads run s dues before (From_switch frame others) = from-requested before (on_switch run s others before frame) (from-switch run s others before frame)
leads run s dues before (Breaks fault) = (refl, tt)
leads run s dues before Closes = (refl, tt)
leads run s dues before (Ticks version) =
    let going = again run version (unsettled before) (live run before) ++ watch_again run version (watch run before) in
    from-append from_tick (map Going going) _ (from-going going)
    (from-append from_tick (map (λ k. fact s k what.Silent) (silent run (unsettled before))) _ (from-silent s (silent run (unsettled before)))
    (from-told from_tick s None watch_what.Missing (missing run version (watch run before)) refl))
leads run s dues before (Returns serial seen) =
    from-append from_return (on_return s before serial (confirmed_by serial seen before)) _ (from-back s before serial (confirmed_by serial seen before))
    (from-told from_return s (Some serial) watch_what.Seen (seen_by serial seen (watch run before)) refl)
leads run s dues before (Judged job k kind fresh) = from-cond from_answer (is_current run before job k fresh) _ _ (from-judged run s before job k kind) tt
leads run s dues before (Acts act) = from-acts s before act
leads run s dues before (Probes serial k version e shows) = (refl, tt)
leads run s dues before (Sends Controller frame lost) = tt
leads run s dues before (Sends Switch frame lost) =
    from-cond from_passing (is_edit before && not (is_closing before)) _ _
    (from-edit s (count before + 1) (expected (catching run before) (Sends Switch frame lost ∷ before)) (edit_out before)) tt
leads run s dues before Ends = (refl, tt)
leads run s dues before Neighbour = tt
leads run s dues before (Offers job k) = tt
leads run s dues before (Goes_out serial near frame) = tt
leads run s dues before (Carries lost) = tt
leads run s dues before (Reports l) = tt

-- where the first of what is due comes from --------------------------------------------

-- a session near came or went, or a probe of another one was carried: nothing becomes due, whatever is
abbrev pub is_passing_by : Own → Bool
is_passing_by Neighbour = true
is_passing_by (Carries lost) = true
is_passing_by o = false

-- the newest entry that is none of these made it due
pub record Origin (run : Run) (s : ℕ) (d : Due) (seen : List Own) : Type 0 where
  pub over : List Own
  pub made : Own
  pub before : List Own
  pub all : seen ≡ over ++ made ∷ before
  pub passing : AllByRecursion (λ o. is_passing_by o ≡ true) over
  pub leads : leads_to made (sort_of d) ≡ true

pub first-from : (test : Sort → Bool) (dues : List Due) (d : Due) → AllFrom test dues → first_due dues ≡ Some d → test (sort_of d) ≡ true
first-from test [] d a e = absurd (let g : None ≡ Some d = e in cc)
first-from test (x ∷ dues) d a e = subst (λ (y : Due). test (sort_of y) ≡ true) (some-same x d e) a.0

pub behind-none : (xs dues : List Due) (d : Due) → first_due dues ≡ None → first_due (xs ++ dues) ≡ Some d → first_due xs ≡ Some d
behind-none xs dues d e g = ap first_due (sym (append-nil xs) ∙ ap (λ (ds : List Due). xs ++ ds) (sym (empty-of dues e))) ∙ g

pub late-first : (dues : List Due) (d : Due) → AllLate dues → first_due dues ≡ Some d → is_late d ≡ true
late-first [] d a e = absurd (let g : None ≡ Some d = e in cc)
late-first (x ∷ dues) d a e = subst (λ (y : Due). is_late y ≡ true) (some-same x d e) a.0

pub first-or-late : (xs dues : List Due) (d : Due) → AllLate dues → first_due (xs ++ dues) ≡ Some d → is_late d ≡ false → first_due xs ≡ Some d
first-or-late [] dues d a e n = absurd (false≢true (sym n ∙ late-first dues d a e))
first-or-late (x ∷ xs) dues d a e n = e

made-now : (run : Run) (s : ℕ) (d : Due) (o : Own) (before : List Own) → first_due (owes run s (owed run s before) before o) ≡ Some d → Origin run s d (o ∷ before)
made-now run s d o before e = record {
  over = [];
  made = o;
  before = before;
  all = refl;
  passing = tt;
  leads = first-from (leads_to o) (owes run s (owed run s before) before o) d (leads run s (owed run s before) before o) e;
}

passed-by : (run : Run) (s : ℕ) (d : Due) (o : Own) (before : List Own) → is_passing_by o ≡ true → Origin run s d before → Origin run s d (o ∷ before)
passed-by run s d o before e g = record {
  over = o ∷ g.over;
  made = g.made;
  before = g.before;
  all = ap (λ (xs : List Own). o ∷ xs) g.all;
  passing = (e, g.passing);
  leads = g.leads;
}

none-late : {A : Type 0} (dues : List Due) (d : Due) → AllLate dues → first_due dues ≡ Some d → is_late d ≡ false → A
none-late dues d a e n = absurd (false≢true (sym n ∙ late-first dues d a e))

pub origin : (run : Run) (s : ℕ) (d : Due) (seen : List Own) → AllFit run s seen → first_due (owed run s seen) ≡ Some d → is_late d ≡ false → Origin run s d seen
origin run s d [] fit e n = absurd (let g : None ≡ Some d = e in cc)
origin run s d (Sends Controller frame lost ∷ before) fit e n = none-late (drop 1 (owed run s before)) d (well-owed run s before fit.1).late e n
origin run s d (Goes_out serial near frame ∷ before) fit e n = none-late (drop 1 (owed run s before)) d (well-owed run s before fit.1).late e n
origin run s d (Reports l ∷ before) fit e n = none-late (drop 1 (owed run s before)) d (well-owed run s before fit.1).late e n
origin run s d (Sends Switch frame lost ∷ before) fit e n =
    made-now run s d (Sends Switch frame lost) before
    (first-or-late (owes run s (owed run s before) before (Sends Switch frame lost)) (drop 1 (owed run s before)) d (well-owed run s before fit.1).late e n)
origin run s d (Probes serial k version x shows ∷ before) fit e n = made-now run s d (Probes serial k version x shows) before e
origin run s d (Ends ∷ before) fit e n = made-now run s d Ends before e
origin run s d (Carries lost ∷ before) fit e n = passed-by run s d (Carries lost) before refl (origin run s d before fit.1 e n)
origin run s d (Neighbour ∷ before) fit e n = passed-by run s d Neighbour before refl (origin run s d before fit.1 e n)
origin run s d (Acts act ∷ before) fit e n = made-now run s d (Acts act) before (behind-none (on_act s before act) (owed run s before) d fit.0.2 e)
origin run s d (Begins slot ∷ before) fit e n = made-now run s d (Begins slot) before (behind-none (owes run s (owed run s before) before (Begins slot)) (owed run s before) d fit.0 e)
origin run s d (From_controller frame ∷ before) fit e n =
    made-now run s d (From_controller frame) before (behind-none (owes run s (owed run s before) before (From_controller frame)) (owed run s before) d fit.0 e)
origin run s d (From_switch frame others ∷ before) fit e n =
    made-now run s d (From_switch frame others) before (behind-none (owes run s (owed run s before) before (From_switch frame others)) (owed run s before) d fit.0 e)
origin run s d (Breaks fault ∷ before) fit e n = made-now run s d (Breaks fault) before (behind-none (owes run s (owed run s before) before (Breaks fault)) (owed run s before) d fit.0 e)
origin run s d (Closes ∷ before) fit e n = made-now run s d Closes before (behind-none (owes run s (owed run s before) before Closes) (owed run s before) d fit.0 e)
origin run s d (Ticks version ∷ before) fit e n = made-now run s d (Ticks version) before (behind-none (owes run s (owed run s before) before (Ticks version)) (owed run s before) d fit.0 e)
origin run s d (Returns serial seen ∷ before) fit e n =
    made-now run s d (Returns serial seen) before (behind-none (owes run s (owed run s before) before (Returns serial seen)) (owed run s before) d fit.0 e)
origin run s d (Judged job k kind fresh ∷ before) fit e n =
    made-now run s d (Judged job k kind fresh) before (behind-none (owes run s (owed run s before) before (Judged job k kind fresh)) (owed run s before) d fit.0 e)
origin run s d (Offers job k ∷ before) fit e n = made-now run s d (Offers job k) before (behind-none [] (owed run s before) d fit.0 e)

-- the barrier behind a confirmation ------------------------------------------------------

late-told : (s : ℕ) (serial : Option ℕ) (r : Option Rule) → AllLate (told s serial watch_what.Seen r)
late-told s serial None = tt
late-told s serial (Some r) = (refl, tt)

-- the newest entry is none that a confirmation can come from
abbrev is_silent : List Own → Bool
is_silent [] = false
is_silent (o ∷ before) = not (is_passing_by o) && not (leads_to o Sort.Confirmed)

not-second : (a b : Bool) → a && not b ≡ true → b ≡ true → ⊥
not-second true true e y = false≢true e
not-second true false e y = false≢true y
not-second false b e y = false≢true e

not-first : (a b : Bool) → not a && b ≡ true → a ≡ true → ⊥
not-first true b e y = false≢true e
not-first false b e y = false≢true y

silent-over : (over : List Own) (o : Own) (before : List Own) → is_silent (over ++ o ∷ before) ≡ true → AllByRecursion (λ x. is_passing_by x ≡ true) over → leads_to o Sort.Confirmed ≡ true → ⊥
silent-over [] o before e a l = not-second (not (is_passing_by o)) (leads_to o Sort.Confirmed) e l
silent-over (x ∷ over) o before e a l = not-first (is_passing_by x) (not (leads_to x Sort.Confirmed)) e a.0

no-return : (run : Run) (s r k n : ℕ) (seen : List Own) → is_silent seen ≡ true → Origin run s (Tells (line.Confirmed r k n)) seen → ⊥
no-return run s r k n seen e g = silent-over g.over g.made g.before (subst (λ (xs : List Own). is_silent xs ≡ true) g.all e) g.passing g.leads

abbrev edit_told : Due → ℕ
edit_told (Tells (line.Confirmed s k n)) = k
edit_told d = 0

confirmed-behind : (s : ℕ) (before : List Own) (serial : ℕ) (o : Option ℕ) (shown rest : List Due) (r k n : ℕ) → AllLate shown → rest ≡ []
    → first_due ((on_return s before serial o ++ shown) ++ rest) ≡ Some (Tells (line.Confirmed r k n)) → is_over (find_passed k before) ≡ true
    → first_due (drop 1 ((on_return s before serial o ++ shown) ++ rest)) ≡ Some (Frame Switch own_barrier)
confirmed-behind s before serial None shown rest r k n a z e y =
    none-late (shown ++ rest) (Tells (line.Confirmed r k n)) (subst AllLate (sym (ap (λ (ds : List Due). shown ++ ds) z ∙ append-nil shown)) a) e refl
confirmed-behind s before serial (Some j) shown rest r k n a z e y =
    let same : j ≡ k = ap edit_told (some-same (Tells (line.Confirmed s j serial)) (Tells (line.Confirmed r k n)) e) in
    ap (λ (b : Bool). first_due ((confirmed_with b ++ shown) ++ rest)) (ap (λ (i : ℕ). is_over (find_passed i before)) same ∙ y)

pub confirmed-next : (run : Run) (s r k n : ℕ) (seen : List Own) → AllFit run s seen → first_due (owed run s seen) ≡ Some (Tells (line.Confirmed r k n))
    → is_over (find_passed k seen) ≡ true → first_due (drop 1 (owed run s seen)) ≡ Some (Frame Switch own_barrier)
confirmed-next run s r k n (Carries lost ∷ before) fit e y = confirmed-next run s r k n before fit.1 e y
confirmed-next run s r k n (Neighbour ∷ before) fit e y = confirmed-next run s r k n before fit.1 e y
confirmed-next run s r k n (Returns serial seen ∷ before) fit e y =
    confirmed-behind s before serial (confirmed_by serial seen before) (told s (Some serial) watch_what.Seen (seen_by serial seen (watch run before))) (owed run s before) r k n
    (late-told s (Some serial) (seen_by serial seen (watch run before))) (empty-of (owed run s before) fit.0) e y
confirmed-next run s r k n (o ∷ before) fit e y = absurd (no-return run s r k n (o ∷ before) refl (origin run s (Tells (line.Confirmed r k n)) (o ∷ before) fit e refl))
confirmed-next run s r k n [] fit e y = absurd (let g : None ≡ Some (Tells (line.Confirmed r k n)) = e in cc)
