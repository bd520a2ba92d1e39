-- An event behind a lawful whole history.
use Rattle.std.proofs.Common.{◌≡◌, ℕ, ◌+◌, Bool, true, false, cond, List, [], ◌∷◌, ◌++◌, drop, Option, Some, None, option_map, refl, sym, ap, subst, ◌∙◌}
use Rattle.std.specs.Prelude.{◌==◌, is_none, IfSome, IsSome}
use Rattle.std.proofs.lemmas.Bool.{false≢true}
use Rattle.mon_outcome.specs.declared.emission.Emission.{Emission}
use Rattle.mon_shows.specs.Views.{observed}
use Rattle.mon_report.specs.declared.line.Line.{Line as ReportLine}
use Rattle.mon_report.specs.declared.line.Line.TheVariants.{Fact, Confirmed}
use Rattle.mon_report.specs.declared.line.What.TheVariants as what
use Rattle.mon_report.specs.declared.line.Cause.{Cause}
use Rattle.mon_report.specs.declared.line.Cause.TheVariants as why
use Rattle.mon_world.specs.declared.event.Event.{Event}
use Rattle.mon_world.specs.declared.event.Event.TheVariants.{Opened}
use Rattle.mon_world.specs.declared.event.Event.TheVariants as event
use Rattle.mon_world.specs.declared.event.Kind.{Kind}
use Rattle.mon_world.specs.declared.event.Kind.TheVariants as kind
use Rattle.mon_world.specs.declared.event.Side.TheVariants.{Controller, Switch}
use Rattle.mon_world.specs.declared.event.Note.TheVariants.{Verdict, Probe, Report}
use Rattle.mon_world.specs.declared.history.Entry.TheVariants.{Given, Noted, Put, End}
use Rattle.mon_legal.specs.Runs.{Run}
use Rattle.mon_legal.specs.Changing.{only}
use Rattle.mon_legal.specs.Owns.{Own}
use Rattle.mon_legal.specs.Owns.Own.{Begins, Returns, Probes, Judged}
use Rattle.mon_legal.specs.Messages.{own_barrier}
use Rattle.mon_legal.specs.Barriers.{count, is_barriered, answered_by, is_arming, own_edit}
use Rattle.mon_legal.specs.Edits.{find_passed, passed, rejected_by}
use Rattle.mon_legal.specs.Datapaths.{datapath, tag}
use Rattle.mon_legal.specs.Directly.{Due, owed, fact, job_stands, is_closing, is_over}
use Rattle.mon_legal.specs.Directly.Due.{Frame, Tells, Ending, Probing, Going}
use Rattle.mon_legal.specs.Moments.{Moment}
use Rattle.mon_legal.specs.Moments.Moment.{Is, Came, Broke}
use Rattle.mon_legal.specs.Jobs.{Job, job_of, openings}
use Rattle.mon_legal.specs.Sessions.{part, parts_of, is_open, if_open, probed_as, probed_if, version, view, opened, returned, other_datapaths, open_with_slot, next_slot, session_in, hears}
use Rattle.mon_legal.specs.Ordering.{Next, first_due, first_with, next}
use Rattle.mon_legal.specs.Ordering.Next.{Nothing}
use Rattle.mon_legal.specs.Answers.{current}
use Rattle.mon_legal.specs.Reports.{Exactly, is_what, is_of_passing, is_indistinguishable, is_settled, is_rejected, is_seen, is_unwatchable, is_closing as is_closing_line, is_armed_line, is_closed_line, is_confirmed_line, is_watch_line}
use Rattle.mon_legal.specs.Passing.{FramesGoInOrder, Comes}
use Rattle.mon_legal.specs.Probing.{ProbesSeparate, JustAnswered, NoteIsFollowed}
use Rattle.mon_legal.specs.Unmonitorable.{answered_line, answer_line, passed_line, closing_line, ProbeFollows, BearsProbe, BarrierFollows, Unless, IsOwnBarrier}
use Rattle.mon_legal.specs.Confirming.{confirmed_line, confirms, confirms_with, line_in, settled_line, settles, rejected_line}
use Rattle.mon_legal.specs.Ticking.{AtTick, before_tick}
use Rattle.mon_legal.specs.Lasting.{Lasts, SessionsLast, EndsAs, ended_by, refused_frame, when, closed_line, armed_line}
use Rattle.mon_legal.specs.Lasting as lasting
use Rattle.mon_legal.specs.Watches.{seen_line, seen_with, sees, unwatchable_line, unwatchable_for, MissingRightly}
use Rattle.mon_legal.proofs.Coming.{first-has}
use Rattle.mon_legal.proofs.Fitting.{AllFit, nothing-due, all-fit, same-of}
use Rattle.mon_legal.proofs.Carrying.{frames-go-on}
use Rattle.mon_turns.proofs.Born.{same-number}
use Rattle.mon_turns.specs.Laws.{EventsAreLawful}
use Rattle.mon_turns.proofs.Seeing.{broke-own, closed-by-peer, ended-own, put-own, told-own, current-of, three-true, judged-own, still-open}
use Rattle.mon_turns.proofs.Dues.{well-owed}
use Rattle.mon_turns.proofs.Leads.{confirmed-next}
use Rattle.mon_turns.proofs.Asked.{asks-answer, asks-probe, asks-unwatchable, asks-passed, asks-closing, asks-confirmed, asks-seen, asks-settled, asks-armed, asks-end, barrier-next, rejected-dues, put-other}

-- where a turn has ended nothing is due -------------------------------------------

not-due : {A : Type 0} (run : Run) (f : List Moment) (s : ℕ) (d : Due) → next run f ≡ Nothing → first_due (owed run s (part run s f)) ≡ Some d → A
not-due run f s d nothing e = absurd (let g : None ≡ Some d = sym (ap first_due (nothing-due run f s nothing)) ∙ e in cc)

none-if : {A : Type 0} (o : Option A) → ((x : A) → o ≡ Some x → ⊥) → o ≡ None
none-if None k = refl
none-if (Some x) k = absurd (k x refl)

none-exactly : (o : Option ReportLine) (sort : ReportLine → Bool) (event : Event) → o ≡ None → Exactly o sort (Is (Given event))
none-exactly o sort event e = subst (λ (x : Option ReportLine). Exactly x sort (Is (Given event))) (sym e) refl

-- the session whose work the newest moment was is open
worked : (run : Run) (f : List Moment) (m : Moment) → SessionsLast run (m ∷ f) → IfSome (lasting.worker m) (λ s. is_open (part run s f) ≡ true)
worked run f m lasts = lasts.1.silent

-- answers ------------------------------------------------------------------------

answer-none : (run : Run) (f : List Moment) (number : ℕ) (kind : Kind) (o : Option Job) (l : ReportLine) → next run (Is (Noted (Verdict number kind)) ∷ f) ≡ Nothing
    → current run f number ≡ o → answer_line o kind ≡ Some l → ⊥
answer-none run f number kind None l nothing e g = let h : None ≡ Some l = g in cc
answer-none run f number kind (Some j) l nothing e g = not-due run (Is (Noted (Verdict number kind)) ∷ f) j.session (Tells l) nothing (asks-answer run f number kind j l e g)

no-answer : (run : Run) (f : List Moment) → next run f ≡ Nothing → answered_line run f ≡ None
no-answer run (Is (Noted (Verdict number kind)) ∷ f) nothing = none-if (answer_line (current run f number) kind) (λ l e. answer-none run f number kind (current run f number) l nothing refl e)
no-answer run f nothing = refl

unwatchable-none : (run : Run) (f : List Moment) (number : ℕ) (kind : Kind) (o : Option Job) (l : ReportLine) → next run (Is (Noted (Verdict number kind)) ∷ f) ≡ Nothing
    → current run f number ≡ o → unwatchable_for run f o kind ≡ Some l → ⊥
unwatchable-none run f number kind None l nothing e g = let h : None ≡ Some l = g in cc
unwatchable-none run f number kind (Some j) l nothing e g = not-due run (Is (Noted (Verdict number kind)) ∷ f) j.session (Tells l) nothing (asks-unwatchable run f number kind j l e g)

no-unwatchable : (run : Run) (f : List Moment) → next run f ≡ Nothing → unwatchable_line run f ≡ None
no-unwatchable run (Is (Noted (Verdict number kind)) ∷ f) nothing =
    none-if (unwatchable_for run f (current run f number) kind) (λ l e. unwatchable-none run f number kind (current run f number) l nothing refl e)
no-unwatchable run f nothing = refl

probe-none : (run : Run) (f : List Moment) (number : ℕ) (kind : Kind) (o : Option Job) (m : Moment) → next run (Is (Noted (Verdict number kind)) ∷ f) ≡ Nothing
    → current run f number ≡ o → BearsProbe o kind m
probe-none run f number kind.Probe (Some j) m nothing e = not-due run (Is (Noted (Verdict number kind.Probe)) ∷ f) j.session (Probing j.number j.edit) nothing (asks-probe run f number j e)
probe-none run f number kind.Indistinguishable (Some j) m nothing e = tt
probe-none run f number kind.Skipped (Some j) m nothing e = tt
probe-none run f number kind None m nothing e = tt

no-probe : (run : Run) (f : List Moment) (m : Moment) → next run f ≡ Nothing → ProbeFollows run f m
no-probe run (Is (Noted (Verdict number kind)) ∷ f) m nothing = probe-none run f number kind (current run f number) m nothing refl
no-probe run f m nothing = tt

-- edits --------------------------------------------------------------------------

no-passed : (run : Run) (f : List Moment) → next run f ≡ Nothing → SessionsLast run f → passed_line run f ≡ None
no-passed run (Is (Put s Switch frame lost) ∷ f) nothing lasts =
    let g = Is (Put s Switch frame lost) ∷ f in
    none-if (passed_line run g) (λ l e. not-due run g s (Tells l) nothing (asks-passed run f s frame lost l (worked run f (Is (Put s Switch frame lost)) lasts) e))
no-passed run f nothing lasts = refl

no-closing : (run : Run) (f : List Moment) → next run f ≡ Nothing → SessionsLast run f → closing_line run f ≡ None
no-closing run (Is (Put s Switch frame lost) ∷ f) nothing lasts =
    elim (is_closing (part run s f)) as (λ b. is_closing (part run s f) ≡ b → cond b (Some (Fact s (count (part run s f) + 1) what.Closing)) None ≡ None) [
      | true ↦ λ e. not-due run (Is (Put s Switch frame lost) ∷ f) s _ nothing (asks-closing run f s frame lost (worked run f (Is (Put s Switch frame lost)) lasts) e)
      | false ↦ λ e. refl
    ] refl
no-closing run f nothing lasts = refl

-- returns ------------------------------------------------------------------------

line-some : (o : Option (ℕ × ReportLine)) (l : ReportLine) → line_in o ≡ Some l → (q : ℕ × ReportLine) × (o ≡ Some q)
line-some None l e = absurd (let g : None ≡ Some l = e in cc)
line-some (Some q) l e = (q, refl)

-- an open session that tells something of a return
confirm-due : (run : Run) (f : List Moment) (s r : ℕ) (frame : List ℕ) (returns : List Own) (l : ReportLine) → next run (Came r Switch frame ∷ f) ≡ Nothing → is_open (part run s f) ≡ true
    → returned run (parts_of run f) r Switch frame ≡ returns → confirms_with s (part run s f) returns ≡ Some l → ⊥
confirm-due run f s r frame (Returns serial seen ∷ os) l nothing there e g =
    not-due run (Came r Switch frame ∷ f) s (Tells l) nothing (asks-confirmed run f s r frame serial seen os l there e g)
confirm-due run f s r frame [] l nothing there e g = let h : None ≡ Some l = g in cc
confirm-due run f s r frame (o ∷ os) l nothing there e g = let h : None ≡ Some l = g in cc

confirm-none : (run : Run) (f : List Moment) (s r : ℕ) (frame : List ℕ) (l : ReportLine) → next run (Came r Switch frame ∷ f) ≡ Nothing
    → confirms run f (returned run (parts_of run f) r Switch frame) s ≡ Some l → ⊥
confirm-none run f s r frame l nothing e =
    elim (is_open (part run s f)) as (λ b. is_open (part run s f) ≡ b → cond b (confirms_with s (part run s f) (returned run (parts_of run f) r Switch frame)) None ≡ Some l → ⊥) [
      | true ↦ λ y g. confirm-due run f s r frame (returned run (parts_of run f) r Switch frame) l nothing y refl g
      | false ↦ λ y g. let h : None ≡ Some l = g in cc
    ] refl e

no-confirmed : (run : Run) (f : List Moment) → next run f ≡ Nothing → confirmed_line run f ≡ None
no-confirmed run (Came r Switch frame ∷ f) nothing =
    let what = confirms run f (returned run (parts_of run f) r Switch frame) in
    none-if (line_in (first_with what (opened run f))) (λ l e.
    let q = line-some (first_with what (opened run f)) l e in
    confirm-none run f q.0.0 r frame q.0.1 nothing (first-has what (opened run f) q.0 q.1))
no-confirmed run f nothing = refl

seen-due : (run : Run) (f : List Moment) (s r : ℕ) (frame : List ℕ) (returns : List Own) (l : ReportLine) → next run (Came r Switch frame ∷ f) ≡ Nothing → is_open (part run s f) ≡ true
    → returned run (parts_of run f) r Switch frame ≡ returns → seen_with s run (part run s f) returns ≡ Some l → ⊥
seen-due run f s r frame (Returns serial seen ∷ os) l nothing there e g =
    asks-seen run f s r frame serial seen os l there e g (nothing-due run (Came r Switch frame ∷ f) s nothing)
seen-due run f s r frame [] l nothing there e g = let h : None ≡ Some l = g in cc
seen-due run f s r frame (o ∷ os) l nothing there e g = let h : None ≡ Some l = g in cc

seen-none : (run : Run) (f : List Moment) (s r : ℕ) (frame : List ℕ) (l : ReportLine) → next run (Came r Switch frame ∷ f) ≡ Nothing
    → sees run f (returned run (parts_of run f) r Switch frame) s ≡ Some l → ⊥
seen-none run f s r frame l nothing e =
    elim (is_open (part run s f)) as (λ b. is_open (part run s f) ≡ b → cond b (seen_with s run (part run s f) (returned run (parts_of run f) r Switch frame)) None ≡ Some l → ⊥) [
      | true ↦ λ y g. seen-due run f s r frame (returned run (parts_of run f) r Switch frame) l nothing y refl g
      | false ↦ λ y g. let h : None ≡ Some l = g in cc
    ] refl e

no-seen : (run : Run) (f : List Moment) → next run f ≡ Nothing → seen_line run f ≡ None
no-seen run (Came r Switch frame ∷ f) nothing =
    let what = sees run f (returned run (parts_of run f) r Switch frame) in
    none-if (line_in (first_with what (opened run f))) (λ l e.
    let q = line-some (first_with what (opened run f)) l e in
    seen-none run f q.0.0 r frame q.0.1 nothing (first-has what (opened run f) q.0 q.1))
no-seen run f nothing = refl

-- frames of the switch --------------------------------------------------------------

no-settled : (run : Run) (f : List Moment) → next run f ≡ Nothing → SessionsLast run f → settled_line run f ≡ None
no-settled run (Came s Switch frame ∷ f) nothing lasts =
    none-if (settles s (part run s f) (own_edit (answered_by (part run s f) frame)))
    (λ l e. not-due run (Came s Switch frame ∷ f) s (Tells l) nothing (asks-settled run f s frame l (worked run f (Came s Switch frame) lasts) e))
no-settled run f nothing lasts = refl

no-armed : (run : Run) (f : List Moment) → next run f ≡ Nothing → SessionsLast run f → armed_line run f ≡ None
no-armed run (Came s Switch frame ∷ f) nothing lasts =
    let p = part run s f in
    elim (is_arming (answered_by p frame)) as (λ b. is_arming (answered_by p frame) ≡ b → cond b (lasting.armed_with s (datapath p) (tag run p)) None ≡ None) [
      | true ↦ λ y. none-if (lasting.armed_with s (datapath p) (tag run p))
          (λ l e. not-due run (Came s Switch frame ∷ f) s (Tells l) nothing (asks-armed run f s frame l (worked run f (Came s Switch frame) lasts) y e))
      | false ↦ λ y. refl
    ] refl
no-armed run f nothing lasts = refl

-- ends ---------------------------------------------------------------------------

when-some : (b : Bool) (c : Cause) (x : Cause) → when b c ≡ Some x → b ≡ true
when-some true c x e = refl
when-some false c x e = absurd (let g : None ≡ Some x = e in cc)

map-none : {A B : Type 0} (g : A → B) (o : Option A) → o ≡ None → option_map g o ≡ None
map-none g o e = ap (option_map g) e

bare-due : (run : Run) (f : List Moment) (o : Option ℕ) → next_slot run f ≡ o → is_none o ≡ true → first_due (owed run (openings run f) (part run (openings run f) (Is (Given Opened) ∷ f))) ≡ Some (Ending why.TooMany)
bare-due run f (Some slot) e y = absurd (false≢true y)
bare-due run f None e y =
    let n = openings run f in
    ap (λ (b : Bool). first_due (owed run n (only b (Begins (next_slot run f) ∷ []) ++ [] ++ part run n f))) (same-number n)
    ∙ ap (λ (o : Option ℕ). first_due (owed run n (Begins o ∷ part run n f))) e

no-end : (run : Run) (f : List Moment) → next run f ≡ Nothing → SessionsLast run f → ended_by run f ≡ None
no-end run (Is (Given Opened) ∷ f) nothing lasts =
    map-none _ (when (is_none (next_slot run f)) why.TooMany) (none-if (when (is_none (next_slot run f)) why.TooMany)
    (λ x e. not-due run (Is (Given Opened) ∷ f) (openings run f) (Ending why.TooMany) nothing (bare-due run f (next_slot run f) refl (when-some (is_none (next_slot run f)) why.TooMany x e))))
no-end run (Is (Given (event.Closed s)) ∷ f) nothing lasts =
    map-none _ (when (is_open (part run s f)) why.Peer) (none-if (when (is_open (part run s f)) why.Peer)
    (λ x e. not-due run (Is (Given (event.Closed s)) ∷ f) s (Ending why.Peer) nothing
    (ap (λ (seen : List Own). first_due (owed run s seen)) (closed-by-peer run f s (when-some (is_open (part run s f)) why.Peer x e)))))
no-end run (Broke s side fault ∷ f) nothing lasts =
    not-due run (Broke s side fault ∷ f) s _ nothing (ap (λ (seen : List Own). first_due (owed run s seen)) (broke-own run f s side fault (worked run f (Broke s side fault) lasts)))
no-end run (Came s Switch frame ∷ f) nothing lasts =
    let others = other_datapaths (parts_of run f) s (open_with_slot run f) in
    map-none _ (refused_frame run others (part run s f) frame) (none-if (refused_frame run others (part run s f) frame)
    (λ c e. not-due run (Came s Switch frame ∷ f) s (Ending c) nothing (asks-end run f s frame c (worked run f (Came s Switch frame) lasts) e)))
no-end run f nothing lasts = refl

no-closed : (run : Run) (f : List Moment) → next run f ≡ Nothing → SessionsLast run f → closed_line run f ≡ None
no-closed run (Is (End s) ∷ f) nothing lasts =
    not-due run (Is (End s) ∷ f) s _ nothing (ap (λ (seen : List Own). first_due (owed run s seen)) (ended-own run f s (worked run f (Is (End s)) lasts)))
no-closed run f nothing lasts = refl

-- rejections ------------------------------------------------------------------------

-- the ERROR was put: what it rejects is still to be told
reject-due : (run : Run) (f : List Moment) (r s : ℕ) (error frame : List ℕ) (lost : Bool) (k : ℕ) → next run (Is (Put r Controller error lost) ∷ Came s Switch frame ∷ f) ≡ Nothing
    → is_open (part run r (Came s Switch frame ∷ f)) ≡ true → is_open (part run s f) ≡ true → rejected_by frame (passed (part run s f)) ≡ Some k → ⊥
reject-due run f r s error frame lost k nothing at there e =
    let g = Came s Switch frame ∷ f in
    let dues = rejected-dues run f s frame k there e in
    elim (r == s) as (λ b. (r == s) ≡ b → ⊥) [
      | true ↦ λ y.
          let same : r ≡ s = same-of r s y in
          not-due run (Is (Put r Controller error lost) ∷ g) r (fact s k what.Rejected) nothing
          (ap (λ (seen : List Own). first_due (owed run r seen)) (put-own run g r Controller error lost at)
          ∙ ap (λ (q : ℕ). first_due (drop 1 (owed run q (part run q g)))) same
          ∙ ap (λ (ds : List Due). first_due (drop 1 ds)) dues.1)
      | false ↦ λ n.
          not-due run (Is (Put r Controller error lost) ∷ g) s (Frame Controller frame) nothing
          (ap (λ (seen : List Own). first_due (owed run s seen)) (put-other run g r s Controller error lost n) ∙ ap first_due dues.1)
    ] refl

no-rejected : (run : Run) (f : List Moment) → next run f ≡ Nothing → SessionsLast run f → rejected_line run f ≡ None
no-rejected run (Is (Put r Controller error lost) ∷ Came s Switch frame ∷ f) nothing lasts =
    map-none (λ k. Fact s k what.Rejected) (rejected_by frame (passed (part run s f))) (none-if (rejected_by frame (passed (part run s f)))
    (λ k e. reject-due run f r s error frame lost k nothing (worked run (Came s Switch frame ∷ f) (Is (Put r Controller error lost)) lasts)
    (worked run f (Came s Switch frame) lasts.2) e))
no-rejected run f nothing lasts = refl

-- barriers ----------------------------------------------------------------------------

unless-none : (b : Bool) (A : Type 0) → (b ≡ true → ⊥) → Unless b A
unless-none true A k = absurd (k refl)
unless-none false A k = tt

told-first : (run : Run) (f : List Moment) (l : ReportLine) → FramesGoInOrder run (Is (Noted (Report l)) ∷ f) → ProbesSeparate run (Is (Noted (Report l)) ∷ f)
    → hears l (part run (session_in l) f) ≡ true → first_due (owed run (session_in l) (part run (session_in l) f)) ≡ Some (Tells l)
told-first run f l order probes there =
    let s = session_in l in
    (subst (AllFit run s) (told-own run f l there) (all-fit run (Is (Noted (Report l)) ∷ f) order probes s)).0

no-barrier : (run : Run) (f : List Moment) (m : Moment) → next run f ≡ Nothing → FramesGoInOrder run f → ProbesSeparate run f → SessionsLast run f → BarrierFollows run f m
no-barrier run (Is (Noted (Report (Fact s k w))) ∷ f) m nothing order probes lasts =
    let l = Fact s k w in
    let there : is_open (part run s f) ≡ true = worked run f (Is (Noted (Report l))) lasts in
    let first = told-first run f l order probes there in
    let well = well-owed run s (part run s f) (all-fit run f order.2 probes.2 s) in
    unless-none (is_barriered w) (IsOwnBarrier s m) (λ y.
    not-due run (Is (Noted (Report l)) ∷ f) s (Frame Switch own_barrier) nothing
    (ap (λ (seen : List Own). first_due (owed run s seen)) (told-own run f l there) ∙ barrier-next s k w (owed run s (part run s f)) well.followed first y))
no-barrier run (Is (Noted (Report (Confirmed s k n))) ∷ f) m nothing order probes lasts =
    let l = Confirmed s k n in
    let there : is_open (part run s f) ≡ true = worked run f (Is (Noted (Report l))) lasts in
    let first = told-first run f l order probes there in
    unless-none (is_over (find_passed k (part run s f))) (IsOwnBarrier s m) (λ y.
    not-due run (Is (Noted (Report l)) ∷ f) s (Frame Switch own_barrier) nothing
    (ap (λ (seen : List Own). first_due (owed run s seen)) (told-own run f l there)
    ∙ confirmed-next run s s k n (part run s f) (all-fit run f order.2 probes.2 s) first y))
no-barrier run f m nothing order probes lasts = tt

-- probes --------------------------------------------------------------------------------

some-of : {A : Type 0} (o : Option A) → IsSome o → (x : A) × (o ≡ Some x)
some-of None e = absurd (false≢true e)
some-of (Some x) e = (x, refl)

still-job : (number : ℕ) (f : List Moment) (answered : ℕ) (kind : Kind) → job_of number (Is (Noted (Verdict answered kind)) ∷ f) ≡ job_of number f
still-job number f answered kind = refl

-- the note of a probe makes the probe due
pub probed-own : (run : Run) (f : List Moment) (serial number : ℕ) (x : Emission) (j : Job) → job_of number f ≡ Some j → is_open (part run j.session f) ≡ true
    → first_due (owed run j.session (part run j.session (Is (Noted (Probe serial number x)) ∷ f))) ≡ Some (Going serial)
probed-own run f serial number x j e there =
    let P = parts_of run f in
    let s = j.session in
    ap (λ (o : Option Job). first_due (owed run s (if_open P s (probed_as run P s f serial o x) ++ part run s f))) e
    ∙ ap (λ (b : Bool). first_due (owed run s (if_open P s (probed_if b run P f serial j x) ++ part run s f))) (same-number s)
    ∙ ap (λ (b : Bool). first_due (owed run s (only b (Probes serial j.edit (version run s f) x (observed (view run s f) x) ∷ []) ++ part run s f))) there

probed-due : (run : Run) (f : List Moment) (serial number : ℕ) (x : Emission) → next run (Is (Noted (Probe serial number x)) ∷ f) ≡ Nothing → JustAnswered run f number kind.Probe → ⊥
probed-due run (Is (Noted (Verdict answered kind)) ∷ f) serial number x nothing just =
    let g = Is (Noted (Verdict answered kind)) ∷ f in
    let found = some-of (current run f number) just.2 in
    let j = found.0 in
    let at = current-of run f (job_of number f) j found.1 in
    let open_then = (three-true (is_open (part run j.session f)) (job_stands run (part run j.session f) j.number j.edit) (j.version == version run j.session f) at.1).0 in
    let same : current run f answered ≡ Some j = subst (λ (n : ℕ). current run f n ≡ Some j) (sym just.0) found.1 in
    let there : is_open (part run j.session g) ≡ true =
    ap is_open (judged-own run f answered kind j same) ∙ still-open (Judged j.number j.edit kind (j.version == version run j.session f)) (part run j.session f) refl open_then in
    not-due run (Is (Noted (Probe serial number x)) ∷ g) j.session (Going serial) nothing (probed-own run g serial number x j at.0 there)
probed-due run f serial number x nothing just = just

no-note : (run : Run) (f : List Moment) (m : Moment) → next run f ≡ Nothing → ProbesSeparate run f → NoteIsFollowed run f m
no-note run (Is (Noted (Probe serial number x)) ∷ f) m nothing probes = absurd (probed-due run f serial number x nothing probes.1.0.0)
no-note run f m nothing probes = tt

-- the whole ---------------------------------------------------------------------------

no-silence : (run : Run) (f : List Moment) (o : Option (List Moment)) (event : Event) → AtTick run f o (Is (Given event))
no-silence run f None event = refl
no-silence run f (Some g) event = tt

none-missing : (run : Run) (f : List Moment) (o : Option (List Moment)) (event : Event) → MissingRightly run f o (Is (Given event))
none-missing run f None event = refl
none-missing run f (Some g) event = tt

none-ends : (run : Run) (f : List Moment) (o : Option (ℕ × Cause)) (event : Event) → o ≡ None → EndsAs run f o (Is (Given event))
none-ends run f o event e = subst (λ (x : Option (ℕ × Cause)). EndsAs run f x (Is (Given event))) (sym e) tt

-- an event behind a lawful whole history is lawful
pub events-are-lawful : EventsAreLawful
events-are-lawful run f event lawful whole =
    let m = Is (Given event) in
    let nothing = whole.frames in
    let lasts = lawful.sessions in
    let order : FramesGoInOrder run (m ∷ f) = (nothing, subst (λ (n : Next). Comes run f n m) (sym nothing) refl, lawful.frames) in
    let probes : ProbesSeparate run (m ∷ f) = (tt, (tt, no-note run f m nothing lawful.probes), lawful.probes) in
    record {
      probes = probes;
      answers = (tt, tt, lawful.answers);
      unmonitorable = (
        whole.closings,
        record {
          answer = none-exactly (answered_line run f) (is_what is_indistinguishable) event (no-answer run f nothing);
          probe = no-probe run f m nothing;
          passing = none-exactly (passed_line run f) (is_what is_of_passing) event (no-passed run f nothing lasts);
          closing = none-exactly (closing_line run f) (is_what is_closing_line) event (no-closing run f nothing lasts);
          barrier = no-barrier run f m nothing lawful.frames lawful.probes lasts;
        },
        lawful.unmonitorable,
      );
      confirmations = (
        tt,
        record {
          exact = none-exactly (confirmed_line run f) is_confirmed_line event (no-confirmed run f nothing);
          sound = tt;
          settled = none-exactly (settled_line run f) (is_what is_settled) event (no-settled run f nothing lasts);
          rejected = none-exactly (rejected_line run f) (is_what is_rejected) event (no-rejected run f nothing lasts);
        },
        lawful.confirmations,
      );
      stale = (tt, record { offers_alone = λ e. refl; skipped = tt }, lawful.stale);
      frames = order;
      replies = (whole.replies, tt, lawful.replies);
      offers = (whole.offers, tt, lawful.offers);
      ticks = (whole.ticks, no-silence run f (before_tick f) event, lawful.ticks);
      sessions = (
        whole.sessions,
        record {
          ends = none-ends run f (ended_by run f) event (no-end run f nothing lasts);
          closed = none-exactly (closed_line run f) is_closed_line event (no-closed run f nothing lasts);
          armed = none-exactly (armed_line run f) is_armed_line event (no-armed run f nothing lasts);
          silent = tt;
        },
        lasts,
      );
      watches = (
        whole.watches,
        record {
          offer = tt;
          seen = none-exactly (seen_line run f) (is_watch_line is_seen) event (no-seen run f nothing);
          unwatchable = none-exactly (unwatchable_line run f) (is_watch_line is_unwatchable) event (no-unwatchable run f nothing);
          missing = none-missing run f (before_tick f) event;
        },
        lawful.watches,
      );
      sides = frames-go-on run (m ∷ f) order probes;
    }
