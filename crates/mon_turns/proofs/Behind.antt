-- What follows directly behind an answer, a frame that passes an edit, a report, and the reply to an own barrier.
use Rattle.std.proofs.Common.{◌≡◌, ℕ, ◌+◌, Bool, true, false, cond, not, ◌&&◌, List, [], ◌∷◌, ◌++◌, drop, Option, Some, None, option_map, refl, sym, ap, subst, ◌∙◌}
use Rattle.std.specs.Prelude.{◌==◌, option_and_then}
use Rattle.std.proofs.lemmas.Bool.{false≢true}
use Rattle.mon_table.specs.declared.rule.Rule.{Rule}
use Rattle.mon_table.specs.declared.edit.Edit.{Edit}
use Rattle.mon_report.specs.declared.line.Line.{Line as ReportLine}
use Rattle.mon_report.specs.declared.line.Line.TheVariants.{Fact, Confirmed, Watch}
use Rattle.mon_report.specs.declared.line.Line.TheVariants as line
use Rattle.mon_report.specs.declared.line.What.TheVariants as what
use Rattle.mon_report.specs.declared.line.WatchWhat.TheVariants as watch_what
use Rattle.mon_report.specs.declared.line.Cause.TheVariants as causes
use Rattle.mon_world.specs.declared.event.Side.TheVariants.{Controller, Switch}
use Rattle.mon_world.specs.declared.event.Event.TheVariants.{Opened, Closed}
use Rattle.mon_world.specs.declared.event.Kind.{Kind}
use Rattle.mon_world.specs.declared.event.Kind.TheVariants as kind
use Rattle.mon_world.specs.declared.event.Note.TheVariants.{Offer, Verdict, Probe, Report}
use Rattle.mon_world.specs.declared.history.Entry.TheVariants.{Given, Noted, Put, End}
use Rattle.mon_legal.specs.Runs.{Run}
use Rattle.mon_legal.specs.Changing.{only}
use Rattle.mon_legal.specs.Owns.{Own}
use Rattle.mon_legal.specs.Owns.Own.{Judged, Reports, Sends}
use Rattle.mon_legal.specs.Messages.{own_barrier}
use Rattle.mon_legal.specs.Barriers.{edit_out, is_edit, count, is_barriered}
use Rattle.mon_legal.specs.Edits.{expected, find_passed, changes_nothing}
use Rattle.mon_legal.specs.Ties.{tie}
use Rattle.mon_legal.specs.Datapaths.{catching}
use Rattle.mon_legal.specs.Watching.{Watch as Watched_rule, watch, line_of}
use Rattle.mon_legal.specs.Directly.{Due, owed, on_edit, on_judged, fact, told, is_closing, is_over, job_stands, rule_of_watch}
use Rattle.mon_legal.specs.Directly.Due.{Frame, Tells, Probing}
use Rattle.mon_legal.specs.Moments.{Moment}
use Rattle.mon_legal.specs.Moments.Moment.{Is, Went, Came, Broke, Did}
use Rattle.mon_legal.specs.Jobs.{Job, job_of}
use Rattle.mon_legal.specs.Sessions.{part, parts_of, is_open, if_open, judged_as, judged_if, version, session_in, hears}
use Rattle.mon_legal.specs.Ordering.{Next, next, first_due, due_of}
use Rattle.mon_legal.specs.Ordering.Next.{Meets}
use Rattle.mon_legal.specs.Answers.{is_current, current, current_in}
use Rattle.mon_legal.specs.Passing.{Comes, FramesGoInOrder}
use Rattle.mon_legal.specs.Reports.{is_what, is_of_passing, is_indistinguishable, is_watch_line, is_unwatchable}
use Rattle.mon_legal.specs.Unmonitorable.{answered_line, answer_line, passed_line, passing_line, ProbeFollows, BearsProbe, BarrierFollows, Unless, IsOwnBarrier}
use Rattle.mon_legal.specs.Watches.{unwatchable_line, unwatchable_for}
use Rattle.mon_legal.proofs.Coming.{some-same}
use Rattle.mon_legal.proofs.Fitting.{all-fit, quiet-at, next-meets}
use Rattle.mon_turns.specs.Laws.{AnswersAreFollowed, EditsAreFollowed, BarriersFollow}
use Rattle.mon_turns.proofs.Born.{same-number, turned}
use Rattle.mon_turns.proofs.Seeing.{put-own, told-own}
use Rattle.mon_turns.proofs.Dues.{is_late, well-owed}
use Rattle.mon_turns.proofs.Leads.{Sort, sort_of, is_closed, is_end, from_answer, from_passing, from_frame, behind-none, first-or-late, confirmed-next}
use Rattle.mon_turns.proofs.Live.{all-live, room-before}
use Rattle.mon_turns.proofs.Asked.{asks-answer, asks-probe, asks-unwatchable, asks-passed, barrier-next}
use Rattle.mon_turns.proofs.Alone.{CausedBy, is_alone, stays-first, its-line, hears-due}
use Rattle.mon_turns.proofs.Causes.{alone, Meeting, meeting, report-met}
use Rattle.mon_turns.proofs.Causes.Meeting.{By_due, By_loss}
use Rattle.mon_turns.proofs.Lasts.{Ready, came_open, exactly, now-open, not-from}

-- answers ----------------------------------------------------------------------------------------

fresh-stands : (fresh stands : Bool) (dues : List Due) (d : Due) → first_due (cond (fresh && stands) dues []) ≡ Some d → (true && (stands && fresh) ≡ true) × (first_due dues ≡ Some d)
fresh-stands true true dues d e = (refl, e)
fresh-stands true false dues d e = absurd (let g : None ≡ Some d = e in cc)
fresh-stands false stands dues d e = absurd (let g : None ≡ Some d = e in cc)

-- an answer that makes something due is current
judged-own-now : (run : Run) (f : List Moment) (number : ℕ) (kind : Kind) (j : Job) (d : Due) → job_of number f ≡ Some j → first_due (owed run j.session (part run j.session f)) ≡ None
    → due_of run (Is (Noted (Verdict number kind)) ∷ f) j.session ≡ Some d
    → (is_current run f j ≡ true) × (first_due (on_judged run j.session (part run j.session f) j.number j.edit kind) ≡ Some d)
judged-own-now run f number kind j d is q e =
    let P = parts_of run f in
    let s = j.session in
    let p = part run s f in
    let fresh = j.version == version run s f in
    let own : part run s (Is (Noted (Verdict number kind)) ∷ f) ≡ only (is_open p) (Judged j.number j.edit kind fresh ∷ []) ++ p =
    ap (λ (o : Option Job). if_open P s (judged_as run P s f o kind) ++ p) is ∙ ap (λ (b : Bool). if_open P s (judged_if b run P f j kind) ++ p) (same-number s) in
    elim (is_open p) as (λ b. first_due (owed run s (only b (Judged j.number j.edit kind fresh ∷ []) ++ p)) ≡ Some d
    → (b && (job_stands run p j.number j.edit && fresh) ≡ true) × (first_due (on_judged run s p j.number j.edit kind) ≡ Some d)) [
      | true ↦ λ g.
          let first = behind-none (cond (fresh && job_stands run p j.number j.edit) (on_judged run s p j.number j.edit kind) []) (owed run s p) d q g in
          fresh-stands fresh (job_stands run p j.number j.edit) (on_judged run s p j.number j.edit kind) d first
      | false ↦ λ g. absurd (let h : None ≡ Some d = sym q ∙ g in cc)
    ] (ap (λ (seen : List Own). first_due (owed run s seen)) (sym own) ∙ e)

judged-now : (run : Run) (f : List Moment) (number : ℕ) (kind : Kind) (j : Job) (s : ℕ) (d : Due) → job_of number f ≡ Some j → j.session ≡ s → FramesGoInOrder run (Is (Noted (Verdict number kind)) ∷ f)
    → due_of run (Is (Noted (Verdict number kind)) ∷ f) s ≡ Some d
    → (current run f number ≡ Some j) × (first_due (on_judged run j.session (part run j.session f) j.number j.edit kind) ≡ Some d)
judged-now run f number kind j s d is same order e =
    let now = judged-own-now run f number kind j d is (quiet-at run j.session f (Is (Noted (Verdict number kind))) refl order.1)
    (subst (λ (n : ℕ). due_of run (Is (Noted (Verdict number kind)) ∷ f) n ≡ Some d) (sym same) e) in
    (ap (current_in run f) is ∙ ap (λ (b : Bool). cond b (Some j) None) now.0, now.1)

answer-lone : (o : Option Job) (k : Kind) (l : ReportLine) → answer_line o k ≡ Some l → is_alone (sort_of (Tells l)) ≡ true
answer-lone (Some j) kind.Indistinguishable l e =
    elim (j.edit == 0) as (λ b. cond b None (Some (Fact j.session j.edit what.Indistinguishable)) ≡ Some l → is_alone (sort_of (Tells l)) ≡ true) [
      | true ↦ λ g. absurd (let h : None ≡ Some l = g in cc)
      | false ↦ λ g. subst (λ (x : ReportLine). is_alone (sort_of (Tells x)) ≡ true) (some-same (Fact j.session j.edit what.Indistinguishable) l g) refl
    ] e
answer-lone (Some j) kind.Probe l e = absurd (let g : None ≡ Some l = e in cc)
answer-lone (Some j) kind.Skipped l e = absurd (let g : None ≡ Some l = e in cc)
answer-lone None k l e = absurd (let g : None ≡ Some l = e in cc)

answer-due : (run : Run) (f : List Moment) (l : ReportLine) → answered_line run f ≡ Some l → (s : ℕ) × (due_of run f s ≡ Some (Tells l)) × (is_alone (sort_of (Tells l)) ≡ true)
answer-due run (Is (Noted (Verdict number k)) ∷ f) l e =
    elim (current run f number) as (λ o. current run f number ≡ o → answer_line o k ≡ Some l
    → (s : ℕ) × (due_of run (Is (Noted (Verdict number k)) ∷ f) s ≡ Some (Tells l)) × (is_alone (sort_of (Tells l)) ≡ true)) [
      | None ↦ λ c g. absurd (let h : None ≡ Some l = g in cc)
      | Some j ↦ λ c g. (j.session, asks-answer run f number k j l c g, answer-lone (Some j) k l g)
    ] refl e
answer-due run [] l e = absurd (let g : None ≡ Some l = e in cc)
answer-due run (m ∷ f) l e = absurd (let g : None ≡ Some l = e in cc)

abbrev pub is_tells : Due → Bool
is_tells (Tells l) = true
is_tells d = false

abbrev line_in_due : Due → ReportLine
line_in_due (Tells l) = l
line_in_due d = line.Closed 0 causes.Lost

told-watch : (s : ℕ) (o : Option Rule) (l : ReportLine) → first_due (told s None watch_what.Unwatchable o) ≡ Some (Tells l) → is_what is_indistinguishable l ≡ true → ⊥
told-watch s None l e y = let g : None ≡ Some (Tells l) = e in cc
told-watch s (Some r) l e y = false≢true (ap (is_what is_indistinguishable) (ap line_in_due (some-same (Tells (line_of s r None watch_what.Unwatchable)) (Tells l) e)) ∙ y)

-- what an answer tells, told from what is due behind it
told-answer : (run : Run) (s : ℕ) (before : List Own) (j : Job) (k : Kind) (l : ReportLine) → first_due (on_judged run s before j.number j.edit k) ≡ Some (Tells l)
    → is_what is_indistinguishable l ≡ true → answer_line (Some j) k ≡ None → ⊥
told-answer run s before j kind.Probe l e y n = false≢true (ap is_tells (some-same (Probing j.number j.edit) (Tells l) e))
told-answer run s before j kind.Skipped l e y n = let g : None ≡ Some (Tells l) = e in cc
told-answer run s before j kind.Indistinguishable l e y n =
    elim (j.edit == 0) as (λ b. first_due (cond b (told s None watch_what.Unwatchable (rule_of_watch (watch run before))) (fact s j.edit what.Indistinguishable ∷ Frame Switch own_barrier ∷ [])) ≡ Some (Tells l)
    → cond b None (Some (Fact j.session j.edit what.Indistinguishable)) ≡ None → ⊥) [
      | true ↦ λ g h. told-watch s (rule_of_watch (watch run before)) l g y
      | false ↦ λ g h. let z : Some (Fact j.session j.edit what.Indistinguishable) ≡ None = h in cc
    ] e n

what-sort : (l : ReportLine) → is_what is_indistinguishable l ≡ true → sort_of (Tells l) ≡ Sort.Indistinguishable
what-sort (Fact s k what.Indistinguishable) e = refl
what-sort (Fact s k w) e = absurd (false≢true e)
what-sort l e = absurd (false≢true e)

what-lone : (l : ReportLine) → is_what is_indistinguishable l ≡ true → is_alone (sort_of (Tells l)) ≡ true
what-lone l e = ap is_alone (what-sort l e)

no-answer : (run : Run) (f : List Moment) (l : ReportLine) (q : ℕ) → FramesGoInOrder run f → is_what is_indistinguishable l ≡ true → CausedBy run f q (Tells l) → due_of run f q ≡ Some (Tells l)
    → answered_line run f ≡ None → ⊥
no-answer run [] l q order y by d e = by
no-answer run (Is (Given Opened) ∷ f) l q order y by d e = not-from is_end (sort_of (Tells l)) Sort.Indistinguishable (what-sort l y) refl by.1
no-answer run (Is (Given (Closed r)) ∷ f) l q order y by d e = not-from is_end (sort_of (Tells l)) Sort.Indistinguishable (what-sort l y) refl by.2
no-answer run (Is (Noted (Verdict number k)) ∷ f) l q order y by d e =
    let now = judged-now run f number k by.0 q (Tells l) by.1 by.2 order d in
    told-answer run by.0.session (part run by.0.session f) by.0 k l now.1 y (ap (λ (o : Option Job). answer_line o k) (sym now.0) ∙ e)
no-answer run (Is (Put r to frame lost) ∷ f) l q order y by d e = not-from from_passing (sort_of (Tells l)) Sort.Indistinguishable (what-sort l y) refl by.2
no-answer run (Is (End r) ∷ f) l q order y by d e = not-from is_closed (sort_of (Tells l)) Sort.Indistinguishable (what-sort l y) refl by.1
no-answer run (Came r side frame ∷ f) l q order y by d e = not-from from_frame (sort_of (Tells l)) Sort.Indistinguishable (what-sort l y) refl by.2
no-answer run (Broke r side fault ∷ f) l q order y by d e = not-from is_end (sort_of (Tells l)) Sort.Indistinguishable (what-sort l y) refl by.1
no-answer run (Is (Given event) ∷ f) l q order y by d e = by
no-answer run (Is (Noted (Offer job r k v)) ∷ f) l q order y by d e = by
no-answer run (Is (Noted (Probe serial number x)) ∷ f) l q order y by d e = by
no-answer run (Is (Noted (Report k)) ∷ f) l q order y by d e = by
no-answer run (Went r serial near frame lost ∷ f) l q order y by d e = by
no-answer run (Did r act ∷ f) l q order y by d e = by

-- the same of a watch
watch-lone : (o : Option Watched_rule) (s : ℕ) (l : ReportLine) → option_map (λ w. line_of s w.rule None watch_what.Unwatchable) o ≡ Some l → is_alone (sort_of (Tells l)) ≡ true
watch-lone None s l e = absurd (let g : None ≡ Some l = e in cc)
watch-lone (Some w) s l e = subst (λ (x : ReportLine). is_alone (sort_of (Tells x)) ≡ true) (some-same (line_of s w.rule None watch_what.Unwatchable) l e) refl

unwatchable-lone : (run : Run) (f : List Moment) (o : Option Job) (k : Kind) (l : ReportLine) → unwatchable_for run f o k ≡ Some l → is_alone (sort_of (Tells l)) ≡ true
unwatchable-lone run f (Some j) kind.Indistinguishable l e =
    elim (j.edit == 0) as (λ b. cond b (option_map (λ w. line_of j.session w.rule None watch_what.Unwatchable) (watch run (part run j.session f))) None ≡ Some l → is_alone (sort_of (Tells l)) ≡ true) [
      | true ↦ λ g. watch-lone (watch run (part run j.session f)) j.session l g
      | false ↦ λ g. absurd (let h : None ≡ Some l = g in cc)
    ] e
unwatchable-lone run f (Some j) kind.Probe l e = absurd (let g : None ≡ Some l = e in cc)
unwatchable-lone run f (Some j) kind.Skipped l e = absurd (let g : None ≡ Some l = e in cc)
unwatchable-lone run f None k l e = absurd (let g : None ≡ Some l = e in cc)

unwatchable-due : (run : Run) (f : List Moment) (l : ReportLine) → unwatchable_line run f ≡ Some l → (s : ℕ) × (due_of run f s ≡ Some (Tells l)) × (is_alone (sort_of (Tells l)) ≡ true)
unwatchable-due run (Is (Noted (Verdict number k)) ∷ f) l e =
    elim (current run f number) as (λ o. current run f number ≡ o → unwatchable_for run f o k ≡ Some l
    → (s : ℕ) × (due_of run (Is (Noted (Verdict number k)) ∷ f) s ≡ Some (Tells l)) × (is_alone (sort_of (Tells l)) ≡ true)) [
      | None ↦ λ c g. absurd (let h : None ≡ Some l = g in cc)
      | Some j ↦ λ c g. (j.session, asks-unwatchable run f number k j l c g, unwatchable-lone run f (Some j) k l g)
    ] refl e
unwatchable-due run [] l e = absurd (let g : None ≡ Some l = e in cc)
unwatchable-due run (m ∷ f) l e = absurd (let g : None ≡ Some l = e in cc)

unwatched-none : (s r : ℕ) (o : Option Watched_rule) (l : ReportLine) → first_due (told s None watch_what.Unwatchable (rule_of_watch o)) ≡ Some (Tells l)
    → option_map (λ w. line_of r w.rule None watch_what.Unwatchable) o ≡ None → ⊥
unwatched-none s r None l e n = let g : None ≡ Some (Tells l) = e in cc
unwatched-none s r (Some w) l e n = let g : Some (line_of r w.rule None watch_what.Unwatchable) ≡ None = n in cc

told-unwatchable : (run : Run) (f : List Moment) (j : Job) (k : Kind) (l : ReportLine) → first_due (on_judged run j.session (part run j.session f) j.number j.edit k) ≡ Some (Tells l)
    → is_watch_line is_unwatchable l ≡ true → unwatchable_for run f (Some j) k ≡ None → ⊥
told-unwatchable run f j kind.Probe l e y n = false≢true (ap is_tells (some-same (Probing j.number j.edit) (Tells l) e))
told-unwatchable run f j kind.Skipped l e y n = let g : None ≡ Some (Tells l) = e in cc
told-unwatchable run f j kind.Indistinguishable l e y n =
    let s = j.session in
    let w = watch run (part run s f) in
    elim (j.edit == 0) as (λ b. first_due (cond b (told s None watch_what.Unwatchable (rule_of_watch w)) (fact s j.edit what.Indistinguishable ∷ Frame Switch own_barrier ∷ [])) ≡ Some (Tells l)
    → cond b (option_map (λ x. line_of s x.rule None watch_what.Unwatchable) w) None ≡ None → ⊥) [
      | true ↦ λ g h. unwatched-none s s w l g h
      | false ↦ λ g h. false≢true (ap (is_watch_line is_unwatchable) (ap line_in_due (some-same (fact s j.edit what.Indistinguishable) (Tells l) g)) ∙ y)
    ] e n

unwatchable-sort : (l : ReportLine) → is_watch_line is_unwatchable l ≡ true → sort_of (Tells l) ≡ Sort.Unwatchable
unwatchable-sort (Watch s m p n watch_what.Unwatchable) e = refl
unwatchable-sort (Watch s m p n w) e = absurd (false≢true e)
unwatchable-sort l e = absurd (false≢true e)

no-unwatchable : (run : Run) (f : List Moment) (l : ReportLine) (q : ℕ) → FramesGoInOrder run f → is_watch_line is_unwatchable l ≡ true → CausedBy run f q (Tells l) → due_of run f q ≡ Some (Tells l)
    → unwatchable_line run f ≡ None → ⊥
no-unwatchable run [] l q order y by d e = by
no-unwatchable run (Is (Given Opened) ∷ f) l q order y by d e = not-from is_end (sort_of (Tells l)) Sort.Unwatchable (unwatchable-sort l y) refl by.1
no-unwatchable run (Is (Given (Closed r)) ∷ f) l q order y by d e = not-from is_end (sort_of (Tells l)) Sort.Unwatchable (unwatchable-sort l y) refl by.2
no-unwatchable run (Is (Noted (Verdict number k)) ∷ f) l q order y by d e =
    let now = judged-now run f number k by.0 q (Tells l) by.1 by.2 order d in
    told-unwatchable run f by.0 k l now.1 y (ap (λ (o : Option Job). unwatchable_for run f o k) (sym now.0) ∙ e)
no-unwatchable run (Is (Put r to frame lost) ∷ f) l q order y by d e = not-from from_passing (sort_of (Tells l)) Sort.Unwatchable (unwatchable-sort l y) refl by.2
no-unwatchable run (Is (End r) ∷ f) l q order y by d e = not-from is_closed (sort_of (Tells l)) Sort.Unwatchable (unwatchable-sort l y) refl by.1
no-unwatchable run (Came r side frame ∷ f) l q order y by d e = not-from from_frame (sort_of (Tells l)) Sort.Unwatchable (unwatchable-sort l y) refl by.2
no-unwatchable run (Broke r side fault ∷ f) l q order y by d e = not-from is_end (sort_of (Tells l)) Sort.Unwatchable (unwatchable-sort l y) refl by.1
no-unwatchable run (Is (Given event) ∷ f) l q order y by d e = by
no-unwatchable run (Is (Noted (Offer job r k v)) ∷ f) l q order y by d e = by
no-unwatchable run (Is (Noted (Probe serial number x)) ∷ f) l q order y by d e = by
no-unwatchable run (Is (Noted (Report k)) ∷ f) l q order y by d e = by
no-unwatchable run (Went r serial near frame lost ∷ f) l q order y by d e = by
no-unwatchable run (Did r act ∷ f) l q order y by d e = by

-- a current answer with a probe is followed by its note
probe-behind : (run : Run) (f : List Moment) (number : ℕ) (k : Kind) (o : Option Job) (m : Moment) → Ready run (Is (Noted (Verdict number k)) ∷ f) → Comes run (Is (Noted (Verdict number k)) ∷ f) (next run (Is (Noted (Verdict number k)) ∷ f)) m
    → current run f number ≡ o → BearsProbe o k m
probe-behind run f number kind.Probe (Some j) m ready c e =
    let g = Is (Noted (Verdict number kind.Probe)) ∷ f in
    let met = subst (λ (n : Next). Comes run g n m) (alone run g ready.room ready.order ready.probes j.session (Probing j.number j.edit) (asks-probe run f number j e) refl).next_is c in
    subst (BearsProbe (Some j) kind.Probe) (sym met.1) refl
probe-behind run f number kind.Indistinguishable (Some j) m ready c e = tt
probe-behind run f number kind.Skipped (Some j) m ready c e = tt
probe-behind run f number k None m ready c e = tt

probe-follows : (run : Run) (f : List Moment) (m : Moment) → Ready run f → FramesGoInOrder run (m ∷ f) → ProbeFollows run f m
probe-follows run (Is (Noted (Verdict number k)) ∷ f) m ready order = probe-behind run f number k (current run f number) m ready order.1 refl
probe-follows run f m ready order = tt

pub answers-are-followed : AnswersAreFollowed
answers-are-followed run f m room order probes =
    let ready : Ready run f = record { room = room-before run m f room; order = order.2; probes = probes.2 } in (
      exactly (answered_line run f) (is_what is_indistinguishable) run f m ready order (answer-due run f) what-lone (λ l q y by d e. no-answer run f l q order.2 y by d e),
      exactly (unwatchable_line run f) (is_watch_line is_unwatchable) run f m ready order (unwatchable-due run f) (λ l y. ap is_alone (unwatchable-sort l y))
          (λ l q y by d e. no-unwatchable run f l q order.2 y by d e),
      probe-follows run f m ready order,
    )

-- edits ------------------------------------------------------------------------------------------------

passing-lone : (s k : ℕ) (t : List Rule) (b : Bool) (o : Option Edit) (l : ReportLine) → cond b (option_and_then (passing_line s k t) o) None ≡ Some l → is_alone (sort_of (Tells l)) ≡ true
passing-lone s k t false o l e = absurd (let g : None ≡ Some l = e in cc)
passing-lone s k t true None l e = absurd (let g : None ≡ Some l = e in cc)
passing-lone s k t true (Some x) l e =
    elim (changes_nothing x) as (λ b. cond b (Some (Fact s k what.NoChange)) (cond (tie t x) (Some (Fact s k what.Overlap)) None) ≡ Some l → is_alone (sort_of (Tells l)) ≡ true) [
      | true ↦ λ g. subst (λ (y : ReportLine). is_alone (sort_of (Tells y)) ≡ true) (some-same (Fact s k what.NoChange) l g) refl
      | false ↦ λ g.
          elim (tie t x) as (λ b. cond b (Some (Fact s k what.Overlap)) None ≡ Some l → is_alone (sort_of (Tells l)) ≡ true) [
            | true ↦ λ h. subst (λ (y : ReportLine). is_alone (sort_of (Tells y)) ≡ true) (some-same (Fact s k what.Overlap) l h) refl
            | false ↦ λ h. absurd (let q : None ≡ Some l = h in cc)
          ] g
    ] e

passed-due : (run : Run) (f : List Moment) (l : ReportLine) → came_open run f → passed_line run f ≡ Some l → (s : ℕ) × (due_of run f s ≡ Some (Tells l)) × (is_alone (sort_of (Tells l)) ≡ true)
passed-due run (Is (Put s Switch frame lost) ∷ f) l there e =
    let p = part run s f in (
      s,
      asks-passed run f s frame lost l there e,
      passing-lone s (count p + 1) (expected (catching run p) (part run s (Is (Put s Switch frame lost) ∷ f))) (is_edit p && not (is_closing p)) (edit_out p) l e,
    )
passed-due run [] l there e = absurd (let g : None ≡ Some l = e in cc)
passed-due run (m ∷ f) l there e = absurd (let g : None ≡ Some l = e in cc)

passing-none : (s k : ℕ) (t : List Rule) (b : Bool) (o : Option Edit) (d : Due) → first_due (cond b (on_edit s k t o) []) ≡ Some d → cond b (option_and_then (passing_line s k t) o) None ≡ None → ⊥
passing-none s k t false o d e n = let g : None ≡ Some d = e in cc
passing-none s k t true None d e n = let g : None ≡ Some d = e in cc
passing-none s k t true (Some x) d e n =
    elim (changes_nothing x) as (λ b. first_due (cond b (fact s k what.NoChange ∷ []) (cond (tie t x) (fact s k what.Overlap ∷ Frame Switch own_barrier ∷ []) [])) ≡ Some d
    → cond b (Some (Fact s k what.NoChange)) (cond (tie t x) (Some (Fact s k what.Overlap)) None) ≡ None → ⊥) [
      | true ↦ λ g h. let z : Some (Fact s k what.NoChange) ≡ None = h in cc
      | false ↦ λ g h.
          elim (tie t x) as (λ b. first_due (cond b (fact s k what.Overlap ∷ Frame Switch own_barrier ∷ []) []) ≡ Some d → cond b (Some (Fact s k what.Overlap)) None ≡ None → ⊥) [
            | true ↦ λ p q. let z : Some (Fact s k what.Overlap) ≡ None = q in cc
            | false ↦ λ p q. let z : None ≡ Some d = p in cc
          ] g h
    ] e n

passing-sort : (l : ReportLine) → is_what is_of_passing l ≡ true → sort_of (Tells l) ≡ Sort.Of_passing
passing-sort (Fact s k what.NoChange) e = refl
passing-sort (Fact s k what.Overlap) e = refl
passing-sort (Fact s k w) e = absurd (false≢true e)
passing-sort l e = absurd (false≢true e)

passing-first : (l : ReportLine) → is_what is_of_passing l ≡ true → is_late (Tells l) ≡ false
passing-first (Fact s k what.NoChange) e = refl
passing-first (Fact s k what.Overlap) e = refl
passing-first (Fact s k w) e = absurd (false≢true e)
passing-first l e = absurd (false≢true e)

none-passed : (run : Run) (f : List Moment) (s : ℕ) (frame : List ℕ) (lost : Bool) (l : ReportLine) → Ready run f → is_open (part run s f) ≡ true → is_what is_of_passing l ≡ true
    → due_of run (Is (Put s Switch frame lost) ∷ f) s ≡ Some (Tells l) → passed_line run (Is (Put s Switch frame lost) ∷ f) ≡ None → ⊥
none-passed run f s frame lost l ready there y d e =
    let p = part run s f in
    let own = put-own run f s Switch frame lost there in
    let test = is_edit p && not (is_closing p) in
    let t = expected (catching run p) (Sends Switch frame lost ∷ p) in
    passing-none s (count p + 1) t test (edit_out p) (Tells l)
    (first-or-late (cond test (on_edit s (count p + 1) t (edit_out p)) []) (drop 1 (owed run s p)) (Tells l)
    (well-owed run s p (all-fit run f ready.order ready.probes s)).late (ap (λ (seen : List Own). first_due (owed run s seen)) (sym own) ∙ d) (passing-first l y))
    (subst (λ (seen : List Own). cond test (option_and_then (passing_line s (count p + 1) (expected (catching run p) seen)) (edit_out p)) None ≡ None) own e)

no-passed : (run : Run) (f : List Moment) (l : ReportLine) (q : ℕ) → Ready run f → came_open run f → is_what is_of_passing l ≡ true → CausedBy run f q (Tells l) → due_of run f q ≡ Some (Tells l)
    → passed_line run f ≡ None → ⊥
no-passed run [] l q ready there y by d e = by
no-passed run (Is (Given Opened) ∷ f) l q ready there y by d e = not-from is_end (sort_of (Tells l)) Sort.Of_passing (passing-sort l y) refl by.1
no-passed run (Is (Given (Closed r)) ∷ f) l q ready there y by d e = not-from is_end (sort_of (Tells l)) Sort.Of_passing (passing-sort l y) refl by.2
no-passed run (Is (Noted (Verdict number k)) ∷ f) l q ready there y by d e = not-from from_answer (sort_of (Tells l)) Sort.Of_passing (passing-sort l y) refl by.3
no-passed run (Is (Put r Switch frame lost) ∷ f) l q ready there y by d e =
    none-passed run f r frame lost l (record { room = ready.room; order = ready.order.2; probes = ready.probes.2 }) there y
    (subst (λ (n : ℕ). due_of run (Is (Put r Switch frame lost) ∷ f) n ≡ Some (Tells l)) (sym by.0) d) e
no-passed run (Is (Put r Controller frame lost) ∷ f) l q ready there y by d e = let g : Controller ≡ Switch = by.1 in cc
no-passed run (Is (End r) ∷ f) l q ready there y by d e = not-from is_closed (sort_of (Tells l)) Sort.Of_passing (passing-sort l y) refl by.1
no-passed run (Came r side frame ∷ f) l q ready there y by d e = not-from from_frame (sort_of (Tells l)) Sort.Of_passing (passing-sort l y) refl by.2
no-passed run (Broke r side fault ∷ f) l q ready there y by d e = not-from is_end (sort_of (Tells l)) Sort.Of_passing (passing-sort l y) refl by.1
no-passed run (Is (Given event) ∷ f) l q ready there y by d e = by
no-passed run (Is (Noted (Offer job r k v)) ∷ f) l q ready there y by d e = by
no-passed run (Is (Noted (Probe serial number x)) ∷ f) l q ready there y by d e = by
no-passed run (Is (Noted (Report k)) ∷ f) l q ready there y by d e = by
no-passed run (Went r serial near frame lost ∷ f) l q ready there y by d e = by
no-passed run (Did r act ∷ f) l q ready there y by d e = by

pub edits-are-followed : EditsAreFollowed
edits-are-followed run f m room order probes goes =
    let before = room-before run m f room in
    let ready : Ready run f = record { room = before; order = order.2; probes = probes.2 } in
    let there = now-open run f before order.2 probes.2 goes in
    exactly (passed_line run f) (is_what is_of_passing) run f m ready order (λ l e. passed-due run f l there e) (λ l y. ap is_alone (passing-sort l y))
    (λ l q y by d e. no-passed run f l q ready there y by d e)

-- barriers ----------------------------------------------------------------------------------------------

unless-then : (b : Bool) (A : Type 0) → (b ≡ true → A) → Unless b A
unless-then true A k = k refl
unless-then false A k = tt

heard-not : (b h : Bool) (l : ReportLine) (p : List Own) → b ≡ false → only (b && h) (Reports l ∷ []) ++ [] ++ p ≡ p
heard-not true h l p e = absurd (false≢true (sym e))
heard-not false h l p e = refl

report-other : (run : Run) (f : List Moment) (l : ReportLine) (t : ℕ) → (session_in l == t) ≡ false → part run t (Is (Noted (Report l)) ∷ f) ≡ part run t f
report-other run f l t e = heard-not (session_in l == t) (hears l (part run t f)) l (part run t f) e

-- the report that came was the first of what was due, and what is due behind it comes next
report-then : (run : Run) (f : List Moment) (l : ReportLine) (d : Due) (m : Moment) → Ready run (Is (Noted (Report l)) ∷ f) → FramesGoInOrder run (m ∷ Is (Noted (Report l)) ∷ f)
    → Meeting run f (next run f) (Is (Noted (Report l))) → ((s : ℕ) → first_due (owed run s (part run s f)) ≡ Some (Tells l) → first_due (drop 1 (owed run s (part run s f))) ≡ Some d)
    → Comes run (Is (Noted (Report l)) ∷ f) (Meets (session_in l) d) m
report-then run f l d m ready order (By_loss q is c) k = absurd (let g : Is (Noted (Report l)) ≡ Is (End q) = c in cc)
report-then run f l d m ready order (By_due q due is c) k =
    let g = Is (Noted (Report l)) ∷ f in
    let told : due ≡ Tells l = report-met run f q due l c in
    let first : first_due (owed run q (part run q f)) ≡ Some (Tells l) = next-meets run f q due is ∙ ap (λ (x : Due). Some x) told in
    let its : session_in l ≡ q = its-line run q (part run q f) l first in
    let s = session_in l in
    let first_its = subst (λ (n : ℕ). first_due (owed run n (part run n f)) ≡ Some (Tells l)) (sym its) first in
    let heard = hears-due run s (part run s f) l (all-fit run f ready.order.2 ready.probes.2 s) (all-live run f ready.room s) first_its in
    let own = told-own run f l heard in
    let after : due_of run g s ≡ Some d = ap (λ (seen : List Own). first_due (owed run s seen)) own ∙ k s first_its in
    subst (λ (n : Next). Comes run g n m)
    (stays-first run f (Is (Noted (Report l))) s due d refl (is ∙ ap (λ (n : ℕ). Meets n due) (sym its)) after (λ t x. ap (λ (seen : List Own). first_due (owed run t seen)) (report-other run f l t (turned t s x)))) order.1

own-put : (run : Run) (f : List Moment) (s : ℕ) (m : Moment) → Comes run f (Meets s (Frame Switch own_barrier)) m → IsOwnBarrier s m
own-put run f s m c = subst (IsOwnBarrier s) (sym c.1) (refl, refl)

barrier-behind : (run : Run) (f : List Moment) (m : Moment) → Ready run f → FramesGoInOrder run (m ∷ f) → came_open run f → BarrierFollows run f m
barrier-behind run (Is (Noted (Report (Fact s k w))) ∷ f) m ready order there =
    let l = Fact s k w in
    let g = Is (Noted (Report l)) ∷ f in
    unless-then (is_barriered w) (IsOwnBarrier s m) (λ y.
    own-put run g s m (report-then run f l (Frame Switch own_barrier) m ready order (meeting run f (next run f) (Is (Noted (Report l))) refl ready.order.1)
    (λ q e. barrier-next s k w (owed run q (part run q f)) (well-owed run q (part run q f) (all-fit run f ready.order.2 ready.probes.2 q)).followed e y)))
barrier-behind run (Is (Noted (Report (Confirmed s k n))) ∷ f) m ready order there =
    let l = Confirmed s k n in
    let g = Is (Noted (Report l)) ∷ f in
    unless-then (is_over (find_passed k (part run s f))) (IsOwnBarrier s m) (λ y.
    own-put run g s m (report-then run f l (Frame Switch own_barrier) m ready order (meeting run f (next run f) (Is (Noted (Report l))) refl ready.order.1)
    (λ q e.
    let same : s ≡ q = its-line run q (part run q f) l e in
    confirmed-next run q s k n (part run q f) (all-fit run f ready.order.2 ready.probes.2 q) e (subst (λ (r : ℕ). is_over (find_passed k (part run r f)) ≡ true) same y))))
barrier-behind run f m ready order there = tt

pub barriers-follow : BarriersFollow
barriers-follow run f m room order probes goes =
    let before = room-before run m f room in
    barrier-behind run f m (record { room = before; order = order.2; probes = probes.2 }) order (now-open run f before order.2 probes.2 goes)
