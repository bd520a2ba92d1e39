-- An edit is told to be settled exactly where its own barrier is answered.
use Rattle.std.proofs.Common.{◌≡◌, ℕ, true, false, cond, not, ◌&&◌, List, [], ◌∷◌, ◌++◌, Option, Some, None, refl, sym, ap, subst, ◌∙◌}
use Rattle.std.specs.Prelude.{◌==◌}
use Rattle.std.proofs.lemmas.Bool.{false≢true}
use Rattle.of_msgs.specs.Layout.{datapath_of}
use Rattle.mon_topo.specs.Tags.{tag_of}
use Rattle.mon_barriers.specs.declared.barriers.Asker.{Asker}
use Rattle.mon_barriers.specs.declared.barriers.Asker.TheVariants as asker
use Rattle.mon_report.specs.declared.line.Line.{Line as ReportLine}
use Rattle.mon_report.specs.declared.line.Line.TheVariants.{Fact, Armed}
use Rattle.mon_report.specs.declared.line.What.TheVariants as what
use Rattle.mon_report.specs.declared.line.Cause.{Cause}
use Rattle.mon_report.specs.declared.line.Cause.TheVariants as why
use Rattle.mon_world.specs.declared.event.Side.TheVariants.{Controller, Switch}
use Rattle.mon_world.specs.declared.event.Event.TheVariants.{Opened}
use Rattle.mon_world.specs.declared.event.Event.TheVariants as event
use Rattle.mon_world.specs.declared.event.Note.TheVariants.{Offer, Verdict, Probe, Report}
use Rattle.mon_world.specs.declared.history.Entry.TheVariants.{Given, Noted, Put, End}
use Rattle.mon_legal.specs.Runs.{Run}
use Rattle.mon_legal.specs.Owns.{Own}
use Rattle.mon_legal.specs.Messages.{is_barrier_reply, is_error, is_own_error, features_request, arming_frames}
use Rattle.mon_legal.specs.Barriers.{answered_by, own_edit, is_armed}
use Rattle.mon_legal.specs.Edits.{passed, rejected_by, is_unsettled}
use Rattle.mon_legal.specs.Datapaths.{datapath, from_switch}
use Rattle.mon_legal.specs.Directly.{Due, owed, on_switch, on_barrier, on_error, and_request, ends_or_arms, arming_of, armed_line, armed_with, frames_to, fact, is_own_reply, is_return, refused_reply, ends_in}
use Rattle.mon_legal.specs.Directly.Due.{Frame, Tells, Ending}
use Rattle.mon_legal.specs.Moments.{Moment}
use Rattle.mon_legal.specs.Moments.Moment.{Is, Went, Came, Broke, Did}
use Rattle.mon_legal.specs.Sessions.{part}
use Rattle.mon_legal.specs.Ordering.{first_due, due_of}
use Rattle.mon_legal.specs.Confirming.{settled_line, settles}
use Rattle.mon_legal.specs.Reports.{is_what, is_settled}
use Rattle.mon_legal.proofs.Coming.{some-same}
use Rattle.mon_turns.specs.Laws.{SettlingsFollow}
use Rattle.mon_turns.proofs.Seeing.{taken_at}
use Rattle.mon_turns.proofs.Leads.{Sort, sort_of, is_closed, is_end, from_answer, from_passing, behind-none}
use Rattle.mon_turns.proofs.Live.{room-before}
use Rattle.mon_turns.proofs.Asked.{asks-settled}
use Rattle.mon_turns.proofs.Alone.{CausedBy, is_alone}
use Rattle.mon_turns.proofs.Behind.{is_tells}
use Rattle.mon_turns.proofs.Lasts.{came_open, now-open, exactly, not-from}

-- a line is due first of what a frame of the switch leads to --------------------------------------

abbrev line_of : Due → ReportLine
line_of (Tells l) = l
line_of d = Armed 0 0 0

other-due : {A : Type 0} (d : Due) (l : ReportLine) → is_tells d ≡ false → Some d ≡ Some (Tells l) → A
other-due d l n e = absurd (false≢true (sym n ∙ ap is_tells (some-same d (Tells l) e)))

other-line : {A : Type 0} (k l : ReportLine) → is_what is_settled k ≡ false → Some (Tells k) ≡ Some (Tells l) → is_what is_settled l ≡ true → A
other-line k l n e y = absurd (false≢true (sym n ∙ (ap (is_what is_settled) (ap line_of (some-same (Tells k) (Tells l) e)) ∙ y)))

behind-line : (dues : List Due) (l : ReportLine) → first_due (dues ++ Frame Switch features_request ∷ []) ≡ Some (Tells l) → first_due dues ≡ Some (Tells l)
behind-line [] l e = other-due (Frame Switch features_request) l refl e
behind-line (x ∷ dues) l e = e

requested-line : (before : List Own) (dues : List Due) (l : ReportLine) → first_due (and_request before dues) ≡ Some (Tells l) → first_due dues ≡ Some (Tells l)
requested-line before dues l e =
    elim ((from_switch before == 0) && not (ends_in dues)) as (λ b. first_due (cond b (dues ++ Frame Switch features_request ∷ []) dues) ≡ Some (Tells l) → first_due dues ≡ Some (Tells l)) [
      | true ↦ behind-line dues l
      | false ↦ λ g. g
    ] e

no-frames : {A : Type 0} (frames : List (List ℕ)) (l : ReportLine) → first_due (frames_to Switch frames) ≡ Some (Tells l) → A
no-frames [] l e = absurd (let g : None ≡ Some (Tells l) = e in cc)
no-frames (frame ∷ frames) l e = other-due (Frame Switch frame) l refl e

no-arming : {A : Type 0} (run : Run) (t : Option ℕ) (l : ReportLine) → first_due (arming_of run t) ≡ Some (Tells l) → A
no-arming run None l e = absurd (let g : None ≡ Some (Tells l) = e in cc)
no-arming run (Some t) l e = no-frames (arming_frames t run.in_use) l e

no-reply : {A : Type 0} (run : Run) (o : Option ℕ) (w : Option Cause) (l : ReportLine) → first_due (ends_or_arms run o w) ≡ Some (Tells l) → A
no-reply run o (Some c) l e = other-due (Ending c) l refl e
no-reply run None None l e = absurd (let g : None ≡ Some (Tells l) = e in cc)
no-reply run (Some n) None l e = no-arming run (tag_of n run.given) l e

no-error : {A : Type 0} (s : ℕ) (before : List Own) (frame : List ℕ) (o : Option ℕ) (l : ReportLine) → first_due (on_error s before frame o) ≡ Some (Tells l) → A
no-error s before frame (Some k) l e = other-due (Frame Controller frame) l refl e
no-error {A} s before frame None l e =
    elim (is_own_error frame) as (λ b. first_due (cond b (cond (is_armed before) [] (Ending why.NotArmed ∷ [])) (Frame Controller frame ∷ [])) ≡ Some (Tells l) → A) [
      | true ↦ elim (is_armed before) as (λ b. first_due (cond b [] (Ending why.NotArmed ∷ [])) ≡ Some (Tells l) → A) [
        | true ↦ λ g. absurd (let h : None ≡ Some (Tells l) = g in cc)
        | false ↦ other-due (Ending why.NotArmed) l refl
      ]
      | false ↦ other-due (Frame Controller frame) l refl
    ] e

with-tag : {A : Type 0} (s d : ℕ) (t : Option ℕ) (l : ReportLine) → first_due (armed_with s d t) ≡ Some (Tells l) → is_what is_settled l ≡ true → A
with-tag s d None l e y = absurd (let g : None ≡ Some (Tells l) = e in cc)
with-tag s d (Some t) l e y = other-line (Armed s d t) l refl e y

arming-line : {A : Type 0} (run : Run) (s : ℕ) (o : Option ℕ) (l : ReportLine) → first_due (armed_line run s o) ≡ Some (Tells l) → is_what is_settled l ≡ true → A
arming-line run s None l e y = absurd (let g : None ≡ Some (Tells l) = e in cc)
arming-line run s (Some d) l e y = with-tag s d (tag_of d run.given) l e y

settled-barrier : (run : Run) (s : ℕ) (before : List Own) (frame : List ℕ) (o : Option Asker) (l : ReportLine) → first_due (on_barrier run s before frame o) ≡ Some (Tells l) → is_what is_settled l ≡ true
    → settles s before (own_edit o) ≡ None → ⊥
settled-barrier run s before frame None l e y n = other-due (Frame Controller frame) l refl e
settled-barrier run s before frame (Some asker.Arming) l e y n = arming-line run s (datapath before) l e y
settled-barrier run s before frame (Some (asker.Controller edits)) l e y n = let g : None ≡ Some (Tells l) = e in cc
settled-barrier run s before frame (Some (asker.Own k)) l e y n =
    elim (is_unsettled before k) as (λ b. first_due (cond b (fact s k what.Settled ∷ []) []) ≡ Some (Tells l) → cond b (Some (Fact s k what.Settled)) None ≡ None → ⊥) [
      | true ↦ λ g h. let z : Some (Fact s k what.Settled) ≡ None = h in cc
      | false ↦ λ g h. let z : None ≡ Some (Tells l) = g in cc
    ] e n

settled-switch : (run : Run) (s : ℕ) (taken : List ℕ) (before : List Own) (frame : List ℕ) (l : ReportLine) → first_due (on_switch run s taken before frame) ≡ Some (Tells l) → is_what is_settled l ≡ true
    → settles s before (own_edit (answered_by before frame)) ≡ None → ⊥
unfolding on_switch
settled-switch run s taken before frame l e y n =
    let last : List Due = cond (is_return run frame) [] (Frame Controller frame ∷ []) in
    let third : List Due = cond (is_error frame) (on_error s before frame (rejected_by frame (passed before))) last in
    let second : List Due = cond (is_barrier_reply frame) (on_barrier run s before frame (answered_by before frame)) third in
    elim (is_own_reply before frame) as (λ b. first_due (cond b (ends_or_arms run (datapath_of frame) (refused_reply run taken (datapath_of frame))) second) ≡ Some (Tells l) → ⊥) [
      | true ↦ no-reply run (datapath_of frame) (refused_reply run taken (datapath_of frame)) l
      | false ↦ elim (is_barrier_reply frame) as (λ b. first_due (cond b (on_barrier run s before frame (answered_by before frame)) third) ≡ Some (Tells l) → ⊥) [
        | true ↦ λ g. settled-barrier run s before frame (answered_by before frame) l g y n
        | false ↦ elim (is_error frame) as (λ b. first_due (cond b (on_error s before frame (rejected_by frame (passed before))) last) ≡ Some (Tells l) → ⊥) [
          | true ↦ no-error s before frame (rejected_by frame (passed before)) l
          | false ↦ elim (is_return run frame) as (λ b. first_due (cond b [] (Frame Controller frame ∷ [])) ≡ Some (Tells l) → ⊥) [
            | true ↦ λ g. let z : None ≡ Some (Tells l) = g in cc
            | false ↦ other-due (Frame Controller frame) l refl
          ]
        ]
      ]
    ] e

-- the line ---------------------------------------------------------------------------------------

settles-lone : (s : ℕ) (own : List Own) (o : Option ℕ) (l : ReportLine) → settles s own o ≡ Some l → is_alone (sort_of (Tells l)) ≡ true
settles-lone s own None l e = absurd (let g : None ≡ Some l = e in cc)
settles-lone s own (Some k) l e =
    elim (is_unsettled own k) as (λ b. cond b (Some (Fact s k what.Settled)) None ≡ Some l → is_alone (sort_of (Tells l)) ≡ true) [
      | true ↦ λ g. subst (λ (x : ReportLine). is_alone (sort_of (Tells x)) ≡ true) (some-same (Fact s k what.Settled) l g) refl
      | false ↦ λ g. absurd (let h : None ≡ Some l = g in cc)
    ] e

settled-due : (run : Run) (f : List Moment) (l : ReportLine) → came_open run f → settled_line run f ≡ Some l → (s : ℕ) × (due_of run f s ≡ Some (Tells l)) × (is_alone (sort_of (Tells l)) ≡ true)
settled-due run (Came s Switch frame ∷ f) l there e = (s, asks-settled run f s frame l there e, settles-lone s (part run s f) (own_edit (answered_by (part run s f) frame)) l e)
settled-due run [] l there e = absurd (let g : None ≡ Some l = e in cc)
settled-due run (m ∷ f) l there e = absurd (let g : None ≡ Some l = e in cc)

settled-sort : (l : ReportLine) → is_what is_settled l ≡ true → sort_of (Tells l) ≡ Sort.Settled
settled-sort (Fact s k what.Settled) e = refl
settled-sort (Fact s k w) e = absurd (false≢true e)
settled-sort l e = absurd (false≢true e)

no-settled : (run : Run) (f : List Moment) (l : ReportLine) (q : ℕ) → is_what is_settled l ≡ true → CausedBy run f q (Tells l) → due_of run f q ≡ Some (Tells l) → settled_line run f ≡ None → ⊥
no-settled run [] l q y by d e = by
no-settled run (Is (Given Opened) ∷ f) l q y by d e = not-from is_end (sort_of (Tells l)) Sort.Settled (settled-sort l y) refl by.1
no-settled run (Is (Given (event.Closed r)) ∷ f) l q y by d e = not-from is_end (sort_of (Tells l)) Sort.Settled (settled-sort l y) refl by.2
no-settled run (Is (Noted (Verdict number kind)) ∷ f) l q y by d e = not-from from_answer (sort_of (Tells l)) Sort.Settled (settled-sort l y) refl by.3
no-settled run (Is (Put r to frame lost) ∷ f) l q y by d e = not-from from_passing (sort_of (Tells l)) Sort.Settled (settled-sort l y) refl by.2
no-settled run (Is (End r) ∷ f) l q y by d e = not-from is_closed (sort_of (Tells l)) Sort.Settled (settled-sort l y) refl by.1
no-settled run (Came r Switch frame ∷ f) l q y by d e =
    let p = part run q f in
    let all = on_switch run q (taken_at run f q frame) p frame in
    settled-switch run q (taken_at run f q frame) p frame l
    (requested-line p all l (behind-none (and_request p all) (owed run q p) (Tells l) by.4 (ap (λ (seen : List Own). first_due (owed run q seen)) (sym by.3) ∙ d))) y
    (ap (λ (n : ℕ). settled_line run (Came n Switch frame ∷ f)) (sym by.0) ∙ e)
no-settled run (Came r Controller frame ∷ f) l q y by d e = let g : Controller ≡ Switch = by.1 in cc
no-settled run (Broke r side fault ∷ f) l q y by d e = not-from is_end (sort_of (Tells l)) Sort.Settled (settled-sort l y) refl by.1
no-settled run (Is (Given event) ∷ f) l q y by d e = by
no-settled run (Is (Noted (Offer job r k v)) ∷ f) l q y by d e = by
no-settled run (Is (Noted (Probe serial number x)) ∷ f) l q y by d e = by
no-settled run (Is (Noted (Report k)) ∷ f) l q y by d e = by
no-settled run (Went r serial near frame lost ∷ f) l q y by d e = by
no-settled run (Did r act ∷ f) l q y by d e = by

pub settlings-follow : SettlingsFollow
settlings-follow run f m room order probes goes =
    let before = room-before run m f room in
    let there = now-open run f before order.2 probes.2 goes in
    exactly (settled_line run f) (is_what is_settled) run f m (record { room = before; order = order.2; probes = probes.2 }) order (λ l e. settled-due run f l there e)
    (λ l y. ap is_alone (settled-sort l y)) (no-settled run f)
