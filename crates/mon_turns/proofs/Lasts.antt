-- Sessions begin, are armed and end as the line on them says, because what comes is what is due.
use Rattle.std.proofs.Common.{◌≡◌, ℕ, Bool, true, false, cond, not, ◌&&◌, List, [], ◌∷◌, ◌++◌, Option, Some, None, option_map, refl, sym, ap, subst, ◌∙◌}
use Rattle.std.specs.Prelude.{◌==◌, is_none, nat_lt, option_and_then, IfSome}
use Rattle.std.proofs.lemmas.Bool.{false≢true}
use Rattle.of_frame.specs.declared.fault.FrameFault.{FrameFault}
use Rattle.of_msgs.specs.Layout.{datapath_of}
use Rattle.mon_topo.specs.Tags.{tag_of}
use Rattle.mon_barriers.specs.declared.barriers.Asker.{Asker}
use Rattle.mon_barriers.specs.declared.barriers.Asker.TheVariants as asker
use Rattle.mon_report.specs.declared.line.Line.{Line as ReportLine}
use Rattle.mon_report.specs.declared.line.Line.TheVariants.{Armed}
use Rattle.mon_report.specs.declared.line.Line.TheVariants as line
use Rattle.mon_report.specs.declared.line.What.TheVariants as what
use Rattle.mon_report.specs.declared.line.WatchWhat.TheVariants as watch_what
use Rattle.mon_report.specs.declared.line.Cause.{Cause}
use Rattle.mon_report.specs.declared.line.Cause.TheVariants as why
use Rattle.mon_world.specs.declared.event.Side.{Side}
use Rattle.mon_world.specs.declared.event.Side.TheVariants.{Controller, Switch}
use Rattle.mon_world.specs.declared.event.Event.TheVariants.{Opened}
use Rattle.mon_world.specs.declared.event.Event.TheVariants as event
use Rattle.mon_world.specs.declared.event.Note.TheVariants.{Offer, Verdict, Probe, Report}
use Rattle.mon_world.specs.declared.history.Entry.TheVariants.{Given, Noted, Put, End}
use Rattle.mon_legal.specs.Runs.{Run}
use Rattle.mon_legal.specs.Changing.{only}
use Rattle.mon_legal.specs.Owns.{Own, Act}
use Rattle.mon_legal.specs.Owns.Own.{Begins, Breaks, Closes}
use Rattle.mon_legal.specs.Messages.{is_barrier_reply, is_error, is_own_error, is_features_reply, features_request, arming_frames}
use Rattle.mon_legal.specs.Barriers.{answered_by, is_arming, is_armed}
use Rattle.mon_legal.specs.Edits.{passed, rejected_by, is_unsettled}
use Rattle.mon_legal.specs.Datapaths.{datapath, tag, from_switch, replied}
use Rattle.mon_legal.specs.Directly.{Due, owed, cause_in, on_switch, on_barrier, on_error, and_request, ends_or_arms, arming_of, armed_line, armed_with, frames_to, fact, is_own_reply, is_return, refused_reply, of_fault, ends_in}
use Rattle.mon_legal.specs.Directly.Due.{Frame, Tells, Ending, Probing, Going}
use Rattle.mon_legal.specs.Probes.{wanting, or_own}
use Rattle.mon_legal.specs.Watching.{watch_wanted}
use Rattle.mon_legal.specs.Moments.{Moment, begins, cause}
use Rattle.mon_legal.specs.Moments.Moment.{Is, Went, Came, Broke, Did}
use Rattle.mon_legal.specs.Jobs.{openings}
use Rattle.mon_legal.specs.Sessions.{part, parts_of, is_open, opened, has_lost, lost_one, next_slot, other_datapaths, open_with_slot, session_in, is_tick}
use Rattle.mon_legal.specs.Ordering.{Next, next, first_due, first_with, or_next, due_of, act_of, lost_of, want_of, rest_of_piece, rest_of_frames, piece_of, next_frame, fault_in, jobs_in_slot}
use Rattle.mon_legal.specs.Ordering.Next.{Meets, Takes, Loses, Handles, Breaks_off, Wants, Nothing}
use Rattle.mon_legal.specs.Passing.{IsMet, Comes, FramesGoInOrder, NothingIsLeft}
use Rattle.mon_legal.specs.Probing.{ProbesSeparate}
use Rattle.mon_legal.specs.Reports.{Exactly, is_armed_line, is_closed_line}
use Rattle.mon_legal.specs.Lasting.{Lasts, SessionsLast, AllLast, EndsAs, ended_by, refused_frame, when, closed_line, cause_or_lost, worker}
use Rattle.mon_legal.specs.Lasting as lasting
use Rattle.mon_legal.proofs.Coming.{first-has, some-same, or-none, made-none, piece-none, did-is-due}
use Rattle.mon_legal.proofs.Offered.{jobs-are-offered}
use Rattle.mon_legal.proofs.Fitting.{next-meets, all-fit, quiet-at}
use Rattle.mon_legal.proofs.Waiting.{at-turn}
use Rattle.mon_turns.specs.Opening.{HasRoom}
use Rattle.mon_turns.specs.Laws.{GoesToOpen, ProbesGoToOpen, SessionsFollow}
use Rattle.mon_turns.proofs.Born.{same-number}
use Rattle.mon_turns.proofs.Seeing.{taken_at, ended-own, broke-own, closed-by-peer}
use Rattle.mon_turns.proofs.Leads.{Sort, sort_of, is_closed, is_end, from_answer, from_passing, from_frame, behind-none}
use Rattle.mon_turns.proofs.Live.{all-live, room-before}
use Rattle.mon_turns.proofs.Asked.{asks-end, asks-armed, same-taken, last-of-three}
use Rattle.mon_turns.proofs.Alone.{CausedBy, is_alone, is_meets, due-open, its-line, quiet-unless}
use Rattle.mon_turns.proofs.Causes.{alone, Meeting, meeting, end-met, put-met, report-met}
use Rattle.mon_turns.proofs.Causes.Meeting.{By_due, By_loss}
use Rattle.mon_turns.proofs.Wholes.{all-last}

-- what a frame of the switch makes due, told from what is due ---------------------------------

-- an end, or the line on arming
abbrev marks : Sort → Bool
marks Sort.Ends_now = true
marks Sort.Armed = true
marks x = false

first-of : (d x : Due) (A : Type 0) → marks (sort_of d) ≡ false → Some d ≡ Some x → marks (sort_of x) ≡ true → A
first-of d x A n e a = absurd (false≢true (sym n ∙ (ap (λ (y : Due). marks (sort_of y)) (some-same d x e) ∙ a)))

behind-frame : (dues : List Due) (d : Due) → first_due (dues ++ Frame Switch features_request ∷ []) ≡ Some d → marks (sort_of d) ≡ true → first_due dues ≡ Some d
behind-frame [] d e a = first-of (Frame Switch features_request) d (None ≡ Some d) refl e a
behind-frame (x ∷ dues) d e a = e

requested-first : (before : List Own) (dues : List Due) (d : Due) → first_due (and_request before dues) ≡ Some d → marks (sort_of d) ≡ true → first_due dues ≡ Some d
requested-first before dues d e a =
    elim ((from_switch before == 0) && not (ends_in dues)) as (λ b. first_due (cond b (dues ++ Frame Switch features_request ∷ []) dues) ≡ Some d → first_due dues ≡ Some d) [
      | true ↦ λ g. behind-frame dues d g a
      | false ↦ λ g. g
    ] e

frames-none : {A : Type 0} (frames : List (List ℕ)) (d : Due) → first_due (frames_to Switch frames) ≡ Some d → marks (sort_of d) ≡ true → A
frames-none [] d e a = absurd (let g : None ≡ Some d = e in cc)
frames-none {A} (frame ∷ frames) d e a = first-of (Frame Switch frame) d A refl e a

arming-none : {A : Type 0} (run : Run) (t : Option ℕ) (d : Due) → first_due (arming_of run t) ≡ Some d → marks (sort_of d) ≡ true → A
arming-none run None d e a = absurd (let g : None ≡ Some d = e in cc)
arming-none run (Some t) d e a = frames-none (arming_frames t run.in_use) d e a

-- what a reply to the proxy's own request ends
reply-ends : (run : Run) (o : Option ℕ) (w : Option Cause) (d : Due) → first_due (ends_or_arms run o w) ≡ Some d → marks (sort_of d) ≡ true → (c : Cause) × (w ≡ Some c) × (d ≡ Ending c)
reply-ends run o (Some c) d e a = (c, refl, sym (some-same (Ending c) d e))
reply-ends run None None d e a = absurd (let g : None ≡ Some d = e in cc)
reply-ends run (Some n) None d e a = arming-none run (tag_of n run.given) d e a

armed-with-tag : (s n : ℕ) (t : Option ℕ) (d : Due) → first_due (armed_with s n t) ≡ Some d → (l : ReportLine) × (lasting.armed_with s (Some n) t ≡ Some l) × (d ≡ Tells l)
armed-with-tag s n None d e = absurd (let g : None ≡ Some d = e in cc)
armed-with-tag s n (Some t) d e = (Armed s n t, refl, sym (some-same (Tells (Armed s n t)) d e))

armed-from : (run : Run) (s : ℕ) (o : Option ℕ) (d : Due) → first_due (armed_line run s o) ≡ Some d
    → (l : ReportLine) × (lasting.armed_with s o (option_and_then (λ n. tag_of n run.given) o) ≡ Some l) × (d ≡ Tells l)
armed-from run s None d e = absurd (let g : None ≡ Some d = e in cc)
armed-from run s (Some n) d e = armed-with-tag s n (tag_of n run.given) d e

-- the frame arms its session, with this line
record Arms (run : Run) (s : ℕ) (before : List Own) (frame : List ℕ) (d : Due) : Type 0 where
  pub arming : is_arming (answered_by before frame) ≡ true
  pub told : ReportLine
  pub is : lasting.armed_with s (datapath before) (tag run before) ≡ Some told
  pub due : d ≡ Tells told

barrier-arms : (run : Run) (s : ℕ) (before : List Own) (frame : List ℕ) (o : Option Asker) (d : Due) → answered_by before frame ≡ o → first_due (on_barrier run s before frame o) ≡ Some d
    → marks (sort_of d) ≡ true → Arms run s before frame d
barrier-arms run s before frame None d is e a = first-of (Frame Controller frame) d (Arms run s before frame d) refl e a
barrier-arms run s before frame (Some asker.Arming) d is e a =
    let f = armed-from run s (datapath before) d e in
    record { arming = ap is_arming is; told = f.0; is = f.1; due = f.2 }
barrier-arms run s before frame (Some (asker.Controller edits)) d is e a = absurd (let g : None ≡ Some d = e in cc)
barrier-arms run s before frame (Some (asker.Own k)) d is e a =
    elim (is_unsettled before k) as (λ b. first_due (cond b (fact s k what.Settled ∷ []) []) ≡ Some d → Arms run s before frame d) [
      | true ↦ λ g. first-of (fact s k what.Settled) d (Arms run s before frame d) refl g a
      | false ↦ λ g. absurd (let h : None ≡ Some d = g in cc)
    ] e

error-end : (s : ℕ) (before : List Own) (frame : List ℕ) (o : Option ℕ) (d : Due) → first_due (on_error s before frame o) ≡ Some d → marks (sort_of d) ≡ true
    → (is_own_error frame && (is_none o && not (is_armed before)) ≡ true) × (d ≡ Ending why.NotArmed)
error-end s before frame (Some k) d e a = first-of (Frame Controller frame) d _ refl e a
error-end s before frame None d e a =
    elim (is_own_error frame) as (λ b. first_due (cond b (cond (is_armed before) [] (Ending why.NotArmed ∷ [])) (Frame Controller frame ∷ [])) ≡ Some d
    → (b && not (is_armed before) ≡ true) × (d ≡ Ending why.NotArmed)) [
      | true ↦
          elim (is_armed before) as (λ b. first_due (cond b [] (Ending why.NotArmed ∷ [])) ≡ Some d → (not b ≡ true) × (d ≡ Ending why.NotArmed)) [
            | true ↦ λ g. absurd (let h : None ≡ Some d = g in cc)
            | false ↦ λ g. (refl, sym (some-same (Ending why.NotArmed) d g))
          ]
      | false ↦ λ g. first-of (Frame Controller frame) d _ refl g a
    ] e

-- the frame ends its session for a cause, or arms it
data Marked (run : Run) (s : ℕ) (taken : List ℕ) (before : List Own) (frame : List ℕ) (d : Due) : Type 0 where
  Ended : (c : Cause) (refused : refused_frame run taken before frame ≡ Some c) (is : d ≡ Ending c) → Marked run s taken before frame d
  Arming : (arms : Arms run s before frame d) → Marked run s taken before frame d

marked-switch : (run : Run) (s : ℕ) (taken : List ℕ) (before : List Own) (frame : List ℕ) (d : Due) → first_due (on_switch run s taken before frame) ≡ Some d → marks (sort_of d) ≡ true
    → Marked run s taken before frame d
unfolding on_switch
marked-switch run s taken before frame d e a =
    let errs = is_own_error frame && (is_none (rejected_by frame (passed before)) && not (is_armed before)) in
    elim (is_own_reply before frame) as (λ b. is_own_reply before frame ≡ b
    → first_due (cond b (ends_or_arms run (datapath_of frame) (refused_reply run taken (datapath_of frame)))
    (cond (is_barrier_reply frame) (on_barrier run s before frame (answered_by before frame))
    (cond (is_error frame) (on_error s before frame (rejected_by frame (passed before))) (cond (is_return run frame) [] (Frame Controller frame ∷ []))))) ≡ Some d
    → Marked run s taken before frame d) [
      | true ↦ λ y g.
          let r = reply-ends run (datapath_of frame) (refused_reply run taken (datapath_of frame)) d g a in
          Ended r.0 (ap (λ (b : Bool). cond b (refused_reply run taken (datapath_of frame)) (cond errs (Some why.NotArmed) None)) y ∙ r.1) r.2
      | false ↦ λ n g.
          elim (is_barrier_reply frame) as (λ b. first_due (cond b (on_barrier run s before frame (answered_by before frame))
          (cond (is_error frame) (on_error s before frame (rejected_by frame (passed before))) (cond (is_return run frame) [] (Frame Controller frame ∷ [])))) ≡ Some d
          → Marked run s taken before frame d) [
            | true ↦ λ h. Arming (barrier-arms run s before frame (answered_by before frame) d refl h a)
            | false ↦ λ h.
                elim (is_error frame) as (λ b. first_due (cond b (on_error s before frame (rejected_by frame (passed before))) (cond (is_return run frame) [] (Frame Controller frame ∷ []))) ≡ Some d
                → Marked run s taken before frame d) [
                  | true ↦ λ k.
                      let r = error-end s before frame (rejected_by frame (passed before)) d k a in
                      Ended why.NotArmed
                      (ap (λ (b : Bool). cond b (refused_reply run taken (datapath_of frame)) (cond errs (Some why.NotArmed) None)) n
                      ∙ ap (λ (b : Bool). cond b (Some why.NotArmed) None) r.0) r.1
                  | false ↦ λ k.
                      elim (is_return run frame) as (λ b. first_due (cond b [] (Frame Controller frame ∷ [])) ≡ Some d → Marked run s taken before frame d) [
                        | true ↦ λ q. absurd (let z : None ≡ Some d = q in cc)
                        | false ↦ λ q. first-of (Frame Controller frame) d (Marked run s taken before frame d) refl q a
                      ] k
                ] h
          ] g
    ] refl e

abbrev is_ends : Sort → Bool
is_ends Sort.Ends_now = true
is_ends x = false

ends-marked : (x : Sort) → is_ends x ≡ true → marks x ≡ true
ends-marked Sort.Ends_now e = refl
ends-marked x e = absurd (false≢true e)

answers-no-end : (x : Sort) → from_answer x ≡ true → is_ends x ≡ true → ⊥
answers-no-end Sort.Ends_now e a = false≢true e
answers-no-end x e a = false≢true a

passings-no-end : (x : Sort) → from_passing x ≡ true → is_ends x ≡ true → ⊥
passings-no-end Sort.Ends_now e a = false≢true e
passings-no-end x e a = false≢true a

closings-no-end : (x : Sort) → is_closed x ≡ true → is_ends x ≡ true → ⊥
closings-no-end Sort.Ends_now e a = false≢true e
closings-no-end x e a = false≢true a

taken-same : (run : Run) (f : List Moment) (s : ℕ) (frame : List ℕ) (c : Cause) → refused_frame run (taken_at run f s frame) (part run s f) frame ≡ Some c
    → refused_frame run (other_datapaths (parts_of run f) s (open_with_slot run f)) (part run s f) frame ≡ Some c
taken-same run f s frame c e =
    let p = part run s f in
    let others = other_datapaths (parts_of run f) s (open_with_slot run f) in
    let errs = cond (is_own_error frame && (is_none (rejected_by frame (passed p)) && not (is_armed p))) (Some why.NotArmed) None in
    elim (is_own_reply p frame) as (λ b. is_own_reply p frame ≡ b → cond b (refused_reply run (taken_at run f s frame) (datapath_of frame)) errs ≡ Some c
    → cond b (refused_reply run others (datapath_of frame)) errs ≡ Some c) [
      | true ↦ λ y g.
          ap (λ (xs : List ℕ). refused_reply run xs (datapath_of frame))
          (sym (same-taken run f s frame (last-of-three (is_none (replied p)) (not (from_switch p == 0)) (is_features_reply frame) y))) ∙ g
      | false ↦ λ y g. g
    ] refl e

-- of a frame that asked for an end, or for the line on arming
marked-came : (run : Run) (f : List Moment) (r s : ℕ) (side : Side) (frame : List ℕ) (d : Due) → CausedBy run (Came r side frame ∷ f) s d → due_of run (Came r side frame ∷ f) s ≡ Some d
    → marks (sort_of d) ≡ true → Marked run s (taken_at run f s frame) (part run s f) frame d
marked-came run f r s side frame d by e a =
    let p = part run s f in
    let all = on_switch run s (taken_at run f s frame) p frame in
    marked-switch run s (taken_at run f s frame) p frame d
    (requested-first p all d (behind-none (and_request p all) (owed run s p) d by.4 (ap (λ (xs : List Own). first_due (owed run s xs)) (sym by.3) ∙ e)) a) a

-- what comes is of an open session --------------------------------------------------------------

abbrev closes : Moment → Bool
closes (Is (Noted (Report l))) = is_closed_line l
closes m = false

line-closed : (l : ReportLine) → is_closed (sort_of (Tells l)) ≡ is_closed_line l
line-closed (line.Armed s d t) = refl
line-closed (line.Closed s c) = refl
line-closed (line.Confirmed s k n) = refl
line-closed (line.Fact s k what.NoChange) = refl
line-closed (line.Fact s k what.Overlap) = refl
line-closed (line.Fact s k what.Indistinguishable) = refl
line-closed (line.Fact s k what.Closing) = refl
line-closed (line.Fact s k what.Settled) = refl
line-closed (line.Fact s k what.Rejected) = refl
line-closed (line.Fact s k what.Silent) = refl
line-closed (line.Watch s m p n watch_what.Seen) = refl
line-closed (line.Watch s m p n watch_what.Missing) = refl
line-closed (line.Watch s m p n watch_what.Unwatchable) = refl

not-closed : (run : Run) (f : List Moment) (q : ℕ) (due : Due) (m : Moment) → IsMet run f q due m → closes m ≡ false → is_closed (sort_of due) ≡ false
not-closed run f q (Frame to frame) m c e = refl
not-closed run f q (Going n) m c e = refl
not-closed run f q (Ending why) m c e = refl
not-closed run f q (Probing job k) m c e = refl
not-closed run f q (Tells l) m c e = line-closed l ∙ (sym (ap closes c) ∙ e)

pub record Ready (run : Run) (f : List Moment) : Type 0 where
  pub room : HasRoom run f
  pub order : FramesGoInOrder run f
  pub probes : ProbesSeparate run f

met-open : (run : Run) (f : List Moment) (q : ℕ) (due : Due) (m : Moment) → Ready run f → next run f ≡ Meets q due → IsMet run f q due m → closes m ≡ false → is_open (part run q f) ≡ true
met-open run f q due m ready is c e =
    due-open run q (part run q f) due (all-fit run f ready.order ready.probes q) (all-live run f ready.room q) (next-meets run f q due is) (not-closed run f q due m c e)

or-is : (test : Next → Bool) (a : Option Next) (b n : Next) → ((m : Next) → a ≡ Some m → test m ≡ false) → test n ≡ true → or_next a b ≡ n → b ≡ n
or-is test None b n k y e = e
or-is test (Some m) b n k y e = absurd (false≢true (sym (k m refl) ∙ (ap test e ∙ y)))

abbrev is_loses : Next → Bool
is_loses (Loses s) = true
is_loses n = false

abbrev loser : Next → ℕ
loser (Loses s) = s
loser n = 0

rest-loses : (s : ℕ) (z : Option (ℕ × Unit {0})) (rest : Next) → is_loses rest ≡ false → or_next (option_map (λ p. Loses p.0) z) rest ≡ Loses s → (q : ℕ × Unit {0}) × (z ≡ Some q) × (q.0 ≡ s)
rest-loses s (Some q) rest n e = (q, refl, ap loser e)
rest-loses s None rest n e = absurd (false≢true (sym n ∙ ap is_loses e))

abbrev lost_if : Bool → Option (Unit {0})
lost_if b = cond b (Some tt) None

abbrev is_there : Option (Unit {0}) → Bool
is_there None = false
is_there (Some u) = true

was-lost : (b : Bool) (u : Unit {0}) → lost_if b ≡ Some u → b ≡ true
was-lost true u e = refl
was-lost false u e = ap is_there e

loses-lost : (run : Run) (f : List Moment) (s : ℕ) → next run f ≡ Loses s → has_lost (part run s f) ≡ true
unfolding next
loses-lost run f s e =
    let all = opened run f in
    let q = rest-loses s (first_with (lost_of run f) all) _
    (or-none is_loses (rest_of_piece run f (piece_of f)) _ (piece-none is_loses (λ r side frame. refl) (λ r side fault. refl) run f (piece_of f))
    (or-none is_loses (option_map (λ p. Wants p.0 p.1) (first_with (want_of run f) all)) Nothing (made-none is_loses (λ (p : ℕ × ℕ). Wants p.0 p.1) (λ p. refl) (first_with (want_of run f) all)) refl))
    (or-is is_loses (option_map (λ p. Takes p.0 p.1) (first_with (act_of run f) all)) _ (Loses s) (made-none is_loses (λ (p : ℕ × Act). Takes p.0 p.1) (λ p. refl) (first_with (act_of run f) all)) refl
    (or-is is_loses (option_map (λ p. Meets p.0 p.1) (first_with (due_of run f) all)) _ (Loses s) (made-none is_loses (λ (p : ℕ × Due). Meets p.0 p.1) (λ p. refl) (first_with (due_of run f) all)) refl e)) in
    subst (λ (r : ℕ). has_lost (part run r f) ≡ true) q.2 (was-lost (has_lost (part run q.0.0 f)) q.0.1 (first-has (lost_of run f) all q.0 q.1))

-- the rest of a piece is of an open session
abbrev is_rest : Next → Bool
is_rest (Handles s side frame) = true
is_rest (Breaks_off s side fault) = true
is_rest n = false

abbrev rest_session : Next → ℕ
rest_session (Handles s side frame) = s
rest_session (Breaks_off s side fault) = s
rest_session n = 0

first-piece : (a : Option Next) (w : Option (ℕ × ℕ)) (n : Next) → is_rest n ≡ true → or_next a (or_next (option_map (λ p. Wants p.0 p.1) w) Nothing) ≡ n → a ≡ Some n
first-piece (Some m) w n y e = ap (λ (x : Next). Some x) e
first-piece None (Some p) n y e = absurd (false≢true (ap is_rest e ∙ y))
first-piece None None n y e = absurd (false≢true (ap is_rest e ∙ y))

rest-of : (s : ℕ) (side : Side) (f : List Moment) (a : Option (List ℕ)) (b : Option FrameFault) (n : Next) → rest_of_frames s side f a b ≡ Some n → s ≡ rest_session n
rest-of s side f (Some frame) b n e = ap rest_session (some-same _ n e)
rest-of s side f None (Some fault) n e = ap rest_session (some-same _ n e)
rest-of s side f None None n e = absurd (let g : None ≡ Some n = e in cc)

of-piece : (run : Run) (f : List Moment) (o : Option (ℕ × Side)) (n : Next) → rest_of_piece run f o ≡ Some n → is_open (part run (rest_session n) f) ≡ true
of-piece run f None n e = absurd (let g : None ≡ Some n = e in cc)
of-piece run f (Some p) n e =
    elim (is_open (part run p.0 f)) as (λ b. is_open (part run p.0 f) ≡ b → cond b (rest_of_frames p.0 p.1 f (next_frame run p.0 p.1 f) (fault_in run p.0 p.1 f)) None ≡ Some n
    → is_open (part run (rest_session n) f) ≡ true) [
      | true ↦ λ y g. subst (λ (r : ℕ). is_open (part run r f) ≡ true) (rest-of p.0 p.1 f (next_frame run p.0 p.1 f) (fault_in run p.0 p.1 f) n g) y
      | false ↦ λ y g. absurd (let h : None ≡ Some n = g in cc)
    ] refl e

piece-open : (run : Run) (f : List Moment) (n : Next) → next run f ≡ n → is_rest n ≡ true → is_open (part run (rest_session n) f) ≡ true
unfolding next
piece-open run f n e y =
    let all = opened run f in
    of-piece run f (piece_of f) n
    (first-piece (rest_of_piece run f (piece_of f)) (first_with (want_of run f) all) n y
    (or-is is_rest (option_map (λ p. Loses p.0) (first_with (lost_of run f) all)) _ n (made-none is_rest (λ (p : ℕ × Unit {0}). Loses p.0) (λ p. refl) (first_with (lost_of run f) all)) y
    (or-is is_rest (option_map (λ p. Takes p.0 p.1) (first_with (act_of run f) all)) _ n (made-none is_rest (λ (p : ℕ × Act). Takes p.0 p.1) (λ p. refl) (first_with (act_of run f) all)) y
    (or-is is_rest (option_map (λ p. Meets p.0 p.1) (first_with (due_of run f) all)) _ n (made-none is_rest (λ (p : ℕ × Due). Meets p.0 p.1) (λ p. refl) (first_with (due_of run f) all)) y e))))

abbrev is_part : Moment → Bool
is_part (Came s side frame) = true
is_part (Broke s side fault) = true
is_part m = false

abbrev part_session : Moment → ℕ
part_session (Came s side frame) = s
part_session (Broke s side fault) = s
part_session m = 0

part-unmet : (run : Run) (f : List Moment) (q : ℕ) (due : Due) (m : Moment) → IsMet run f q due m → is_part m ≡ false
part-unmet run f q (Frame to frame) m c = ap is_part c.1
part-unmet run f q (Going n) m c = ap is_part c.3
part-unmet run f q (Ending why) m c = ap is_part c
part-unmet run f q (Probing job k) m c = ap is_part c.1
part-unmet run f q (Tells l) m c = ap is_part c

part-begins : (m : Moment) → begins m ≡ true → is_part m ≡ false
part-begins (Is (Given event)) e = refl
part-begins (Is (Noted (Verdict job kind))) e = refl
part-begins m e = absurd (false≢true e)

part-open : (run : Run) (f : List Moment) (n : Next) (m : Moment) → next run f ≡ n → Comes run f n m → is_part m ≡ true → is_open (part run (part_session m) f) ≡ true
part-open run f (Handles s side frame) m e c y = subst (λ (r : ℕ). is_open (part run r f) ≡ true) (sym (ap part_session c)) (piece-open run f (Handles s side frame) e refl)
part-open run f (Breaks_off s side fault) m e c y = subst (λ (r : ℕ). is_open (part run r f) ≡ true) (sym (ap part_session c)) (piece-open run f (Breaks_off s side fault) e refl)
part-open run f (Meets s due) m e c y = absurd (false≢true (sym (part-unmet run f s due m c) ∙ y))
part-open run f (Takes s act) m e c y = absurd (false≢true (sym (ap is_part c) ∙ y))
part-open run f (Loses s) m e c y = absurd (false≢true (sym (ap is_part c) ∙ y))
part-open run f (Wants s k) m e c y = absurd (false≢true (sym (ap is_part c) ∙ y))
part-open run f Nothing m e c y = absurd (false≢true (sym (part-begins m c) ∙ y))

first-and : (a b : Bool) → a && b ≡ true → a ≡ true
first-and true b e = refl
first-and false b e = e

lost-open : (run : Run) (f : List Moment) (s : ℕ) → next run f ≡ Loses s → is_open (part run s f) ≡ true
lost-open run f s e = first-and (is_open (part run s f)) (lost_one (part run s f)) (loses-lost run f s e)

wants-open : (b c : Bool) (x : Option ℕ) (k : ℕ) → cond (b && c) x None ≡ Some k → b ≡ true
wants-open true c x k e = refl
wants-open false c x k e = absurd (let g : None ≡ Some k = e in cc)

abbrev ender_of : Moment → ℕ
ender_of (Is (End s)) = s
ender_of m = 0

pub put-open : (run : Run) (f : List Moment) (s : ℕ) (to : Side) (frame : List ℕ) (lost : Bool) → Ready run f → Meeting run f (next run f) (Is (Put s to frame lost)) → is_open (part run s f) ≡ true
put-open run f s to frame lost ready (By_due q due is c) =
    subst (λ (r : ℕ). is_open (part run r f) ≡ true) (sym (put-met run f q s due to frame lost c)) (met-open run f q due (Is (Put s to frame lost)) ready is c refl)
put-open run f s to frame lost ready (By_loss q is c) = absurd (let g : Is (Put s to frame lost) ≡ Is (End q) = c in cc)

end-open : (run : Run) (f : List Moment) (s : ℕ) → Ready run f → Meeting run f (next run f) (Is (End s)) → is_open (part run s f) ≡ true
end-open run f s ready (By_due q due is c) =
    subst (λ (r : ℕ). is_open (part run r f) ≡ true) (sym (end-met run f q s due c).0) (met-open run f q due (Is (End s)) ready is c refl)
end-open run f s ready (By_loss q is c) = subst (λ (r : ℕ). is_open (part run r f) ≡ true) (sym (ap ender_of c)) (lost-open run f q is)

report-open : (run : Run) (f : List Moment) (l : ReportLine) → Ready run f → is_closed_line l ≡ false → Meeting run f (next run f) (Is (Noted (Report l))) → is_open (part run (session_in l) f) ≡ true
report-open run f l ready e (By_due q due is c) =
    let told : due ≡ Tells l = report-met run f q due l c in
    let its : session_in l ≡ q = its-line run q (part run q f) l (next-meets run f q due is ∙ ap (λ (x : Due). Some x) told) in
    subst (λ (r : ℕ). is_open (part run r f) ≡ true) (sym its) (met-open run f q due (Is (Noted (Report l))) ready is c e)
report-open run f l ready e (By_loss q is c) = absurd (let g : Is (Noted (Report l)) ≡ Is (End q) = c in cc)

works-open : (run : Run) (f : List Moment) (m : Moment) → Ready run f → FramesGoInOrder run (m ∷ f) → GoesToOpen run f m → IfSome (worker m) (λ s. is_open (part run s f) ≡ true)
works-open run f (Is (Put s to frame lost)) ready order there = put-open run f s to frame lost ready (meeting run f (next run f) (Is (Put s to frame lost)) refl order.1)
works-open run f (Is (End s)) ready order there = end-open run f s ready (meeting run f (next run f) (Is (End s)) refl order.1)
works-open run f (Is (Noted (Report l))) ready order there =
    elim (is_closed_line l) as (λ b. is_closed_line l ≡ b → IfSome (cond b None (Some (session_in l))) (λ s. is_open (part run s f) ≡ true)) [
      | true ↦ λ y. tt
      | false ↦ λ n. report-open run f l ready n (meeting run f (next run f) (Is (Noted (Report l))) refl order.1)
    ] refl
works-open run f (Is (Noted (Offer job s k v))) ready order there =
    let offer = (jobs-are-offered run (Is (Noted (Offer job s k v)) ∷ f) order).1 in
    wants-open (is_open (part run s f)) (nat_lt (jobs_in_slot run s f) 16)
    (or_own (wanting run (part run s f)) (option_map (λ r. 0) (watch_wanted run (is_tick (cause f)) (part run s f)))) k (first-has (want_of run f) (opened run f) (s, k) offer.first)
works-open run f (Is (Noted (Verdict job kind))) ready order there = tt
works-open run f (Is (Noted (Probe serial job x))) ready order there = tt
works-open run f (Is (Given event)) ready order there = tt
works-open run f (Went s serial near frame lost) ready order there = there
works-open run f (Came s side frame) ready order there = part-open run f (next run f) (Came s side frame) refl order.1 refl
works-open run f (Broke s side fault) ready order there = part-open run f (next run f) (Broke s side fault) refl order.1 refl
works-open run f (Did s act) ready order there = (did-is-due run f s act order.1).0

-- ends ------------------------------------------------------------------------------------------

abbrev pub came_open : Run → List Moment → Type 0
came_open run [] = Unit {0}
came_open run (m ∷ f) = IfSome (worker m) (λ s. is_open (part run s f) ≡ true)

when-some : (b : Bool) (c : Cause) (x : Cause) → when b c ≡ Some x → (b ≡ true) × (x ≡ c)
when-some true c x e = (refl, sym (some-same c x e))
when-some false c x e = absurd (let g : None ≡ Some x = e in cc)

map-some : {A B : Type 0} (g : A → B) (o : Option A) (y : B) → option_map g o ≡ Some y → (x : A) × (o ≡ Some x) × (y ≡ g x)
map-some g None y e = absurd (let h : None ≡ Some y = e in cc)
map-some g (Some x) y e = (x, refl, sym (some-same (g x) y e))

bare-first : (run : Run) (f : List Moment) (o : Option ℕ) → next_slot run f ≡ o → is_none o ≡ true
    → first_due (owed run (openings run f) (part run (openings run f) (Is (Given Opened) ∷ f))) ≡ Some (Ending why.TooMany)
bare-first run f (Some slot) e y = absurd (false≢true y)
bare-first run f None e y =
    let n = openings run f in
    ap (λ (b : Bool). first_due (owed run n (only b (Begins (next_slot run f) ∷ []) ++ [] ++ part run n f))) (same-number n)
    ∙ ap (λ (o : Option ℕ). first_due (owed run n (Begins o ∷ part run n f))) e

-- the end that has to follow is due
end-due : (run : Run) (f : List Moment) (x : ℕ × Cause) → came_open run f → ended_by run f ≡ Some x → due_of run f x.0 ≡ Some (Ending x.1)
end-due run (Is (Given Opened) ∷ f) x there e =
    let m = map-some (λ c. (openings run f, c)) (when (is_none (next_slot run f)) why.TooMany) x e in
    let w = when-some (is_none (next_slot run f)) why.TooMany m.0 m.1 in
    subst (λ (y : ℕ × Cause). due_of run (Is (Given Opened) ∷ f) y.0 ≡ Some (Ending y.1)) (sym m.2)
    (bare-first run f (next_slot run f) refl w.0 ∙ ap (λ (c : Cause). Some (Ending c)) (sym w.1))
end-due run (Is (Given (event.Closed s)) ∷ f) x there e =
    let m = map-some (λ c. (s, c)) (when (is_open (part run s f)) why.Peer) x e in
    let w = when-some (is_open (part run s f)) why.Peer m.0 m.1 in
    subst (λ (y : ℕ × Cause). due_of run (Is (Given (event.Closed s)) ∷ f) y.0 ≡ Some (Ending y.1)) (sym m.2)
    (ap (λ (seen : List Own). first_due (owed run s seen)) (closed-by-peer run f s w.0) ∙ ap (λ (c : Cause). Some (Ending c)) (sym w.1))
end-due run (Broke s side fault ∷ f) x there e =
    subst (λ (y : ℕ × Cause). due_of run (Broke s side fault ∷ f) y.0 ≡ Some (Ending y.1)) (some-same (s, of_fault fault) x e)
    (ap (λ (seen : List Own). first_due (owed run s seen)) (broke-own run f s side fault there))
end-due run (Came s Switch frame ∷ f) x there e =
    let m = map-some (λ c. (s, c)) (refused_frame run (other_datapaths (parts_of run f) s (open_with_slot run f)) (part run s f) frame) x e in
    subst (λ (y : ℕ × Cause). due_of run (Came s Switch frame ∷ f) y.0 ≡ Some (Ending y.1)) (sym m.2) (asks-end run f s frame m.0 there m.1)
end-due run f x there e = absurd (let g : None ≡ Some x = e in cc)

-- and what is due by another is none
abbrev SomeEnd : Option (ℕ × Cause) → ℕ → Due → Type 0
SomeEnd o s d = (c : Cause) × (o ≡ Some (s, c)) × (d ≡ Ending c)

bare-slot : (run : Run) (f : List Moment) (s : ℕ) (d : Due) (o : Option ℕ) → next_slot run f ≡ o → openings run f ≡ s → first_due (owed run s (part run s f)) ≡ None
    → first_due (owed run s (Begins o ∷ part run s f)) ≡ Some d → SomeEnd (option_map (λ c. (openings run f, c)) (when (is_none o) why.TooMany)) s d
bare-slot run f s d None is same q e = (why.TooMany, ap (λ (n : ℕ). Some (n, why.TooMany)) same, sym (some-same (Ending why.TooMany) d e))
bare-slot run f s d (Some slot) is same q e = absurd (let g : None ≡ Some d = sym q ∙ e in cc)

armed-no-end : (s : ℕ) (a b : Option ℕ) (l : ReportLine) → lasting.armed_with s a b ≡ Some l → is_ends (sort_of (Tells l)) ≡ false
armed-no-end s (Some d) (Some t) l e = subst (λ (x : ReportLine). is_ends (sort_of (Tells x)) ≡ false) (some-same (Armed s d t) l e) refl
armed-no-end s (Some d) None l e = absurd (let g : None ≡ Some l = e in cc)
armed-no-end s None b l e = absurd (let g : None ≡ Some l = e in cc)

marked-end : (run : Run) (f : List Moment) (s : ℕ) (frame : List ℕ) (d : Due) → Marked run s (taken_at run f s frame) (part run s f) frame d → is_ends (sort_of d) ≡ true
    → SomeEnd (ended_by run (Came s Switch frame ∷ f)) s d
marked-end run f s frame d (Ended c refused is) a = (c, ap (option_map (λ x. (s, x))) (taken-same run f s frame c refused), is)
marked-end run f s frame d (Arming arms) a =
    absurd (false≢true (sym (armed-no-end s (datapath (part run s f)) (tag run (part run s f)) arms.told arms.is)
    ∙ (sym (ap (λ (x : Due). is_ends (sort_of x)) arms.due) ∙ a)))

caused-end : (run : Run) (f : List Moment) (s : ℕ) (d : Due) → FramesGoInOrder run f → CausedBy run f s d → due_of run f s ≡ Some d → is_ends (sort_of d) ≡ true → SomeEnd (ended_by run f) s d
caused-end run [] s d order by e a = absurd by
caused-end run (Is (Given Opened) ∷ f) s d order by e a =
    let own : part run s (Is (Given Opened) ∷ f) ≡ Begins (next_slot run f) ∷ part run s f =
    ap (λ (b : Bool). only b (Begins (next_slot run f) ∷ []) ++ [] ++ part run s f) (ap (λ (n : ℕ). n == s) by.0 ∙ same-number s) in
    bare-slot run f s d (next_slot run f) refl by.0 (quiet-at run s f (Is (Given Opened)) refl order.1) (ap (λ (seen : List Own). first_due (owed run s seen)) (sym own) ∙ e)
caused-end run (Is (Given (event.Closed r)) ∷ f) s d order by e a =
    let own : part run s (Is (Given (event.Closed r)) ∷ f) ≡ Closes ∷ part run s f =
    subst (λ (n : ℕ). part run s (Is (Given (event.Closed n)) ∷ f) ≡ Closes ∷ part run s f) (sym by.0) (closed-by-peer run f s by.1) in (
      why.Peer,
      ap (λ (n : ℕ). option_map (λ c. (n, c)) (when (is_open (part run n f)) why.Peer)) by.0 ∙ ap (λ (b : Bool). option_map (λ c. (s, c)) (when b why.Peer)) by.1,
      sym (some-same (Ending why.Peer) d (ap (λ (seen : List Own). first_due (owed run s seen)) (sym own) ∙ e)),
    )
caused-end run (Is (Noted (Verdict number kind)) ∷ f) s d order by e a = absurd (answers-no-end (sort_of d) by.3 a)
caused-end run (Is (Put r to frame lost) ∷ f) s d order by e a = absurd (passings-no-end (sort_of d) by.2 a)
caused-end run (Is (End r) ∷ f) s d order by e a = absurd (closings-no-end (sort_of d) by.1 a)
caused-end run (Broke r side fault ∷ f) s d order by e a =
    let there = part-open run f (next run f) (Broke r side fault) refl order.1 refl in
    let own : part run s (Broke r side fault ∷ f) ≡ Breaks fault ∷ part run s f =
    subst (λ (n : ℕ). part run n (Broke r side fault ∷ f) ≡ Breaks fault ∷ part run n f) by.0 (broke-own run f r side fault there) in (
      of_fault fault,
      ap (λ (n : ℕ). Some (n, of_fault fault)) by.0,
      sym (some-same (Ending (of_fault fault)) d (ap (λ (seen : List Own). first_due (owed run s seen)) (sym own) ∙ e)),
    )
caused-end run (Came r Switch frame ∷ f) s d order by e a =
    subst (λ (n : ℕ). SomeEnd (ended_by run (Came n Switch frame ∷ f)) s d) (sym by.0)
    (marked-end run f s frame d (marked-came run f r s Switch frame d by e (ends-marked (sort_of d) a)) a)
caused-end run (Came r Controller frame ∷ f) s d order by e a = absurd (let g : Controller ≡ Switch = by.1 in cc)
caused-end run (Is (Given event) ∷ f) s d order by e a = absurd by
caused-end run (Is (Noted (Offer job r k v)) ∷ f) s d order by e a = absurd by
caused-end run (Is (Noted (Probe serial number x)) ∷ f) s d order by e a = absurd by
caused-end run (Is (Noted (Report l)) ∷ f) s d order by e a = absurd by
caused-end run (Went r serial near frame lost ∷ f) s d order by e a = absurd by
caused-end run (Did r act ∷ f) s d order by e a = absurd by

-- lines that come exactly where they are due ---------------------------------------------------------

no-line : (sort : ReportLine → Bool) (run : Run) (f : List Moment) (l : ReportLine) → Ready run f → Meeting run f (next run f) (Is (Noted (Report l))) → sort l ≡ true
    → is_alone (sort_of (Tells l)) ≡ true → ((q : ℕ) → CausedBy run f q (Tells l) → due_of run f q ≡ Some (Tells l) → ⊥) → ⊥
no-line sort run f l ready (By_due q due is c) y a k =
    let told : due ≡ Tells l = report-met run f q due l c in
    let first : due_of run f q ≡ Some (Tells l) = next-meets run f q due is ∙ ap (λ (d : Due). Some d) told in
    k q (alone run f ready.room ready.order ready.probes q (Tells l) first a).by first
no-line sort run f l ready (By_loss q is c) y a k = let g : Is (Noted (Report l)) ≡ Is (End q) = c in cc

abbrev cause_of : Due → Cause
cause_of (Ending c) = c
cause_of d = why.Lost

abbrev is_ending : Due → Bool
is_ending (Ending c) = true
is_ending d = false

-- the line that is due alone comes, and no other of its sort
pub exactly : (o : Option ReportLine) (sort : ReportLine → Bool) (run : Run) (f : List Moment) (m : Moment) → Ready run f → FramesGoInOrder run (m ∷ f)
    → ((l : ReportLine) → o ≡ Some l → (s : ℕ) × (due_of run f s ≡ Some (Tells l)) × (is_alone (sort_of (Tells l)) ≡ true))
    → ((l : ReportLine) → sort l ≡ true → is_alone (sort_of (Tells l)) ≡ true)
    → ((l : ReportLine) (q : ℕ) → sort l ≡ true → CausedBy run f q (Tells l) → due_of run f q ≡ Some (Tells l) → o ≡ None → ⊥)
    → Exactly o sort m
exactly (Some l) sort run f m ready order due lone none =
    let d = due l refl in
    subst (λ (n : Next). Comes run f n m) (alone run f ready.room ready.order ready.probes d.0 (Tells l) d.1 d.2).next_is order.1
exactly None sort run f (Is (Noted (Report l))) ready order due lone none =
    elim (sort l) as (λ b. sort l ≡ b → b ≡ false) [
      | true ↦ λ y. absurd (no-line sort run f l ready (meeting run f (next run f) (Is (Noted (Report l))) refl order.1) y (lone l y) (λ q by e. none l q y by e refl))
      | false ↦ λ n. refl
    ] refl
exactly None sort run f (Is (Noted (Offer job s k v))) ready order due lone none = refl
exactly None sort run f (Is (Noted (Verdict job kind))) ready order due lone none = refl
exactly None sort run f (Is (Noted (Probe serial job x))) ready order due lone none = refl
exactly None sort run f (Is (Given event)) ready order due lone none = refl
exactly None sort run f (Is (Put s to frame lost)) ready order due lone none = refl
exactly None sort run f (Is (End s)) ready order due lone none = refl
exactly None sort run f (Went s serial near frame lost) ready order due lone none = refl
exactly None sort run f (Came s side frame) ready order due lone none = refl
exactly None sort run f (Broke s side fault) ready order due lone none = refl
exactly None sort run f (Did s act) ready order due lone none = refl

-- the line on the end ----------------------------------------------------------------------------

cause-first : (dues : List Due) (c : Cause) → first_due dues ≡ Some (Ending c) → cause_in dues ≡ c
cause-first [] c e = absurd (let g : None ≡ Some (Ending c) = e in cc)
cause-first (Ending w ∷ dues) c e = ap cause_of (some-same (Ending w) (Ending c) e)
cause-first (Frame to frame ∷ dues) c e = absurd (false≢true (ap is_ending (some-same (Frame to frame) (Ending c) e)))
cause-first (Tells l ∷ dues) c e = absurd (false≢true (ap is_ending (some-same (Tells l) (Ending c) e)))
cause-first (Probing job k ∷ dues) c e = absurd (false≢true (ap is_ending (some-same (Probing job k) (Ending c) e)))
cause-first (Going n ∷ dues) c e = absurd (false≢true (ap is_ending (some-same (Going n) (Ending c) e)))

cause-none : (dues : List Due) → first_due dues ≡ None → cause_in dues ≡ why.Lost
cause-none [] e = refl
cause-none (d ∷ dues) e = absurd (let g : Some d ≡ None = e in cc)

ending-is : (d : Due) → is_ending d ≡ true → is_ends (sort_of d) ≡ true
ending-is (Ending c) e = refl
ending-is d e = absurd (false≢true e)

ends-lone : (x : Sort) → is_ends x ≡ true → is_alone x ≡ true
ends-lone Sort.Ends_now e = refl
ends-lone x e = absurd (false≢true e)

lost-cause : (run : Run) (f : List Moment) (q : ℕ) (o : Option (ℕ × Cause)) → came_open run f → ended_by run f ≡ o → next run f ≡ Loses q → cause_or_lost o ≡ why.Lost
lost-cause run f q None there e is = refl
lost-cause run f q (Some x) there e is =
    absurd (let g : None ≡ Some (Ending x.1) = sym (quiet-unless run f x.0 (ap is_meets is)) ∙ end-due run f x there e in cc)

cause-same : (run : Run) (f : List Moment) (s : ℕ) → Ready run f → came_open run f → Meeting run f (next run f) (Is (End s)) → cause_in (owed run s (part run s f)) ≡ cause_or_lost (ended_by run f)
cause-same run f s ready there (By_loss q is c) =
    cause-none (owed run s (part run s f)) (quiet-unless run f s (ap is_meets is)) ∙ sym (lost-cause run f q (ended_by run f) there refl is)
cause-same run f s ready there (By_due q due is c) =
    let met = end-met run f q s due c in
    let first = next-meets run f q due is in
    let sort = ending-is due met.1 in
    let al = alone run f ready.room ready.order ready.probes q due first (ends-lone (sort_of due) sort) in
    let end = caused-end run f q due ready.order al.by first sort in
    ap (λ (n : ℕ). cause_in (owed run n (part run n f))) met.0
    ∙ cause-first (owed run q (part run q f)) end.0 (first ∙ ap (λ (d : Due). Some d) end.2)
    ∙ sym (ap cause_or_lost end.1)

abbrev opened_before : Run → List Moment → Type 0
opened_before run [] = Unit {0}
opened_before run (m ∷ f) = came_open run f

closed-due : (run : Run) (f : List Moment) (l : ReportLine) → Ready run f → came_open run f → opened_before run f → closed_line run f ≡ Some l
    → (s : ℕ) × (due_of run f s ≡ Some (Tells l)) × (is_alone (sort_of (Tells l)) ≡ true)
closed-due run (Is (End s) ∷ f) l ready there before e =
    let ready_then : Ready run f = record { room = ready.room; order = ready.order.2; probes = ready.probes.2 } in
    let told : line.Closed s (cause_or_lost (ended_by run f)) ≡ l = some-same (line.Closed s (cause_or_lost (ended_by run f))) l e in (
      s,
      ap (λ (seen : List Own). first_due (owed run s seen)) (ended-own run f s there)
          ∙ (ap (λ (c : Cause). Some (Tells (line.Closed s c))) (cause-same run f s ready_then before (meeting run f (next run f) (Is (End s)) refl ready.order.1))
          ∙ ap (λ (x : ReportLine). Some (Tells x)) told),
      subst (λ (x : ReportLine). is_alone (sort_of (Tells x)) ≡ true) told refl,
    )
closed-due run [] l ready there before e = absurd (let g : None ≡ Some l = e in cc)
closed-due run (m ∷ f) l ready there before e = absurd (let g : None ≡ Some l = e in cc)

closed-lone : (l : ReportLine) → is_closed_line l ≡ true → is_alone (sort_of (Tells l)) ≡ true
closed-lone (line.Closed s c) e = refl
closed-lone l e = absurd (false≢true e)

closed-sort : (l : ReportLine) → is_closed_line l ≡ true → sort_of (Tells l) ≡ Sort.Closed
closed-sort (line.Closed s c) e = refl
closed-sort l e = absurd (false≢true e)

armed-sort : (l : ReportLine) → is_armed_line l ≡ true → sort_of (Tells l) ≡ Sort.Armed
armed-sort (line.Armed s d t) e = refl
armed-sort l e = absurd (false≢true e)

armed-lone : (l : ReportLine) → is_armed_line l ≡ true → is_alone (sort_of (Tells l)) ≡ true
armed-lone (line.Armed s d t) e = refl
armed-lone l e = absurd (false≢true e)

pub not-from : {A : Type 0} (test : Sort → Bool) (x y : Sort) → x ≡ y → test y ≡ false → test x ≡ true → A
not-from test x y e n t = absurd (false≢true (sym n ∙ (sym (ap test e) ∙ t)))

no-closed : (run : Run) (f : List Moment) (l : ReportLine) (q : ℕ) → is_closed_line l ≡ true → CausedBy run f q (Tells l) → closed_line run f ≡ None → ⊥
no-closed run [] l q y by e = by
no-closed run (Is (Given Opened) ∷ f) l q y by e = not-from is_end (sort_of (Tells l)) Sort.Closed (closed-sort l y) refl by.1
no-closed run (Is (Given (event.Closed r)) ∷ f) l q y by e = not-from is_end (sort_of (Tells l)) Sort.Closed (closed-sort l y) refl by.2
no-closed run (Is (Noted (Verdict number kind)) ∷ f) l q y by e = not-from from_answer (sort_of (Tells l)) Sort.Closed (closed-sort l y) refl by.3
no-closed run (Is (Put r to frame lost) ∷ f) l q y by e = not-from from_passing (sort_of (Tells l)) Sort.Closed (closed-sort l y) refl by.2
no-closed run (Is (End r) ∷ f) l q y by e = let g : Some (line.Closed r (cause_or_lost (ended_by run f))) ≡ None = e in cc
no-closed run (Came r side frame ∷ f) l q y by e = not-from from_frame (sort_of (Tells l)) Sort.Closed (closed-sort l y) refl by.2
no-closed run (Broke r side fault ∷ f) l q y by e = not-from is_end (sort_of (Tells l)) Sort.Closed (closed-sort l y) refl by.1
no-closed run (Is (Given event) ∷ f) l q y by e = by
no-closed run (Is (Noted (Offer job r k v)) ∷ f) l q y by e = by
no-closed run (Is (Noted (Probe serial number x)) ∷ f) l q y by e = by
no-closed run (Is (Noted (Report k)) ∷ f) l q y by e = by
no-closed run (Went r serial near frame lost ∷ f) l q y by e = by
no-closed run (Did r act ∷ f) l q y by e = by

-- the line on arming -------------------------------------------------------------------------------

armed-is : (s : ℕ) (a b : Option ℕ) (l : ReportLine) → lasting.armed_with s a b ≡ Some l → is_alone (sort_of (Tells l)) ≡ true
armed-is s (Some d) (Some t) l e = subst (λ (x : ReportLine). is_alone (sort_of (Tells x)) ≡ true) (some-same (Armed s d t) l e) refl
armed-is s (Some d) None l e = absurd (let g : None ≡ Some l = e in cc)
armed-is s None b l e = absurd (let g : None ≡ Some l = e in cc)

armed-due : (run : Run) (f : List Moment) (l : ReportLine) → came_open run f → lasting.armed_line run f ≡ Some l
    → (s : ℕ) × (due_of run f s ≡ Some (Tells l)) × (is_alone (sort_of (Tells l)) ≡ true)
armed-due run (Came s Switch frame ∷ f) l there e =
    let p = part run s f in
    elim (is_arming (answered_by p frame)) as (λ b. is_arming (answered_by p frame) ≡ b → cond b (lasting.armed_with s (datapath p) (tag run p)) None ≡ Some l
    → (q : ℕ) × (due_of run (Came s Switch frame ∷ f) q ≡ Some (Tells l)) × (is_alone (sort_of (Tells l)) ≡ true)) [
      | true ↦ λ y g. (s, asks-armed run f s frame l there y g, armed-is s (datapath p) (tag run p) l g)
      | false ↦ λ n g. absurd (let h : None ≡ Some l = g in cc)
    ] refl e
armed-due run [] l there e = absurd (let g : None ≡ Some l = e in cc)
armed-due run (m ∷ f) l there e = absurd (let g : None ≡ Some l = e in cc)

armed-marked : (run : Run) (f : List Moment) (s : ℕ) (frame : List ℕ) (l : ReportLine) → Marked run s (taken_at run f s frame) (part run s f) frame (Tells l)
    → lasting.armed_line run (Came s Switch frame ∷ f) ≡ None → ⊥
armed-marked run f s frame l (Ended c refused is) e = false≢true (ap is_ending is)
armed-marked run f s frame l (Arming arms) e =
    let g : Some arms.told ≡ None = sym arms.is ∙ (ap (λ (b : Bool). cond b (lasting.armed_with s (datapath (part run s f)) (tag run (part run s f))) None) (sym arms.arming) ∙ e) in cc

no-armed : (run : Run) (f : List Moment) (l : ReportLine) (q : ℕ) → is_armed_line l ≡ true → CausedBy run f q (Tells l) → due_of run f q ≡ Some (Tells l) → lasting.armed_line run f ≡ None → ⊥
no-armed run [] l q y by d e = by
no-armed run (Is (Given Opened) ∷ f) l q y by d e = not-from is_end (sort_of (Tells l)) Sort.Armed (armed-sort l y) refl by.1
no-armed run (Is (Given (event.Closed r)) ∷ f) l q y by d e = not-from is_end (sort_of (Tells l)) Sort.Armed (armed-sort l y) refl by.2
no-armed run (Is (Noted (Verdict number kind)) ∷ f) l q y by d e = not-from from_answer (sort_of (Tells l)) Sort.Armed (armed-sort l y) refl by.3
no-armed run (Is (Put r to frame lost) ∷ f) l q y by d e = not-from from_passing (sort_of (Tells l)) Sort.Armed (armed-sort l y) refl by.2
no-armed run (Is (End r) ∷ f) l q y by d e = not-from is_closed (sort_of (Tells l)) Sort.Armed (armed-sort l y) refl by.1
no-armed run (Came r Switch frame ∷ f) l q y by d e =
    armed-marked run f q frame l
    (marked-came run f r q Switch frame (Tells l) by d (ap marks (armed-sort l y)))
    (ap (λ (n : ℕ). lasting.armed_line run (Came n Switch frame ∷ f)) (sym by.0) ∙ e)
no-armed run (Came r Controller frame ∷ f) l q y by d e = let g : Controller ≡ Switch = by.1 in cc
no-armed run (Broke r side fault ∷ f) l q y by d e = not-from is_end (sort_of (Tells l)) Sort.Armed (armed-sort l y) refl by.1
no-armed run (Is (Given event) ∷ f) l q y by d e = by
no-armed run (Is (Noted (Offer job r k v)) ∷ f) l q y by d e = by
no-armed run (Is (Noted (Probe serial number x)) ∷ f) l q y by d e = by
no-armed run (Is (Noted (Report k)) ∷ f) l q y by d e = by
no-armed run (Went r serial near frame lost ∷ f) l q y by d e = by
no-armed run (Did r act ∷ f) l q y by d e = by

-- the whole -----------------------------------------------------------------------------------------

lost-end : (run : Run) (f : List Moment) (s : ℕ) → Ready run f → ended_by run f ≡ None → Meeting run f (next run f) (Is (End s)) → has_lost (part run s f) ≡ true
lost-end run f s ready e (By_loss q is c) = subst (λ (r : ℕ). has_lost (part run r f) ≡ true) (sym (ap ender_of c)) (loses-lost run f q is)
lost-end run f s ready e (By_due q due is c) =
    let met = end-met run f q s due c in
    let first = next-meets run f q due is in
    let sort = ending-is due met.1 in
    let al = alone run f ready.room ready.order ready.probes q due first (ends-lone (sort_of due) sort) in
    let end = caused-end run f q due ready.order al.by first sort in
    absurd (let g : None ≡ Some (q, end.0) = sym e ∙ end.1 in cc)

ends-none : (run : Run) (f : List Moment) (m : Moment) → Ready run f → FramesGoInOrder run (m ∷ f) → ended_by run f ≡ None → EndsAs run f None m
ends-none run f (Is (End s)) ready order e = lost-end run f s ready e (meeting run f (next run f) (Is (End s)) refl order.1)
ends-none run f (Is (Noted note)) ready order e = tt
ends-none run f (Is (Given event)) ready order e = tt
ends-none run f (Is (Put s to frame lost)) ready order e = tt
ends-none run f (Went s serial near frame lost) ready order e = tt
ends-none run f (Came s side frame) ready order e = tt
ends-none run f (Broke s side fault) ready order e = tt
ends-none run f (Did s act) ready order e = tt

ends-as : (run : Run) (f : List Moment) (m : Moment) → Ready run f → came_open run f → FramesGoInOrder run (m ∷ f) → EndsAs run f (ended_by run f) m
ends-as run f m ready there order =
    elim (ended_by run f) as (λ o. ended_by run f ≡ o → EndsAs run f o m) [
      | None ↦ λ e. ends-none run f m ready order e
      | Some x ↦ λ e.
          subst (λ (n : Next). Comes run f n m) (alone run f ready.room ready.order ready.probes x.0 (Ending x.1) (end-due run f x there e) refl).next_is order.1
    ] refl

lasts : (run : Run) (f : List Moment) (m : Moment) → Ready run f → came_open run f → opened_before run f → FramesGoInOrder run (m ∷ f) → GoesToOpen run f m → Lasts run f m
lasts run f m ready there before order goes = record {
  ends = ends-as run f m ready there order;
  closed = exactly (closed_line run f) is_closed_line run f m ready order (λ l e. closed-due run f l ready there before e) closed-lone
      (λ l q y by d e. no-closed run f l q y by e);
  armed = exactly (lasting.armed_line run f) is_armed_line run f m ready order (λ l e. armed-due run f l there e) armed-lone (no-armed run f);
  silent = works-open run f m ready order goes;
}

pub now-open : (run : Run) (f : List Moment) → HasRoom run f → FramesGoInOrder run f → ProbesSeparate run f → ProbesGoToOpen run f → came_open run f
now-open run [] room order probes goes = tt
now-open run (m ∷ f) room order probes goes = works-open run f m (record { room = room-before run m f room; order = order.2; probes = probes.2 }) order goes.1

then-open : (run : Run) (f : List Moment) → HasRoom run f → FramesGoInOrder run f → ProbesSeparate run f → ProbesGoToOpen run f → opened_before run f
then-open run [] room order probes goes = tt
then-open run (m ∷ f) room order probes goes = now-open run f (room-before run m f room) order.2 probes.2 goes.2

pub sessions-follow : SessionsFollow
sessions-follow run [] room order probes goes = tt
sessions-follow run (m ∷ f) room order probes goes =
    let before = room-before run m f room in (
      at-turn (begins m) (NothingIsLeft run f) (AllLast run f) (all-last run f) order.0,
      lasts run f m (record { room = before; order = order.2; probes = probes.2 }) (now-open run f before order.2 probes.2 goes.2) (then-open run f before order.2 probes.2 goes.2) order goes.1,
      sessions-follow run f before order.2 probes.2 goes.2,
    )
