-- The newest moment asked for what is due alone.
use Rattle.std.proofs.Common.{◌≡◌, ℕ, ◌+◌, Bool, true, false, ◌&&◌, List, [], ◌∷◌, ◌++◌, drop, Option, Some, None, refl, sym, ap, subst, ◌∙◌}
use Rattle.std.specs.Prelude.{◌==◌}
use Rattle.std.proofs.lemmas.Bool.{false≢true}
use Rattle.std.proofs.lemmas.List.{append-nil}
use Rattle.of_frame.specs.declared.fault.FrameFault.{FrameFault}
use Rattle.mon_header.specs.declared.header.Header.{Header}
use Rattle.mon_packet.specs.declared.nonce.Nonce.{Nonce}
use Rattle.mon_packet.specs.Reading.{Read}
use Rattle.mon_shows.specs.declared.seen.Seen.{Seen}
use Rattle.mon_outcome.specs.declared.emission.Emission.{Emission}
use Rattle.mon_report.specs.declared.line.Line.{Line}
use Rattle.mon_report.specs.declared.line.Line.TheVariants as line
use Rattle.mon_world.specs.declared.event.Side.{Side}
use Rattle.mon_world.specs.declared.event.Side.TheVariants.{Controller, Switch}
use Rattle.mon_world.specs.declared.event.Event.TheVariants.{Opened, Closed, Tick}
use Rattle.mon_world.specs.declared.event.Kind.{Kind}
use Rattle.mon_world.specs.declared.event.Kind.TheVariants as kind
use Rattle.mon_world.specs.declared.event.Note.TheVariants.{Offer, Verdict, Probe, Report}
use Rattle.mon_world.specs.declared.history.Entry.TheVariants.{Given, Noted, Put, End}
use Rattle.mon_legal.specs.Runs.{Run}
use Rattle.mon_legal.specs.Changing.{only}
use Rattle.mon_legal.specs.Owns.{Own, Act}
use Rattle.mon_legal.specs.Owns.Own.{Begins, From_controller, From_switch, Breaks, Closes, Ticks, Returns, Judged, Acts, Offers, Goes_out, Sends, Carries, Reports, Ends}
use Rattle.mon_legal.specs.Directly.{Due, owed, owes, job_stands}
use Rattle.mon_legal.specs.Directly.Due.{Frame, Tells, Ending, Probing, Going}
use Rattle.mon_legal.specs.Messages.{carried_in}
use Rattle.mon_legal.specs.Barriers.{is_armed}
use Rattle.mon_legal.specs.Datapaths.{datapath}
use Rattle.mon_legal.specs.Moments.{Moment}
use Rattle.mon_legal.specs.Moments.Moment.{Is, Went, Came, Broke, Did}
use Rattle.mon_legal.specs.Jobs.{Job, job_of, openings, last_serial}
use Rattle.mon_legal.specs.Sessions.{Parts, part, parts_of, is_open, sees, hears, session_in, if_open, neighbour_if, returned, returns_in, returns_with, seen_at, of_frame, judged_as, judged_if, probed_as, probed_if, arms, next_slot, version}
use Rattle.mon_legal.specs.Ordering.{Next, next, first_due, due_of}
use Rattle.mon_legal.specs.Ordering.Next.{Meets, Takes, Loses, Handles, Breaks_off, Wants, Nothing}
use Rattle.mon_legal.specs.Answers.{current}
use Rattle.mon_legal.specs.Passing.{IsMet, Comes, FramesGoInOrder}
use Rattle.mon_legal.specs.Probing.{ProbesSeparate, JustAnswered}
use Rattle.mon_legal.proofs.Coming.{some-same}
use Rattle.mon_legal.proofs.Fitting.{AllFit, all-fit, quiet-at, same-of}
use Rattle.mon_turns.specs.Opening.{HasRoom}
use Rattle.mon_turns.proofs.Born.{same-number, turned, part-other}
use Rattle.mon_turns.proofs.Dues.{well-owed}
use Rattle.mon_turns.proofs.Leads.{sort_of, leads_to, leads, first-from, first-or-late, late-first, from_passing, is_closed}
use Rattle.mon_turns.proofs.Seeing.{no-own-neighbour, taken_at, ended-own, current-of, three-true, judged-own, still-open}
use Rattle.mon_turns.proofs.Asked.{returned-own, put-other}
use Rattle.mon_turns.proofs.Live.{AllLive, all-live, room-before}
use Rattle.std.specs.Prelude.{◌⊎◌, IsSome}
use Rattle.std.proofs.Common.{inl, inr}
use Rattle.mon_report.specs.declared.line.Cause.TheVariants as causes
use Rattle.mon_legal.specs.Moments.{begins}
use Rattle.mon_legal.specs.Directly.{cause_in}
use Rattle.mon_legal.specs.Sessions.{version_for}
use Rattle.mon_legal.proofs.Fitting.{is_meeting}
use Rattle.mon_legal.proofs.Handled.{open-none}
use Rattle.mon_turns.proofs.Events.{probed-own}
use Rattle.mon_turns.proofs.Alone.{Alone, Sees, sees-one, from-one, unseen-none, neighbour-owed, only-one, stays-first, quiet-unless, is_meets, is_alone, alone-first, its-line, hears-due, due-open, ticks-not, frames-not, returns-not, acts-not, never}
use Rattle.mon_turns.proofs.Alone.Sees.{Yes, No}

pub differ : (n s r : ℕ) → n ≡ s → (r == s) ≡ false → (n == r) ≡ false
differ n s r same x = subst (λ (k : ℕ). (k == r) ≡ false) (sym same) (turned r s x)

abbrev Quiet : Run → List Moment → Type 0
Quiet run f = (r : ℕ) → first_due (owed run r (part run r f)) ≡ None

-- a moment of one session alone -------------------------------------------------------------

pub record Single (run : Run) (f : List Moment) (m : Moment) (n : ℕ) (o : Own) (s : ℕ) (d : Due) : Type 0 where
  pub same : n ≡ s
  pub there : is_open (part run s f) ≡ true
  pub leads : leads_to o (sort_of d) ≡ true
  pub next_is : next run (m ∷ f) ≡ Meets s d

abbrev IsSingle : Run → List Moment → Moment → ℕ → Own → Type 0
IsSingle run f m n o = (r : ℕ) → part run r (m ∷ f) ≡ if_open (parts_of run f) r (only (n == r) (o ∷ [])) ++ part run r f

single-other : (run : Run) (f : List Moment) (m : Moment) (n : ℕ) (o : Own) (r : ℕ) → IsSingle run f m n o → (n == r) ≡ false → part run r (m ∷ f) ≡ part run r f
single-other run f m n o r is e = is r ∙ ap (λ (b : Bool). if_open (parts_of run f) r (only b (o ∷ [])) ++ part run r f) e

single-by : (run : Run) (f : List Moment) (m : Moment) (n : ℕ) (o : Own) (s : ℕ) (d : Due) → IsSingle run f m n o → Quiet run f → due_of run (m ∷ f) s ≡ Some d
    → Sees (n == s) (is_open (part run s f)) o (if_open (parts_of run f) s (only (n == s) (o ∷ [])) ++ part run s f) (part run s f) → Single run f m n o s d
single-by run f m n o s d is q e (Yes y there seen) =
    let same = same-of n s y in
    record {
      same = same;
      there = there;
      leads = from-one run s o (part run s f) (part run s (m ∷ f)) d (is s ∙ seen) (q s) e;
      next_is = only-one run (m ∷ f) s d e (λ r x. ap (λ (seen : List Own). first_due (owed run r seen)) (single-other run f m n o r is (differ n s r same x)) ∙ q r);
    }
single-by run f m n o s d is q e (No unseen) = unseen-none run s (part run s f) (part run s (m ∷ f)) d (is s ∙ unseen) (q s) e

single : (run : Run) (f : List Moment) (m : Moment) (n : ℕ) (o : Own) (s : ℕ) (d : Due) → IsSingle run f m n o → Quiet run f → due_of run (m ∷ f) s ≡ Some d → Single run f m n o s d
single run f m n o s d is q e = single-by run f m n o s d is q e (sees-one (parts_of run f) s (n == s) o)

alone-opened : (run : Run) (f : List Moment) (s : ℕ) (d : Due) → Quiet run f → due_of run (Is (Given Opened) ∷ f) s ≡ Some d → Alone run (Is (Given Opened) ∷ f) s d
alone-opened run f s d q e =
    let g = Is (Given Opened) ∷ f in
    elim (openings run f == s) as (λ b. (openings run f == s) ≡ b → Alone run g s d) [
      | true ↦ λ y.
          let same = same-of (openings run f) s y in
          let own : part run s g ≡ Begins (next_slot run f) ∷ part run s f = ap (λ (b : Bool). only b (Begins (next_slot run f) ∷ []) ++ [] ++ part run s f) y in
          record {
            next_is = only-one run g s d e (λ r x. ap (λ (seen : List Own). first_due (owed run r seen)) (part-other run f r (differ (openings run f) s r same x)) ∙ q r);
            by = (same, from-one run s (Begins (next_slot run f)) (part run s f) (part run s g) d own (q s) e);
          }
      | false ↦ λ n. unseen-none run s (part run s f) (part run s g) d (part-other run f s n) (q s) e
    ] refl

alone-closed : (run : Run) (f : List Moment) (r s : ℕ) (d : Due) → Quiet run f → due_of run (Is (Given (Closed r)) ∷ f) s ≡ Some d → Alone run (Is (Given (Closed r)) ∷ f) s d
alone-closed run f r s d q e =
    let one = single run f (Is (Given (Closed r))) r Closes s d (λ t. refl) q e in
    record { next_is = one.next_is; by = (one.same, one.there, one.leads) }

alone-broke : (run : Run) (f : List Moment) (r : ℕ) (side : Side) (fault : FrameFault) (s : ℕ) (d : Due) → Quiet run f → due_of run (Broke r side fault ∷ f) s ≡ Some d
    → Alone run (Broke r side fault ∷ f) s d
alone-broke run f r side fault s d q e =
    let one = single run f (Broke r side fault) r (Breaks fault) s d (λ t. refl) q e in
    record { next_is = one.next_is; by = (one.same, one.leads) }

pub judged-only : (b : Bool) (run : Run) (parts : Parts) (f : List Moment) (j : Job) (kind : Kind)
    → judged_if b run parts f j kind ≡ only b (Judged j.number j.edit kind (j.version == version_for run parts j.session f) ∷ [])
judged-only true run parts f j kind = refl
judged-only false run parts f j kind = refl

alone-verdict : (run : Run) (f : List Moment) (number : ℕ) (kind : Kind) (s : ℕ) (d : Due) (o : Option Job) → job_of number f ≡ o → Quiet run f
    → due_of run (Is (Noted (Verdict number kind)) ∷ f) s ≡ Some d → Alone run (Is (Noted (Verdict number kind)) ∷ f) s d
alone-verdict run f number kind s d None is q e =
    unseen-none run s (part run s f) (part run s (Is (Noted (Verdict number kind)) ∷ f)) d
    (ap (λ (o : Option Job). if_open (parts_of run f) s (judged_as run (parts_of run f) s f o kind) ++ part run s f) is) (q s) e
alone-verdict run f number kind s d (Some j) is q e =
    let P = parts_of run f in
    let one = single run f (Is (Noted (Verdict number kind))) j.session (Judged j.number j.edit kind (j.version == version_for run P j.session f)) s d
    (λ t. ap (λ (o : Option Job). if_open P t (judged_as run P t f o kind) ++ part run t f) is
    ∙ ap (λ (xs : List Own). if_open P t xs ++ part run t f) (judged-only (j.session == t) run P f j kind)) q e in
    record { next_is = one.next_is; by = (j, is, one.same, one.leads) }

-- what meets something ----------------------------------------------------------------------

pub data Meeting (run : Run) (f : List Moment) (n : Next) (m : Moment) : Type 0 where
  By_due : (s : ℕ) (due : Due) (is_next : n ≡ Meets s due) (meets : IsMet run f s due m) → Meeting run f n m
  By_loss : (s : ℕ) (is_next : n ≡ Loses s) (ends : m ≡ Is (End s)) → Meeting run f n m

begins-not : (m : Moment) → begins m ≡ true → is_meeting m ≡ false
begins-not (Is (Given event)) e = refl
begins-not (Is (Noted (Verdict job kind))) e = refl
begins-not m e = absurd (false≢true e)

pub meeting : (run : Run) (f : List Moment) (n : Next) (m : Moment) → is_meeting m ≡ true → Comes run f n m → Meeting run f n m
meeting run f (Meets s due) m x c = By_due s due refl c
meeting run f (Loses s) m x c = By_loss s refl c
meeting run f (Takes s act) m x c = absurd (false≢true (sym (ap is_meeting c) ∙ x))
meeting run f (Handles s side frame) m x c = absurd (false≢true (sym (ap is_meeting c) ∙ x))
meeting run f (Breaks_off s side fault) m x c = absurd (false≢true (sym (ap is_meeting c) ∙ x))
meeting run f (Wants s k) m x c = absurd (false≢true (sym (ap is_meeting c) ∙ x))
meeting run f Nothing m x c = absurd (false≢true (sym (begins-not m c) ∙ x))

abbrev Before : Run → List Moment → Type 0
Before run f = (t : ℕ) (x : Due) → due_of run f t ≡ Some x → is_alone (sort_of x) ≡ true → Alone run f t x

-- what was due alone before a moment is met by it
still-due : (run : Run) (f : List Moment) (m : Moment) (s : ℕ) (d : Due) → Before run f → Comes run f (next run f) m → due_of run f s ≡ Some d → is_alone (sort_of d) ≡ true → IsMet run f s d m
still-due run f m s d ih c e a = subst (λ (n : Next). Comes run f n m) (ih s d e a).next_is c

put-clash : {A : Type 0} (run : Run) (f : List Moment) (s r : ℕ) (d : Due) (to : Side) (frame : List ℕ) (lost : Bool) → IsMet run f s d (Is (Put r to frame lost)) → is_alone (sort_of d) ≡ true → A
put-clash run f s r (Frame side x) to frame lost c a = absurd (false≢true a)
put-clash run f s r (Going n) to frame lost c a = absurd (false≢true a)
put-clash run f s r (Tells l) to frame lost c a = absurd (let g : Is (Put r to frame lost) ≡ Is (Noted (Report l)) = c in cc)
put-clash run f s r (Ending why) to frame lost c a = absurd (let g : Is (Put r to frame lost) ≡ Is (End s) = c in cc)
put-clash run f s r (Probing job k) to frame lost c a = absurd (let g : Is (Put r to frame lost) ≡ Is (Noted (Probe (last_serial run f + 1) job c.0)) = c.1 in cc)

went-clash : {A : Type 0} (run : Run) (f : List Moment) (s r : ℕ) (d : Due) (serial near : ℕ) (frame : List ℕ) (lost : Bool) → IsMet run f s d (Went r serial near frame lost) → is_alone (sort_of d) ≡ true → A
went-clash run f s r (Frame side x) serial near frame lost c a = absurd (false≢true a)
went-clash run f s r (Going n) serial near frame lost c a = absurd (false≢true a)
went-clash run f s r (Tells l) serial near frame lost c a = absurd (let g : Went r serial near frame lost ≡ Is (Noted (Report l)) = c in cc)
went-clash run f s r (Ending why) serial near frame lost c a = absurd (let g : Went r serial near frame lost ≡ Is (End s) = c in cc)
went-clash run f s r (Probing job k) serial near frame lost c a = absurd (let g : Went r serial near frame lost ≡ Is (Noted (Probe (last_serial run f + 1) job c.0)) = c.1 in cc)

abbrev pub line_told : Moment → Line
line_told (Is (Noted (Report l))) = l
line_told m = line.Closed 0 causes.Lost

pub report-met : (run : Run) (f : List Moment) (s : ℕ) (d : Due) (l : Line) → IsMet run f s d (Is (Noted (Report l))) → d ≡ Tells l
report-met run f s (Frame side x) l c = absurd (let g : Is (Noted (Report l)) ≡ Is (Put s side x c.0) = c.1 in cc)
report-met run f s (Going n) l c = absurd (let g : Is (Noted (Report l)) ≡ Went s n c.0 c.1 c.2 = c.3 in cc)
report-met run f s (Tells k) l c = ap (λ m. Tells (line_told m)) (sym c)
report-met run f s (Ending why) l c = absurd (let g : Is (Noted (Report l)) ≡ Is (End s) = c in cc)
report-met run f s (Probing job k) l c = absurd (let g : Is (Noted (Report l)) ≡ Is (Noted (Probe (last_serial run f + 1) job c.0)) = c.1 in cc)

abbrev ender : Moment → ℕ
ender (Is (End s)) = s
ender m = 0

abbrev is_ending : Due → Bool
is_ending (Ending why) = true
is_ending d = false

pub end-met : (run : Run) (f : List Moment) (s r : ℕ) (d : Due) → IsMet run f s d (Is (End r)) → (r ≡ s) × (is_ending d ≡ true)
end-met run f s r (Frame side x) c = absurd (let g : Is (End r) ≡ Is (Put s side x c.0) = c.1 in cc)
end-met run f s r (Going n) c = absurd (let g : Is (End r) ≡ Went s n c.0 c.1 c.2 = c.3 in cc)
end-met run f s r (Tells k) c = absurd (let g : Is (End r) ≡ Is (Noted (Report k)) = c in cc)
end-met run f s r (Ending why) c = (ap ender c, refl)
end-met run f s r (Probing job k) c = absurd (let g : Is (End r) ≡ Is (Noted (Probe (last_serial run f + 1) job c.0)) = c.1 in cc)

abbrev putter : Moment → ℕ
putter (Is (Put s to frame lost)) = s
putter m = 0

pub put-met : (run : Run) (f : List Moment) (s r : ℕ) (d : Due) (to : Side) (frame : List ℕ) (lost : Bool) → IsMet run f s d (Is (Put r to frame lost)) → r ≡ s
put-met run f s r (Frame side x) to frame lost c = ap putter c.1
put-met run f s r (Going n) to frame lost c = absurd (let g : Is (Put r to frame lost) ≡ Went s n c.0 c.1 c.2 = c.3 in cc)
put-met run f s r (Tells l) to frame lost c = absurd (let g : Is (Put r to frame lost) ≡ Is (Noted (Report l)) = c in cc)
put-met run f s r (Ending why) to frame lost c = absurd (let g : Is (Put r to frame lost) ≡ Is (End s) = c in cc)
put-met run f s r (Probing job k) to frame lost c = absurd (let g : Is (Put r to frame lost) ≡ Is (Noted (Probe (last_serial run f + 1) job c.0)) = c.1 in cc)

-- what is left is never due alone
left-clash : {A : Type 0} (run : Run) (s : ℕ) (p : List Own) (d : Due) → AllFit run s p → first_due (drop 1 (owed run s p)) ≡ Some d → is_alone (sort_of d) ≡ true → A
left-clash run s p d fit e a = absurd (false≢true (sym (alone-first d a) ∙ late-first (drop 1 (owed run s p)) d (well-owed run s p fit).late e))

-- a frame is put
put-first : (run : Run) (f : List Moment) (r : ℕ) (to : Side) (frame : List ℕ) (lost : Bool) → Meeting run f (next run f) (Is (Put r to frame lost)) → (due : Due) × (next run f ≡ Meets r due)
put-first run f r to frame lost (By_due s due e c) = (due, e ∙ ap (λ (n : ℕ). Meets n due) (sym (put-met run f s r due to frame lost c)))
put-first run f r to frame lost (By_loss s e c) = absurd (let g : Is (Put r to frame lost) ≡ Is (End s) = c in cc)

put-side : (run : Run) (f : List Moment) (r : ℕ) (to : Side) (frame : List ℕ) (lost : Bool) (s : ℕ) (d : Due) → AllFit run s (part run s f) → is_alone (sort_of d) ≡ true
    → first_due (owed run s (Sends to frame lost ∷ part run s f)) ≡ Some d → (to ≡ Switch) × (from_passing (sort_of d) ≡ true)
put-side run f r Controller frame lost s d fit a e = left-clash run s (part run s f) d fit e a
put-side run f r Switch frame lost s d fit a e =
    let p = part run s f in
    let o = Sends Switch frame lost in (
      refl,
      first-from (leads_to o) (owes run s (owed run s p) p o) d (leads run s (owed run s p) p o)
          (first-or-late (owes run s (owed run s p) p o) (drop 1 (owed run s p)) d (well-owed run s p fit).late e (alone-first d a)),
    )

alone-put : (run : Run) (f : List Moment) (r : ℕ) (to : Side) (frame : List ℕ) (lost : Bool) (s : ℕ) (d : Due) → AllFit run s (part run s f) → Before run f
    → Comes run f (next run f) (Is (Put r to frame lost)) → is_alone (sort_of d) ≡ true → due_of run (Is (Put r to frame lost) ∷ f) s ≡ Some d
    → Sees (r == s) (is_open (part run s f)) (Sends to frame lost) (part run s (Is (Put r to frame lost) ∷ f)) (part run s f)
    → Alone run (Is (Put r to frame lost) ∷ f) s d
alone-put run f r to frame lost s d fit ih c a e (Yes y there seen) =
    let m = Is (Put r to frame lost) in
    let same = same-of r s y in
    let first = put-first run f r to frame lost (meeting run f (next run f) m refl c) in
    let side = put-side run f r to frame lost s d fit a (ap (λ (xs : List Own). first_due (owed run s xs)) (sym seen) ∙ e) in
    record {
      next_is = stays-first run f m s first.0 d refl (first.1 ∙ ap (λ (n : ℕ). Meets n first.0) same) e
          (λ t x. ap (λ (xs : List Own). first_due (owed run t xs)) (put-other run f r t to frame lost (differ r s t same x)));
      by = (same, side.0, side.1);
    }
alone-put run f r to frame lost s d fit ih c a e (No unseen) =
    put-clash run f s r d to frame lost
    (still-due run f (Is (Put r to frame lost)) s d ih c (ap (λ (xs : List Own). first_due (owed run s xs)) (sym unseen) ∙ e) a) a

-- a report
alone-report : (run : Run) (f : List Moment) (l : Line) (s : ℕ) (d : Due) (b : Bool) → AllFit run s (part run s f) → AllLive (part run s f) → Before run f
    → Comes run f (next run f) (Is (Noted (Report l))) → is_alone (sort_of d) ≡ true → ((session_in l == s) && hears l (part run s f)) ≡ b
    → first_due (owed run s (only b (Reports l ∷ []) ++ [] ++ part run s f)) ≡ Some d → ⊥
alone-report run f l s d true fit live ih c a y e = left-clash run s (part run s f) d fit e a
alone-report run f l s d false fit live ih c a y e =
    let told : d ≡ Tells l = report-met run f s d l (still-due run f (Is (Noted (Report l))) s d ih c e a) in
    let due : first_due (owed run s (part run s f)) ≡ Some (Tells l) = e ∙ ap (λ (x : Due). Some x) told in
    let its : session_in l ≡ s = its-line run s (part run s f) l due in
    let both : ((session_in l == s) && hears l (part run s f)) ≡ true =
    ap (λ (n : ℕ). (n == s) && hears l (part run s f)) its
    ∙ (ap (λ (x : Bool). x && hears l (part run s f)) (same-number s) ∙ hears-due run s (part run s f) l fit live due) in
    false≢true (sym y ∙ both)

-- an end
pub end-dues : (run : Run) (f : List Moment) (r t : ℕ) → (r == t) ≡ false → owed run t (part run t (Is (End r) ∷ f)) ≡ owed run t (part run t f)
end-dues run f r t e =
    let P = parts_of run f in
    ap (λ (b : Bool). owed run t (if_open P t (only b (Ends ∷ []) ++ neighbour_if run P t r (is_armed (part run r f))) ++ part run t f)) e
    ∙ neighbour-owed run P t r (is_armed (part run r f)) (part run t f)

end-next : (run : Run) (f : List Moment) (r s : ℕ) (d : Due) → r ≡ s → due_of run (Is (End r) ∷ f) s ≡ Some d → Meeting run f (next run f) (Is (End r)) → next run (Is (End r) ∷ f) ≡ Meets s d
end-next run f r s d same e (By_due q due is c) =
    let it = (end-met run f q r due c).0 in
    stays-first run f (Is (End r)) s due d refl (is ∙ ap (λ (n : ℕ). Meets n due) (sym it ∙ same)) e
    (λ t x. ap first_due (end-dues run f r t (differ r s t same x)))
end-next run f r s d same e (By_loss q is c) =
    only-one run (Is (End r) ∷ f) s d e
    (λ t x. ap first_due (end-dues run f r t (differ r s t same x)) ∙ quiet-unless run f t (ap is_meets is))

ends-closed : (run : Run) (s : ℕ) (p : List Own) (d : Due) → first_due (owed run s (Ends ∷ p)) ≡ Some d → is_closed (sort_of d) ≡ true
ends-closed run s p d e = subst (λ (x : Due). is_closed (sort_of x) ≡ true) (some-same (Tells (line.Closed s (cause_in (owed run s p)))) d e) refl

ending-open : (d : Due) → is_ending d ≡ true → is_closed (sort_of d) ≡ false
ending-open (Ending why) e = refl
ending-open d e = absurd (false≢true e)

alone-end : (run : Run) (f : List Moment) (r s : ℕ) (d : Due) → AllFit run s (part run s f) → AllLive (part run s f) → Before run f → Comes run f (next run f) (Is (End r)) → is_alone (sort_of d) ≡ true
    → due_of run (Is (End r) ∷ f) s ≡ Some d → Alone run (Is (End r) ∷ f) s d
alone-end run f r s d fit live ih c a e =
    let P = parts_of run f in
    let m = Is (End r) in
    elim (r == s) as (λ b. (r == s) ≡ b → Alone run (m ∷ f) s d) [
      | true ↦ λ y.
          let same = same-of r s y in
          elim (is_open (part run s f)) as (λ b. is_open (part run s f) ≡ b → Alone run (m ∷ f) s d) [
            | true ↦ λ there.
                let own : part run s (m ∷ f) ≡ Ends ∷ part run s f = subst (λ (n : ℕ). part run s (Is (End n) ∷ f) ≡ Ends ∷ part run s f) (sym same) (ended-own run f s there) in
                record {
                  next_is = end-next run f r s d same e (meeting run f (next run f) m refl c);
                  by = (same, ends-closed run s (part run s f) d (ap (λ (xs : List Own). first_due (owed run s xs)) (sym own) ∙ e));
                }
            | false ↦ λ gone.
                let unseen : part run s (m ∷ f) ≡ part run s f =
                ap (λ (xs : List Own). xs ++ part run s f) (open-none P s (only (r == s) (Ends ∷ []) ++ neighbour_if run P s r (is_armed (part run r f))) gone) in
                let due : due_of run f s ≡ Some d = ap (λ (xs : List Own). first_due (owed run s xs)) (sym unseen) ∙ e in
                let ending = (end-met run f s r d (still-due run f m s d ih c due a)).1 in
                absurd (false≢true (sym gone ∙ due-open run s (part run s f) d fit live due (ending-open d ending)))
          ] refl
      | false ↦ λ n.
          let due : due_of run f s ≡ Some d = ap first_due (sym (end-dues run f r s n)) ∙ e in
          let same = (end-met run f s r d (still-due run f m s d ih c due a)).0 in
          absurd (false≢true (sym n ∙ (ap (λ (k : ℕ). k == s) same ∙ same-number s)))
    ] refl

-- a probe
went-due : (run : Run) (parts : Parts) (s near serial : ℕ) (x : ℕ) (frame : List ℕ) (lost a b : Bool) (p : List Own) (d : Due)
    → first_due (owed run s (if_open parts s (only a (Carries lost ∷ []) ++ only b (Goes_out serial near frame ∷ [])) ++ p)) ≡ Some d
    → (first_due (drop 1 (owed run s p)) ≡ Some d) ⊎ (first_due (owed run s p) ≡ Some d)
went-due run parts s near serial x frame lost true true p d e =
    elim (is_open (parts s)) as (λ y. first_due (owed run s (only y (Carries lost ∷ Goes_out serial near frame ∷ []) ++ p)) ≡ Some d
    → (first_due (drop 1 (owed run s p)) ≡ Some d) ⊎ (first_due (owed run s p) ≡ Some d)) [
      | true ↦ λ g. inl g
      | false ↦ λ g. inr g
    ] e
went-due run parts s near serial x frame lost false true p d e =
    elim (is_open (parts s)) as (λ y. first_due (owed run s (only y (Goes_out serial near frame ∷ []) ++ p)) ≡ Some d
    → (first_due (drop 1 (owed run s p)) ≡ Some d) ⊎ (first_due (owed run s p) ≡ Some d)) [
      | true ↦ λ g. inl g
      | false ↦ λ g. inr g
    ] e
went-due run parts s near serial x frame lost true false p d e =
    elim (is_open (parts s)) as (λ y. first_due (owed run s (only y (Carries lost ∷ []) ++ p)) ≡ Some d
    → (first_due (drop 1 (owed run s p)) ≡ Some d) ⊎ (first_due (owed run s p) ≡ Some d)) [
      | true ↦ λ g. inr g
      | false ↦ λ g. inr g
    ] e
went-due run parts s near serial x frame lost false false p d e = inr e

went-none : (run : Run) (f : List Moment) (r serial near : ℕ) (frame : List ℕ) (lost : Bool) (s : ℕ) (d : Due) → AllFit run s (part run s f) → Before run f
    → Comes run f (next run f) (Went r serial near frame lost) → is_alone (sort_of d) ≡ true
    → (first_due (drop 1 (owed run s (part run s f))) ≡ Some d) ⊎ (first_due (owed run s (part run s f)) ≡ Some d) → ⊥
went-none run f r serial near frame lost s d fit ih c a (inl e) = left-clash run s (part run s f) d fit e a
went-none run f r serial near frame lost s d fit ih c a (inr e) =
    went-clash run f s r d serial near frame lost (still-due run f (Went r serial near frame lost) s d ih c e a) a

some-of : {A : Type 0} (o : Option A) → IsSome o → (x : A) × (o ≡ Some x)
some-of None e = absurd (false≢true e)
some-of (Some x) e = (x, refl)

going-clash : {A : Type 0} (n : ℕ) (d : Due) → Some (Going n) ≡ Some d → is_alone (sort_of d) ≡ true → A
going-clash n d e a = absurd (false≢true (sym (ap (λ (x : Due). is_alone (sort_of x)) (sym (some-same (Going n) d e))) ∙ a))

-- the note of a probe: the session of the job sees it, and it is that of the answer
alone-probe : (run : Run) (f : List Moment) (serial number : ℕ) (x : Emission) (s : ℕ) (d : Due) → JustAnswered run f number kind.Probe → Before run f → is_alone (sort_of d) ≡ true
    → due_of run (Is (Noted (Probe serial number x)) ∷ f) s ≡ Some d → ⊥
alone-probe run (Is (Noted (Verdict answered kind)) ∷ f) serial number x s d just ih a e =
    let g = Is (Noted (Verdict answered kind)) ∷ f in
    let P = parts_of run g in
    let found = some-of (current run f number) just.2 in
    let j = found.0 in
    let at = current-of run f (job_of number f) j found.1 in
    let there_then = (three-true (is_open (part run j.session f)) (job_stands run (part run j.session f) j.number j.edit) (j.version == version run j.session f) at.1).0 in
    let same : current run f answered ≡ Some j = subst (λ (n : ℕ). current run f n ≡ Some j) (sym just.0) found.1 in
    let there : is_open (part run j.session g) ≡ true =
    ap is_open (judged-own run f answered kind j same) ∙ still-open (Judged j.number j.edit kind (j.version == version run j.session f)) (part run j.session f) refl there_then in
    elim (j.session == s) as (λ b. (j.session == s) ≡ b → ⊥) [
      | true ↦ λ y.
          let its : j.session ≡ s = same-of j.session s y in
          let first : first_due (owed run s (part run s (Is (Noted (Probe serial number x)) ∷ g))) ≡ Some (Going serial) =
          subst (λ (n : ℕ). first_due (owed run n (part run n (Is (Noted (Probe serial number x)) ∷ g))) ≡ Some (Going serial)) its (probed-own run g serial number x j at.0 there) in
          going-clash serial d (sym first ∙ e) a
      | false ↦ λ n.
          let unseen : part run s (Is (Noted (Probe serial number x)) ∷ g) ≡ part run s g =
          ap (λ (o : Option Job). if_open P s (probed_as run P s g serial o x) ++ part run s g) at.0
          ∙ ap (λ (b : Bool). if_open P s (probed_if b run P g serial j x) ++ part run s g) n in
          let by = (ih s d (ap (λ (xs : List Own). first_due (owed run s xs)) (sym unseen) ∙ e) a).by in
          let one : by.0 ≡ j = some-same by.0 j (sym by.1 ∙ (ap (λ (k : ℕ). job_of k f) just.0 ∙ at.0)) in
          false≢true (sym n ∙ (ap (λ (k : Job). k.session == s) (sym one) ∙ (ap (λ (k : ℕ). k == s) by.2 ∙ same-number s)))
    ] refl
alone-probe run f serial number x s d just ih a e = just

-- frames ------------------------------------------------------------------------------------

pub from-only : (b : Bool) (run : Run) (parts : Parts) (r : ℕ) (f : List Moment) (frame : List ℕ) → of_frame b run parts r f Controller frame ≡ only b (From_controller frame ∷ [])
from-only true run parts r f frame = refl
from-only false run parts r f frame = refl

alone-from-controller : {A : Type 0} (run : Run) (f : List Moment) (r : ℕ) (frame : List ℕ) (s : ℕ) (d : Due) → Quiet run f → is_alone (sort_of d) ≡ true
    → due_of run (Came r Controller frame ∷ f) s ≡ Some d → A
alone-from-controller run f r frame s d q a e =
    let P = parts_of run f in
    let one = single run f (Came r Controller frame) r (From_controller frame) s d
    (λ t. ap (λ (xs : List Own). if_open P t xs ++ part run t f) (from-only (r == t) run P r f frame)) q e in
    never (leads_to (From_controller [])) (sort_of d) frames-not one.leads a

abbrev head_or : Own → List Own → Own
head_or x [] = x
head_or x (o ∷ os) = o

with-is : (key : ℕ) (d : Option ℕ) (frame : List ℕ) (h : Header) (n : Option Nonce) (x : Own) (os : List Own) → returns_with key d frame h n ≡ x ∷ os
    → (serial : ℕ) × (seen : Seen) × (x ≡ Returns serial seen)
with-is key (Some d) frame h (Some n) x os e =
    elim (n.key == key) as (λ b. only b (Returns n.serial (seen_at d frame h) ∷ []) ≡ x ∷ os → (serial : ℕ) × (seen : Seen) × (x ≡ Returns serial seen)) [
      | true ↦ λ g. (n.serial, seen_at d frame h, sym (ap (head_or x) g))
      | false ↦ λ g. absurd (let k : [] ≡ x ∷ os = g in cc)
    ] e
with-is key (Some d) frame h None x os e = absurd (let k : [] ≡ x ∷ os = e in cc)
with-is key None frame h n x os e = absurd (let k : [] ≡ x ∷ os = e in cc)

pub returned-is : (key : ℕ) (parts : Parts) (r : ℕ) (frame : List ℕ) (o : Read) (x : Own) (os : List Own) → returns_in key parts r frame o ≡ x ∷ os
    → (serial : ℕ) × (seen : Seen) × (x ≡ Returns serial seen)
returned-is key parts r frame None x os e = absurd (let k : [] ≡ x ∷ os = e in cc)
returned-is key parts r frame (Some found) x os e = with-is key (datapath (parts r)) frame found.0 found.1 x os e

-- a session that is not open sees nothing of a frame
pub gone-came : (run : Run) (f : List Moment) (r s : ℕ) (side : Side) (frame : List ℕ) → is_open (part run s f) ≡ false → part run s (Came r side frame ∷ f) ≡ part run s f
gone-came run f r s side frame e =
    ap (λ (xs : List Own). xs ++ part run s f) (open-none (parts_of run f) s (sees run (parts_of run f) s f (Came r side frame)) e)

-- no return: the session of the switch sees the frame, and the others at most that a neighbour came
pub frame-own : (run : Run) (f : List Moment) (s : ℕ) (frame : List ℕ) → is_open (part run s f) ≡ true → returned run (parts_of run f) s Switch frame ≡ []
    → part run s (Came s Switch frame ∷ f) ≡ From_switch frame (taken_at run f s frame) ∷ part run s f
frame-own run f s frame there none =
    let P = parts_of run f in
    let p = part run s f in
    ap (λ (xs : List Own). if_open P s (xs ++ (returned run P s Switch frame ++ of_frame (s == s) run P s f Switch frame)) ++ p) (no-own-neighbour run P s (arms P s Switch frame))
    ∙ ap (λ (xs : List Own). if_open P s (xs ++ of_frame (s == s) run P s f Switch frame) ++ p) none
    ∙ ap (λ (b : Bool). if_open P s (of_frame b run P s f Switch frame) ++ p) (same-number s)
    ∙ ap (λ (b : Bool). only b (From_switch frame (taken_at run f s frame) ∷ []) ++ p) there

pub frame-other : (run : Run) (f : List Moment) (r t : ℕ) (frame : List ℕ) → returned run (parts_of run f) r Switch frame ≡ [] → (r == t) ≡ false
    → owed run t (part run t (Came r Switch frame ∷ f)) ≡ owed run t (part run t f)
frame-other run f r t frame none e =
    let P = parts_of run f in
    let near = neighbour_if run P t r (arms P r Switch frame) in
    ap (λ (xs : List Own). owed run t (if_open P t (near ++ (xs ++ of_frame (r == t) run P r f Switch frame)) ++ part run t f)) none
    ∙ ap (λ (b : Bool). owed run t (if_open P t (near ++ of_frame b run P r f Switch frame) ++ part run t f)) e
    ∙ ap (λ (xs : List Own). owed run t (if_open P t xs ++ part run t f)) (append-nil near)
    ∙ neighbour-owed run P t r (arms P r Switch frame) (part run t f)

alone-came : (run : Run) (f : List Moment) (r : ℕ) (frame : List ℕ) (s : ℕ) (d : Due) (back : List Own) → AllFit run s (part run s (Came r Switch frame ∷ f)) → Quiet run f → is_alone (sort_of d) ≡ true
    → returned run (parts_of run f) r Switch frame ≡ back → is_open (part run s f) ≡ true → due_of run (Came r Switch frame ∷ f) s ≡ Some d → Alone run (Came r Switch frame ∷ f) s d
alone-came run f r frame s d [] fit q a none there e =
    let g = Came r Switch frame ∷ f in
    elim (r == s) as (λ b. (r == s) ≡ b → Alone run g s d) [
      | true ↦ λ y.
          let same = same-of r s y in
          let own : part run s g ≡ From_switch frame (taken_at run f s frame) ∷ part run s f =
          subst (λ (n : ℕ). returned run (parts_of run f) n Switch frame ≡ [] → part run s (Came n Switch frame ∷ f) ≡ From_switch frame (taken_at run f s frame) ∷ part run s f) (sym same)
          (frame-own run f s frame there) none in
          record {
            next_is = only-one run g s d e (λ t x. ap first_due (frame-other run f r t frame none (differ r s t same x)) ∙ q t);
            by = (same, refl, from-one run s (From_switch frame (taken_at run f s frame)) (part run s f) (part run s g) d own (q s) e, own, q s);
          }
      | false ↦ λ n. absurd (let k : None ≡ Some d = sym (q s) ∙ (ap first_due (sym (frame-other run f r s frame none n)) ∙ e) in cc)
    ] refl
alone-came run f r frame s d (x ∷ os) fit q a back there e =
    let P = parts_of run f in
    let own = returned-own run f s r frame x os there back in
    let is = returned-is run.key P r frame (carried_in frame) x os back in
    let before = of_frame (r == s) run P r f Switch frame ++ part run s f in
    let seen : part run s (Came r Switch frame ∷ f) ≡ Returns is.0 is.1 ∷ before = own.1 ∙ ap (λ (y : Own). y ∷ before) is.2 in
    let fits = subst (AllFit run s) seen fit in
    never (leads_to (Returns is.0 is.1)) (sort_of d) (returns-not is.0 is.1)
    (from-one run s (Returns is.0 is.1) before (part run s (Came r Switch frame ∷ f)) d seen fits.0 e) a

came-or-not : (run : Run) (f : List Moment) (r : ℕ) (frame : List ℕ) (s : ℕ) (d : Due) → AllFit run s (part run s (Came r Switch frame ∷ f)) → Quiet run f → is_alone (sort_of d) ≡ true
    → due_of run (Came r Switch frame ∷ f) s ≡ Some d → Alone run (Came r Switch frame ∷ f) s d
came-or-not run f r frame s d fit q a e =
    elim (is_open (part run s f)) as (λ b. is_open (part run s f) ≡ b → Alone run (Came r Switch frame ∷ f) s d) [
      | true ↦ λ there. alone-came run f r frame s d (returned run (parts_of run f) r Switch frame) fit q a refl there e
      | false ↦ λ gone. unseen-none run s (part run s f) (part run s (Came r Switch frame ∷ f)) d (gone-came run f r s Switch frame gone) (q s) e
    ] refl

-- the whole -----------------------------------------------------------------------------------

ticks-alone : {A : Type 0} (run : Run) (f : List Moment) (s : ℕ) (d : Due) → Quiet run f → is_alone (sort_of d) ≡ true → due_of run (Is (Given Tick) ∷ f) s ≡ Some d → A
ticks-alone run f s d q a e =
    let P = parts_of run f in
    let p = part run s f in
    let v = version_for run P s f in
    absurd (elim (is_open p) as (λ b. is_open p ≡ b → ⊥) [
      | true ↦ λ y.
          never (leads_to (Ticks 0)) (sort_of d) ticks-not
          (from-one run s (Ticks v) p (part run s (Is (Given Tick) ∷ f)) d (ap (λ (b : Bool). only b (Ticks v ∷ []) ++ p) y) (q s) e) a
      | false ↦ λ n. unseen-none run s p (part run s (Is (Given Tick) ∷ f)) d (ap (λ (b : Bool). only b (Ticks v ∷ []) ++ p) n) (q s) e
    ] refl)

offers-alone : {A : Type 0} (run : Run) (f : List Moment) (job r k v s : ℕ) (d : Due) → Quiet run f → due_of run (Is (Noted (Offer job r k v)) ∷ f) s ≡ Some d → A
offers-alone run f job r k v s d q e =
    let one = single run f (Is (Noted (Offer job r k v))) r (Offers job k) s d (λ t. refl) q e in
    absurd (false≢true one.leads)

did-alone : {A : Type 0} (run : Run) (f : List Moment) (r : ℕ) (act : Act) (s : ℕ) (d : Due) → Quiet run f → is_alone (sort_of d) ≡ true → due_of run (Did r act ∷ f) s ≡ Some d → A
did-alone run f r act s d q a e =
    let one = single run f (Did r act) r (Acts act) s d (λ t. refl) q e in
    never (leads_to (Acts act)) (sort_of d) (acts-not act) one.leads a

-- what is due alone of a session comes next, and the newest moment, of that session, asked for it
pub alone : (run : Run) (f : List Moment) → HasRoom run f → FramesGoInOrder run f → ProbesSeparate run f → (s : ℕ) (d : Due) → due_of run f s ≡ Some d → is_alone (sort_of d) ≡ true
    → Alone run f s d
alone run [] room order probes s d e a = absurd (let g : None ≡ Some d = e in cc)
alone run (Is (Given Opened) ∷ f) room order probes s d e a = alone-opened run f s d (λ r. quiet-at run r f (Is (Given Opened)) refl order.1) e
alone run (Is (Given (Closed r)) ∷ f) room order probes s d e a = alone-closed run f r s d (λ t. quiet-at run t f (Is (Given (Closed r))) refl order.1) e
alone run (Is (Given Tick) ∷ f) room order probes s d e a = ticks-alone run f s d (λ t. quiet-at run t f (Is (Given Tick)) refl order.1) a e
alone run (Is (Given event) ∷ f) room order probes s d e a =
    unseen-none run s (part run s f) (part run s f) d refl (quiet-at run s f (Is (Given event)) refl order.1) e
alone run (Is (Noted (Offer job r k v)) ∷ f) room order probes s d e a = offers-alone run f job r k v s d (λ t. quiet-at run t f (Is (Noted (Offer job r k v))) refl order.1) e
alone run (Is (Noted (Verdict number kind)) ∷ f) room order probes s d e a =
    alone-verdict run f number kind s d (job_of number f) refl (λ t. quiet-at run t f (Is (Noted (Verdict number kind))) refl order.1) e
alone run (Is (Noted (Probe serial number x)) ∷ f) room order probes s d e a =
    absurd (alone-probe run f serial number x s d probes.1.0.0 (alone run f (room-before run (Is (Noted (Probe serial number x))) f room) order.2 probes.2) a e)
alone run (Is (Noted (Report l)) ∷ f) room order probes s d e a =
    absurd (alone-report run f l s d ((session_in l == s) && hears l (part run s f)) (all-fit run f order.2 probes.2 s) (all-live run f room s)
    (alone run f room order.2 probes.2) order.1 a refl e)
alone run (Is (Put r to frame lost) ∷ f) room order probes s d e a =
    alone-put run f r to frame lost s d (all-fit run f order.2 probes.2 s) (alone run f room order.2 probes.2) order.1 a e (sees-one (parts_of run f) s (r == s) (Sends to frame lost))
alone run (Is (End r) ∷ f) room order probes s d e a =
    alone-end run f r s d (all-fit run f order.2 probes.2 s) (all-live run f room s) (alone run f room order.2 probes.2) order.1 a e
alone run (Went r serial near frame lost ∷ f) room order probes s d e a =
    absurd (went-none run f r serial near frame lost s d (all-fit run f order.2 probes.2 s) (alone run f room order.2 probes.2) order.1 a
    (went-due run (parts_of run f) s near serial 0 frame lost (near == s) (r == s) (part run s f) d e))
alone run (Came r Controller frame ∷ f) room order probes s d e a = alone-from-controller run f r frame s d (λ t. quiet-at run t f (Came r Controller frame) refl order.1) a e
alone run (Came r Switch frame ∷ f) room order probes s d e a =
    came-or-not run f r frame s d (all-fit run (Came r Switch frame ∷ f) order probes s) (λ t. quiet-at run t f (Came r Switch frame) refl order.1) a e
alone run (Broke r side fault ∷ f) room order probes s d e a = alone-broke run f r side fault s d (λ t. quiet-at run t f (Broke r side fault) refl order.1) e
alone run (Did r act ∷ f) room order probes s d e a = did-alone run f r act s d (λ t. quiet-at run t f (Did r act) refl order.1) a e
