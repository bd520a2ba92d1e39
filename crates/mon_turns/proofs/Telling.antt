-- The closing of a stand-in is told right behind its frame, and that goes out right behind its step.
use Rattle.std.proofs.Common.{◌≡◌, ℕ, ◌+◌, Bool, true, false, ◌&&◌, List, [], ◌∷◌, ◌++◌, drop, Option, Some, None, refl, sym, ap, subst, ◌∙◌}
use Rattle.std.specs.Prelude.{◌==◌}
use Rattle.std.proofs.lemmas.Bool.{false≢true}
use Rattle.mon_outcome.specs.declared.emission.Emission.{Emission}
use Rattle.mon_report.specs.declared.line.Line.{Line}
use Rattle.mon_report.specs.declared.line.Line.TheVariants as line
use Rattle.mon_world.specs.declared.event.Side.{Side}
use Rattle.mon_world.specs.declared.event.Side.TheVariants.{Controller, Switch}
use Rattle.mon_world.specs.declared.event.Event.TheVariants.{Opened, Closed, Tick}
use Rattle.mon_world.specs.declared.event.Kind.{Kind}
use Rattle.mon_world.specs.declared.event.Note.TheVariants.{Offer, Verdict, Probe, Report}
use Rattle.mon_world.specs.declared.history.Entry.TheVariants.{Given, Noted, Put, End}
use Rattle.mon_legal.specs.Runs.{Run}
use Rattle.mon_legal.specs.Changing.{only}
use Rattle.mon_legal.specs.Owns.{Own, Act}
use Rattle.mon_legal.specs.Owns.Own.{Begins, From_controller, From_switch, Breaks, Closes, Ticks, Returns, Judged, Acts, Offers, Goes_out, Sends, Carries, Reports, Ends}
use Rattle.mon_legal.specs.Directly.{Due, owed}
use Rattle.mon_legal.specs.Directly.Due.{Frame, Tells, Ending, Probing, Going}
use Rattle.mon_legal.specs.Messages.{carried_in}
use Rattle.mon_legal.specs.Barriers.{is_armed}
use Rattle.mon_legal.specs.Moments.{Moment}
use Rattle.mon_legal.specs.Moments.Moment.{Is, Went, Came, Broke, Did}
use Rattle.mon_legal.specs.Jobs.{Job, job_of, openings}
use Rattle.mon_legal.specs.Sessions.{Parts, part, parts_of, is_open, hears, session_in, if_open, neighbour_if, returned, of_frame, judged_as, probed_as, probed_if, next_slot}
use Rattle.mon_legal.specs.Ordering.{Next, next, first_due, due_of}
use Rattle.mon_legal.specs.Ordering.Next.{Meets}
use Rattle.mon_legal.specs.Passing.{IsMet, Comes, FramesGoInOrder}
use Rattle.mon_legal.specs.Probing.{ProbesSeparate}
use Rattle.mon_legal.proofs.Coming.{some-same}
use Rattle.mon_legal.proofs.Fitting.{AllFit, all-fit, quiet-at, same-of}
use Rattle.mon_turns.specs.Opening.{HasRoom}
use Rattle.mon_turns.proofs.Dues.{empty-of}
use Rattle.mon_turns.proofs.Born.{same-number, turned}
use Rattle.mon_turns.proofs.Leads.{sort_of, leads_to}
use Rattle.mon_turns.proofs.Seeing.{taken_at, ended-own}
use Rattle.mon_turns.proofs.Asked.{returned-own, put-other}
use Rattle.mon_turns.proofs.Live.{all-live}
use Rattle.std.specs.Prelude.{◌⊎◌}
use Rattle.std.proofs.Common.{inl, inr}
use Rattle.mon_legal.specs.Directly.{cause_in}
use Rattle.mon_legal.specs.Sessions.{version_for}
use Rattle.mon_legal.proofs.Handled.{open-none}
use Rattle.mon_turns.proofs.Alone.{Sees, sees-one, only-one, stays-first, its-line, hears-due}
use Rattle.mon_turns.proofs.Alone.Sees.{Yes, No}
use Rattle.mon_legal.specs.Messages.{own_barrier}
use Rattle.mon_legal.specs.Barriers.{count}
use Rattle.mon_legal.specs.Owns.Act.{Closing, Reply, Plan, Step}
use Rattle.mon_legal.specs.Directly.{is_closing, is_output, fact}
use Rattle.mon_legal.specs.Owns.Own.{Probes}
use Rattle.mon_turns.proofs.Closings.{is_told, first_told, NoneTold, none-drop, none-first, drop-drop, quiet-untold, sends-leaves, late-untold}
use Rattle.mon_turns.proofs.Causes.{meeting, differ, line_told, end-dues, judged-only, from-only, gone-came, frame-own, frame-other, returned-is}
use Rattle.mon_turns.proofs.Leads.{Sort}
use Rattle.mon_turns.proofs.Seeing.{put-own}
use Rattle.mon_report.specs.declared.line.What.TheVariants as what
use Rattle.mon_turns.proofs.Lasts.{Ready, put-open}
use Rattle.mon_legal.specs.Sessions.{view_in, open_with_slot}
use Rattle.mon_shows.specs.Views.{observed}

abbrev second_told : List Due → Bool
second_told dues = first_told (drop 1 dues)

-- the closing is the step just taken
abbrev pub StepOf : Run → List Moment → ℕ → Type 0
StepOf run (Did r act ∷ f) q = (r ≡ q) × (is_closing (part run q (Did r act ∷ f)) ≡ true)
StepOf run f q = ⊥

-- or its frame was just put
abbrev pub ClosedBy : Run → List Moment → ℕ → Type 0
ClosedBy run (Is (Put r Switch frame lost) ∷ f) q = (r ≡ q) × (is_closing (part run q f) ≡ true)
ClosedBy run f q = ⊥

pub record Stepped (run : Run) (f : List Moment) (q : ℕ) : Type 0 where
  pub by : StepOf run f q
  pub frame : List ℕ
  pub next_is : next run f ≡ Meets q (Frame Switch frame)

pub record Told (run : Run) (f : List Moment) (q : ℕ) (d : Due) : Type 0 where
  pub by : ClosedBy run f q
  pub next_is : next run f ≡ Meets q d

abbrev pub AsStep : Run → List Moment → ℕ → Type 0
AsStep run f q = second_told (owed run q (part run q f)) ≡ true → Stepped run f q

abbrev pub AsFrame : Run → List Moment → ℕ → Type 0
AsFrame run f q = (d : Due) → first_due (owed run q (part run q f)) ≡ Some d → is_told (sort_of d) ≡ true → Told run f q d

abbrev pub Both : Run → List Moment → ℕ → Type 0
Both run f q = AsStep run f q × AsFrame run f q

none-second : (dues : List Due) → NoneTold dues → second_told dues ≡ false
none-second dues a = none-first (drop 1 dues) (none-drop dues a)

first-told : (dues : List Due) (d : Due) → first_due dues ≡ Some d → is_told (sort_of d) ≡ true → first_told dues ≡ true
first-told [] d e y = absurd (let g : None ≡ Some d = e in cc)
first-told (x ∷ dues) d e y = ap (λ (z : Due). is_told (sort_of z)) (some-same x d e) ∙ y

vacuous : (run : Run) (f : List Moment) (q : ℕ) → NoneTold (owed run q (part run q f)) → Both run f q
vacuous run f q a = (
  λ e. absurd (false≢true (sym (none-second (owed run q (part run q f)) a) ∙ e)),
  λ d e y. absurd (false≢true (sym (none-first (owed run q (part run q f)) a) ∙ first-told (owed run q (part run q f)) d e y)),
)

-- what meets a frame to the switch, and what meets what is told of a closing ------------------------

frame-met : (run : Run) (f : List Moment) (q : ℕ) (x : List ℕ) (m : Moment) → IsMet run f q (Frame Switch x) m → (lost : Bool) × (m ≡ Is (Put q Switch x lost))
frame-met run f q x m c = c

told-met : (run : Run) (f : List Moment) (q : ℕ) (d : Due) (m : Moment) → IsMet run f q d m → is_told (sort_of d) ≡ true → (l : Line) × (d ≡ Tells l) × (m ≡ Is (Noted (Report l)))
told-met run f q (Frame to x) m c y = absurd (false≢true y)
told-met run f q (Going n) m c y = absurd (false≢true y)
told-met run f q (Ending why) m c y = absurd (false≢true y)
told-met run f q (Probing job k) m c y = absurd (false≢true y)
told-met run f q (Tells l) m c y = (l, refl, c)

abbrev NotPut : ℕ → Moment → Type 0
NotPut q m = (x : List ℕ) (lost : Bool) → m ≡ Is (Put q Switch x lost) → ⊥

abbrev NotTold : Run → List Moment → ℕ → Moment → Type 0
NotTold run f q m = (l : Line) → first_due (owed run q (part run q f)) ≡ Some (Tells l) → m ≡ Is (Noted (Report l)) → ⊥

-- the step was not met by another moment
no-step : {A : Type 0} (run : Run) (f : List Moment) (q : ℕ) (m : Moment) → Comes run f (next run f) m → NotPut q m → Stepped run f q → A
no-step run f q m c k step =
    let met = subst (λ (n : Next). Comes run f n m) step.next_is c in
    absurd (k step.frame met.0 met.1)

-- nothing that is due changed
same-both : (run : Run) (f : List Moment) (q : ℕ) (m : Moment) → owed run q (part run q (m ∷ f)) ≡ owed run q (part run q f) → Both run f q → Comes run f (next run f) m → NotPut q m → NotTold run f q m
    → Both run (m ∷ f) q
same-both run f q m e b c k n = (
  λ y. no-step run f q m c k (b.0 (ap second_told (sym e) ∙ y)),
  λ d g y.
      let first : first_due (owed run q (part run q f)) ≡ Some d = ap first_due (sym e) ∙ g in
      let met = told-met run f q d m (subst (λ (n : Next). Comes run f n m) (b.1 d first y).next_is c) y in
      absurd (n met.0 (first ∙ ap (λ (x : Due). Some x) met.1) met.2),
)

-- the first that was due went
drop-both : (run : Run) (f : List Moment) (q : ℕ) (m : Moment) → owed run q (part run q (m ∷ f)) ≡ drop 1 (owed run q (part run q f)) → NoneTold (drop 2 (owed run q (part run q f))) → Both run f q
    → ((d : Due) → first_due (owed run q (part run q (m ∷ f))) ≡ Some d → Stepped run f q → Told run (m ∷ f) q d) → Both run (m ∷ f) q
drop-both run f q m e late b k = (
  λ y. absurd (false≢true (sym (none-first (drop 1 (drop 1 (owed run q (part run q f)))) (drop-drop (owed run q (part run q f)) late)) ∙ (ap second_told (sym e) ∙ y))),
  λ d g y. k d g (b.0 (first-told (drop 1 (owed run q (part run q f))) d (ap first_due (sym e) ∙ g) y)),
)

-- something else took its place
replaced-both : (run : Run) (f : List Moment) (q : ℕ) (m : Moment) (x : Due) → owed run q (part run q (m ∷ f)) ≡ x ∷ drop 1 (owed run q (part run q f)) → is_told (sort_of x) ≡ false → Both run f q
    → Comes run f (next run f) m → NotPut q m → Both run (m ∷ f) q
replaced-both run f q m x e n b c k = (
  λ y. no-step run f q m c k (b.0 (ap second_told (sym e) ∙ y)),
  λ d g y. absurd (false≢true (sym n ∙ (ap (λ (z : Due). is_told (sort_of z)) (some-same x d (ap first_due (sym e) ∙ g)) ∙ y))),
)

-- each moment -----------------------------------------------------------------------------------------

abbrev Quiet : Run → List Moment → Type 0
Quiet run f = (r : ℕ) → first_due (owed run r (part run r f)) ≡ None

unseen-both : (run : Run) (f : List Moment) (q : ℕ) (m : Moment) → owed run q (part run q (m ∷ f)) ≡ owed run q (part run q f) → Quiet run f → Both run (m ∷ f) q
unseen-both run f q m e k = vacuous run (m ∷ f) q (subst NoneTold (sym (e ∙ empty-of (owed run q (part run q f)) (k q))) tt)

-- a moment of one session that is no step
one-both : (run : Run) (f : List Moment) (q : ℕ) (m : Moment) (b : Bool) (o : Own) → part run q (m ∷ f) ≡ if_open (parts_of run f) q (only b (o ∷ [])) ++ part run q f → leads_to o Sort.Was_closing ≡ false
    → is_output o ≡ false → Quiet run f → Sees b (is_open (part run q f)) o (if_open (parts_of run f) q (only b (o ∷ [])) ++ part run q f) (part run q f) → Both run (m ∷ f) q
one-both run f q m b o is n out k (Yes its there seen) =
    vacuous run (m ∷ f) q (subst (λ (xs : List Own). NoneTold (owed run q xs)) (sym (is ∙ seen)) (quiet-untold run q o (part run q f) n (k q) out))
one-both run f q m b o is n out k (No unseen) = unseen-both run f q m (ap (owed run q) (is ∙ unseen)) k

single-both : (run : Run) (f : List Moment) (q : ℕ) (m : Moment) (b : Bool) (o : Own) → part run q (m ∷ f) ≡ if_open (parts_of run f) q (only b (o ∷ [])) ++ part run q f → leads_to o Sort.Was_closing ≡ false
    → is_output o ≡ false → Quiet run f → Both run (m ∷ f) q
single-both run f q m b o is n out k = one-both run f q m b o is n out k (sees-one (parts_of run f) q b o)

-- a step
did-act : (run : Run) (f : List Moment) (r q : ℕ) (act : Act) → Quiet run f → r ≡ q → part run q (Did r act ∷ f) ≡ Acts act ∷ part run q f
    → ((t : ℕ) → (t == q) ≡ false → due_of run (Did r act ∷ f) t ≡ None) → Both run (Did r act ∷ f) q
did-act run f r q (Closing n close) k same own others =
    let g = Did r (Closing n close) ∷ f in
    let dues : owed run q (part run q g) ≡ Frame Switch close.frame ∷ fact q (count (part run q f) + 1) what.Closing ∷ Frame Switch own_barrier ∷ owed run q (part run q f) = ap (owed run q) own in (
      λ y. record {
        by = (same, ap is_closing own);
        frame = close.frame;
        next_is = only-one run g q (Frame Switch close.frame) (ap first_due dues) others;
      },
      λ d e y. absurd (false≢true (ap (λ (x : Due). is_told (sort_of x)) (some-same (Frame Switch close.frame) d (sym (ap first_due dues) ∙ e)) ∙ y)),
    )
did-act run f r q (Reply frame) k same own others =
    vacuous run (Did r (Reply frame) ∷ f) q (subst NoneTold (sym (ap (owed run q) own ∙ ap (λ (ds : List Due). Frame Controller frame ∷ ds) (empty-of (owed run q (part run q f)) (k q)))) (refl, tt))
did-act run f r q (Plan frame) k same own others =
    vacuous run (Did r (Plan frame) ∷ f) q (subst NoneTold (sym (ap (owed run q) own ∙ empty-of (owed run q (part run q f)) (k q))) tt)
did-act run f r q (Step to frame change) k same own others =
    vacuous run (Did r (Step to frame change) ∷ f) q (subst NoneTold (sym (ap (owed run q) own ∙ ap (λ (ds : List Due). Frame to frame ∷ ds) (empty-of (owed run q (part run q f)) (k q)))) (refl, tt))

did-by : (run : Run) (f : List Moment) (r q : ℕ) (act : Act) → Quiet run f → Sees (r == q) (is_open (part run q f)) (Acts act) (part run q (Did r act ∷ f)) (part run q f) → Both run (Did r act ∷ f) q
did-by run f r q act k (Yes y there seen) =
    let same = same-of r q y in
    did-act run f r q act k same seen
    (λ t x. ap (λ (b : Bool). first_due (owed run t (if_open (parts_of run f) t (only b (Acts act ∷ [])) ++ part run t f))) (differ r q t same x) ∙ k t)
did-by run f r q act k (No unseen) = unseen-both run f q (Did r act) (ap (owed run q) unseen) k

-- a frame that is put
step-closing : (run : Run) (f : List Moment) (q : ℕ) → StepOf run f q → is_closing (part run q f) ≡ true
step-closing run (Did r act ∷ f) q s = s.1
step-closing run [] q s = absurd s
step-closing run (m ∷ f) q s = absurd s

abbrev side_put : Moment → Side
side_put (Is (Put r to frame lost)) = to
side_put m = Controller

abbrev putter : Moment → ℕ
putter (Is (Put r to frame lost)) = r
putter m = 0

abbrev is_put : Moment → Bool
is_put (Is (Put r to frame lost)) = true
is_put m = false

abbrev is_telling : Moment → Bool
is_telling (Is (Noted (Report l))) = true
is_telling m = false

not-put : (q : ℕ) (m : Moment) → is_put m ≡ false → NotPut q m
not-put q m n x lost e = false≢true (sym n ∙ ap is_put e)

not-telling : (run : Run) (f : List Moment) (q : ℕ) (m : Moment) → is_telling m ≡ false → NotTold run f q m
not-telling run f q m n l first e = false≢true (sym n ∙ ap is_telling e)

put-seen : (run : Run) (f : List Moment) (q : ℕ) (frame : List ℕ) (lost : Bool) → AllFit run q (part run q f) → Both run f q → part run q (Is (Put q Switch frame lost) ∷ f) ≡ Sends Switch frame lost ∷ part run q f
    → (owed run q (Sends Switch frame lost ∷ part run q f) ≡ drop 1 (owed run q (part run q f))) ⊎ NoneTold (owed run q (Sends Switch frame lost ∷ part run q f))
    → Both run (Is (Put q Switch frame lost) ∷ f) q
put-seen run f q frame lost fit b own (inr n) = vacuous run (Is (Put q Switch frame lost) ∷ f) q (subst (λ (xs : List Own). NoneTold (owed run q xs)) (sym own) n)
put-seen run f q frame lost fit b own (inl e) =
    let m = Is (Put q Switch frame lost) in
    drop-both run f q m (ap (owed run q) own ∙ e) (late-untold run q (part run q f) fit) b
    (λ d g step. record {
      by = (refl, step-closing run f q step.by);
      next_is = stays-first run f m q (Frame Switch step.frame) d refl step.next_is g
          (λ t x. ap (λ (xs : List Own). first_due (owed run t xs)) (put-other run f q t Switch frame lost (turned t q x)));
    })

put-both : (run : Run) (f : List Moment) (q : ℕ) (to : Side) (frame : List ℕ) (lost : Bool) → Ready run f → AllFit run q (part run q f) → Both run f q → Comes run f (next run f) (Is (Put q to frame lost))
    → is_open (part run q f) ≡ true → Both run (Is (Put q to frame lost) ∷ f) q
put-both run f q Switch frame lost ready fit b c there =
    put-seen run f q frame lost fit b (put-own run f q Switch frame lost there) (sends-leaves run q frame lost (part run q f) fit)
put-both run f q Controller frame lost ready fit b c there =
    let m = Is (Put q Controller frame lost) in
    drop-both run f q m (ap (owed run q) (put-own run f q Controller frame lost there)) (late-untold run q (part run q f) fit) b
    (λ d g step. no-step run f q m c (λ x l e. let z : Controller ≡ Switch = ap side_put e in cc) step)

-- a report
report-both : (run : Run) (f : List Moment) (l : Line) (q : ℕ) (b : Bool) → Ready run f → AllFit run q (part run q f) → Both run f q → Comes run f (next run f) (Is (Noted (Report l)))
    → ((session_in l == q) && hears l (part run q f)) ≡ b → Both run (Is (Noted (Report l)) ∷ f) q
report-both run f l q true ready fit both c y =
    let m = Is (Noted (Report l)) in
    drop-both run f q m (ap (λ (b : Bool). owed run q (only b (Reports l ∷ []) ++ [] ++ part run q f)) y) (late-untold run q (part run q f) fit) both
    (λ d g step. no-step run f q m c (not-put q m refl) step)
report-both run f l q false ready fit both c y =
    let m = Is (Noted (Report l)) in
    same-both run f q m (ap (λ (b : Bool). owed run q (only b (Reports l ∷ []) ++ [] ++ part run q f)) y) both c (not-put q m refl)
    (λ k first e.
    let same : l ≡ k = ap line_told e in
    let due : first_due (owed run q (part run q f)) ≡ Some (Tells l) = first ∙ ap (λ (x : Line). Some (Tells x)) (sym same) in
    let its : session_in l ≡ q = its-line run q (part run q f) l due in
    let heard : ((session_in l == q) && hears l (part run q f)) ≡ true =
    ap (λ (n : ℕ). (n == q) && hears l (part run q f)) its
    ∙ (ap (λ (x : Bool). x && hears l (part run q f)) (same-number q) ∙ hears-due run q (part run q f) l fit (all-live run f ready.room q) due) in
    false≢true (sym y ∙ heard))

-- an end
end-both : (run : Run) (f : List Moment) (r q : ℕ) → Both run f q → Comes run f (next run f) (Is (End r)) → Both run (Is (End r) ∷ f) q
end-both run f r q b c =
    let P = parts_of run f in
    let m = Is (End r) in
    elim (r == q) as (λ x. (r == q) ≡ x → Both run (m ∷ f) q) [
      | true ↦ λ y.
          let same = same-of r q y in
          elim (is_open (part run q f)) as (λ x. is_open (part run q f) ≡ x → Both run (m ∷ f) q) [
            | true ↦ λ there.
                let own : part run q (m ∷ f) ≡ Ends ∷ part run q f = subst (λ (n : ℕ). part run q (Is (End n) ∷ f) ≡ Ends ∷ part run q f) (sym same) (ended-own run f q there) in
                replaced-both run f q m (Tells (line.Closed q (cause_in (owed run q (part run q f))))) (ap (owed run q) own) refl b c (not-put q m refl)
            | false ↦ λ gone.
                same-both run f q m
                (ap (λ (xs : List Own). owed run q (xs ++ part run q f)) (open-none P q (only (r == q) (Ends ∷ []) ++ neighbour_if run P q r (is_armed (part run r f))) gone)) b c
                (not-put q m refl) (not-telling run f q m refl)
          ] refl
      | false ↦ λ n. same-both run f q m (end-dues run f r q n) b c (not-put q m refl) (not-telling run f q m refl)
    ] refl

-- a probe
went-owed : (run : Run) (parts : Parts) (q near serial : ℕ) (frame : List ℕ) (lost a b : Bool) (p : List Own)
    → (owed run q (if_open parts q (only a (Carries lost ∷ []) ++ only b (Goes_out serial near frame ∷ [])) ++ p) ≡ drop 1 (owed run q p))
    ⊎ (owed run q (if_open parts q (only a (Carries lost ∷ []) ++ only b (Goes_out serial near frame ∷ [])) ++ p) ≡ owed run q p)
went-owed run parts q near serial frame lost true true p =
    elim (is_open (parts q)) as (λ y. (owed run q (only y (Carries lost ∷ Goes_out serial near frame ∷ []) ++ p) ≡ drop 1 (owed run q p))
    ⊎ (owed run q (only y (Carries lost ∷ Goes_out serial near frame ∷ []) ++ p) ≡ owed run q p)) [
      | true ↦ inl refl
      | false ↦ inr refl
    ]
went-owed run parts q near serial frame lost false true p =
    elim (is_open (parts q)) as (λ y. (owed run q (only y (Goes_out serial near frame ∷ []) ++ p) ≡ drop 1 (owed run q p)) ⊎ (owed run q (only y (Goes_out serial near frame ∷ []) ++ p) ≡ owed run q p)) [
      | true ↦ inl refl
      | false ↦ inr refl
    ]
went-owed run parts q near serial frame lost true false p =
    elim (is_open (parts q)) as (λ y. (owed run q (only y (Carries lost ∷ []) ++ p) ≡ drop 1 (owed run q p)) ⊎ (owed run q (only y (Carries lost ∷ []) ++ p) ≡ owed run q p)) [
      | true ↦ inr refl
      | false ↦ inr refl
    ]
went-owed run parts q near serial frame lost false false p = inr refl

went-by : (run : Run) (f : List Moment) (q : ℕ) (m : Moment) → AllFit run q (part run q f) → Both run f q → Comes run f (next run f) m → is_put m ≡ false → is_telling m ≡ false
    → (owed run q (part run q (m ∷ f)) ≡ drop 1 (owed run q (part run q f))) ⊎ (owed run q (part run q (m ∷ f)) ≡ owed run q (part run q f)) → Both run (m ∷ f) q
went-by run f q m fit b c n t (inl e) = drop-both run f q m e (late-untold run q (part run q f) fit) b (λ d g step. no-step run f q m c (not-put q m n) step)
went-by run f q m fit b c n t (inr e) = same-both run f q m e b c (not-put q m n) (not-telling run f q m t)

probe-job : (run : Run) (f : List Moment) (q serial number : ℕ) (x : Emission) (o : Option Job) → job_of number f ≡ o → Both run f q → Comes run f (next run f) (Is (Noted (Probe serial number x)))
    → Both run (Is (Noted (Probe serial number x)) ∷ f) q
probe-job run f q serial number x None is b c =
    let m = Is (Noted (Probe serial number x)) in
    same-both run f q m (ap (λ (o : Option Job). owed run q (if_open (parts_of run f) q (probed_as run (parts_of run f) q f serial o x) ++ part run q f)) is) b c (not-put q m refl) (not-telling run f q m refl)
probe-job run f q serial number x (Some j) is b c =
    let m = Is (Noted (Probe serial number x)) in
    let P = parts_of run f in
    let p = part run q f in
    let first = ap (λ (o : Option Job). owed run q (if_open P q (probed_as run P q f serial o x) ++ p)) is in
    elim (j.session == q) as (λ y. (j.session == q) ≡ y → Both run (m ∷ f) q) [
      | true ↦ λ y.
          let second = first ∙ ap (λ (a : Bool). owed run q (if_open P q (probed_if a run P f serial j x) ++ p)) y in
          elim (is_open p) as (λ a. is_open p ≡ a → Both run (m ∷ f) q) [
            | true ↦ λ there.
                replaced-both run f q m (Going serial)
                (second ∙ ap (λ (a : Bool). owed run q (only a (Probes serial j.edit (version_for run P j.session f) x (observed (view_in run P (open_with_slot run f) j.session) x) ∷ []) ++ p)) there) refl b c (not-put q m refl)
            | false ↦ λ gone.
                same-both run f q m
                (second ∙ ap (λ (a : Bool). owed run q (only a (Probes serial j.edit (version_for run P j.session f) x (observed (view_in run P (open_with_slot run f) j.session) x) ∷ []) ++ p)) gone) b c
                (not-put q m refl) (not-telling run f q m refl)
          ] refl
      | false ↦ λ n.
          same-both run f q m (first ∙ ap (λ (a : Bool). owed run q (if_open P q (probed_if a run P f serial j x) ++ p)) n) b c (not-put q m refl) (not-telling run f q m refl)
    ] refl

-- a frame that is handled
came-by : (run : Run) (f : List Moment) (r q : ℕ) (frame : List ℕ) (back : List Own) → AllFit run q (part run q (Came r Switch frame ∷ f)) → Quiet run f → returned run (parts_of run f) r Switch frame ≡ back
    → is_open (part run q f) ≡ true → Both run (Came r Switch frame ∷ f) q
came-by run f r q frame [] fit k none there =
    let g = Came r Switch frame ∷ f in
    elim (r == q) as (λ b. (r == q) ≡ b → Both run g q) [
      | true ↦ λ y.
          let same = same-of r q y in
          let own : part run q g ≡ From_switch frame (taken_at run f q frame) ∷ part run q f =
          subst (λ (n : ℕ). returned run (parts_of run f) n Switch frame ≡ [] → part run q (Came n Switch frame ∷ f) ≡ From_switch frame (taken_at run f q frame) ∷ part run q f) (sym same)
          (frame-own run f q frame there) none in
          vacuous run g q (subst (λ (xs : List Own). NoneTold (owed run q xs)) (sym own) (quiet-untold run q (From_switch frame (taken_at run f q frame)) (part run q f) refl (k q) refl))
      | false ↦ λ n. unseen-both run f q (Came r Switch frame) (frame-other run f r q frame none n) k
    ] refl
came-by run f r q frame (x ∷ os) fit k back there =
    let P = parts_of run f in
    let own = returned-own run f q r frame x os there back in
    let is = returned-is run.key P r frame (carried_in frame) x os back in
    let before = of_frame (r == q) run P r f Switch frame ++ part run q f in
    let seen : part run q (Came r Switch frame ∷ f) ≡ Returns is.0 is.1 ∷ before = own.1 ∙ ap (λ (y : Own). y ∷ before) is.2 in
    let fits = subst (AllFit run q) seen fit in
    vacuous run (Came r Switch frame ∷ f) q (subst (λ (xs : List Own). NoneTold (owed run q xs)) (sym seen) (quiet-untold run q (Returns is.0 is.1) before refl fits.0 refl))

came-both : (run : Run) (f : List Moment) (r q : ℕ) (frame : List ℕ) → AllFit run q (part run q (Came r Switch frame ∷ f)) → Quiet run f → Both run (Came r Switch frame ∷ f) q
came-both run f r q frame fit k =
    elim (is_open (part run q f)) as (λ b. is_open (part run q f) ≡ b → Both run (Came r Switch frame ∷ f) q) [
      | true ↦ λ there. came-by run f r q frame (returned run (parts_of run f) r Switch frame) fit k refl there
      | false ↦ λ gone. unseen-both run f q (Came r Switch frame) (ap (owed run q) (gone-came run f r q Switch frame gone)) k
    ] refl

-- an answer
verdict-both : (run : Run) (f : List Moment) (number : ℕ) (kind : Kind) (q : ℕ) (o : Option Job) → job_of number f ≡ o → Quiet run f → Both run (Is (Noted (Verdict number kind)) ∷ f) q
verdict-both run f number kind q None is k =
    unseen-both run f q (Is (Noted (Verdict number kind))) (ap (λ (o : Option Job). owed run q (if_open (parts_of run f) q (judged_as run (parts_of run f) q f o kind) ++ part run q f)) is) k
verdict-both run f number kind q (Some j) is k =
    let P = parts_of run f in
    single-both run f q (Is (Noted (Verdict number kind))) (j.session == q) (Judged j.number j.edit kind (j.version == version_for run P j.session f))
    (ap (λ (o : Option Job). if_open P q (judged_as run P q f o kind) ++ part run q f) is ∙ ap (λ (xs : List Own). if_open P q xs ++ part run q f) (judged-only (j.session == q) run P f j kind)) refl refl k

opened-both : (run : Run) (f : List Moment) (q : ℕ) (b : Bool) → (openings run f == q) ≡ b → Quiet run f → Both run (Is (Given Opened) ∷ f) q
opened-both run f q true y k =
    vacuous run (Is (Given Opened) ∷ f) q
    (subst (λ (a : Bool). NoneTold (owed run q (only a (Begins (next_slot run f) ∷ []) ++ [] ++ part run q f))) (sym y) (quiet-untold run q (Begins (next_slot run f)) (part run q f) refl (k q) refl))
opened-both run f q false n k =
    unseen-both run f q (Is (Given Opened)) (ap (λ (a : Bool). owed run q (only a (Begins (next_slot run f) ∷ []) ++ [] ++ part run q f)) n) k

tick-both : (run : Run) (f : List Moment) (q : ℕ) (b : Bool) → is_open (part run q f) ≡ b → Quiet run f → Both run (Is (Given Tick) ∷ f) q
tick-both run f q true y k =
    let v = version_for run (parts_of run f) q f in
    vacuous run (Is (Given Tick) ∷ f) q
    (subst (λ (a : Bool). NoneTold (owed run q (only a (Ticks v ∷ []) ++ part run q f))) (sym y) (quiet-untold run q (Ticks v) (part run q f) refl (k q) refl))
tick-both run f q false n k =
    let v = version_for run (parts_of run f) q f in
    unseen-both run f q (Is (Given Tick)) (ap (λ (a : Bool). owed run q (only a (Ticks v ∷ []) ++ part run q f)) n) k

put-any : (run : Run) (f : List Moment) (r q : ℕ) (to : Side) (frame : List ℕ) (lost : Bool) → Ready run f → AllFit run q (part run q f) → Both run f q → FramesGoInOrder run (Is (Put r to frame lost) ∷ f)
    → Both run (Is (Put r to frame lost) ∷ f) q
put-any run f r q to frame lost ready fit b order =
    let m = Is (Put r to frame lost) in
    elim (r == q) as (λ x. (r == q) ≡ x → Both run (m ∷ f) q) [
      | true ↦ λ y.
          let same = same-of r q y in
          let there : is_open (part run q f) ≡ true = subst (λ (n : ℕ). is_open (part run n f) ≡ true) same (put-open run f r to frame lost ready (meeting run f (next run f) m refl order.1)) in
          subst (λ (n : ℕ). Both run (Is (Put n to frame lost) ∷ f) q) (sym same)
          (put-both run f q to frame lost ready fit b (subst (λ (n : ℕ). Comes run f (next run f) (Is (Put n to frame lost))) same order.1) there)
      | false ↦ λ n.
          same-both run f q m (ap (owed run q) (put-other run f r q to frame lost n)) b order.1
          (λ x l e. false≢true (sym n ∙ (ap (λ (k : ℕ). k == q) (ap putter e) ∙ same-number q))) (not-telling run f q m refl)
    ] refl

-- wherever everything came in its order
pub both : (run : Run) (f : List Moment) → HasRoom run f → FramesGoInOrder run f → ProbesSeparate run f → (q : ℕ) → Both run f q
both run [] room order probes q = vacuous run [] q tt
both run (Is (Given Opened) ∷ f) room order probes q = opened-both run f q (openings run f == q) refl (λ t. quiet-at run t f (Is (Given Opened)) refl order.1)
both run (Is (Given (Closed r)) ∷ f) room order probes q = single-both run f q (Is (Given (Closed r))) (r == q) Closes refl refl refl (λ t. quiet-at run t f (Is (Given (Closed r))) refl order.1)
both run (Is (Given Tick) ∷ f) room order probes q = tick-both run f q (is_open (part run q f)) refl (λ t. quiet-at run t f (Is (Given Tick)) refl order.1)
both run (Is (Given event) ∷ f) room order probes q = unseen-both run f q (Is (Given event)) refl (λ t. quiet-at run t f (Is (Given event)) refl order.1)
both run (Is (Noted (Offer job r k v)) ∷ f) room order probes q =
    single-both run f q (Is (Noted (Offer job r k v))) (r == q) (Offers job k) refl refl refl (λ t. quiet-at run t f (Is (Noted (Offer job r k v))) refl order.1)
both run (Is (Noted (Verdict number kind)) ∷ f) room order probes q =
    verdict-both run f number kind q (job_of number f) refl (λ t. quiet-at run t f (Is (Noted (Verdict number kind))) refl order.1)
both run (Is (Noted (Probe serial number x)) ∷ f) room order probes q = probe-job run f q serial number x (job_of number f) refl (both run f room order.2 probes.2 q) order.1
both run (Is (Noted (Report l)) ∷ f) room order probes q =
    report-both run f l q ((session_in l == q) && hears l (part run q f)) (record { room = room; order = order.2; probes = probes.2 }) (all-fit run f order.2 probes.2 q)
    (both run f room order.2 probes.2 q) order.1 refl
both run (Is (Put r to frame lost) ∷ f) room order probes q =
    put-any run f r q to frame lost (record { room = room; order = order.2; probes = probes.2 }) (all-fit run f order.2 probes.2 q) (both run f room order.2 probes.2 q) order
both run (Is (End r) ∷ f) room order probes q = end-both run f r q (both run f room order.2 probes.2 q) order.1
both run (Went r serial near frame lost ∷ f) room order probes q =
    went-by run f q (Went r serial near frame lost) (all-fit run f order.2 probes.2 q) (both run f room order.2 probes.2 q) order.1 refl refl
    (went-owed run (parts_of run f) q near serial frame lost (near == q) (r == q) (part run q f))
both run (Came r Controller frame ∷ f) room order probes q =
    single-both run f q (Came r Controller frame) (r == q) (From_controller frame)
    (ap (λ (xs : List Own). if_open (parts_of run f) q xs ++ part run q f) (from-only (r == q) run (parts_of run f) r f frame)) refl refl (λ t. quiet-at run t f (Came r Controller frame) refl order.1)
both run (Came r Switch frame ∷ f) room order probes q =
    came-both run f r q frame (all-fit run (Came r Switch frame ∷ f) order probes q) (λ t. quiet-at run t f (Came r Switch frame) refl order.1)
both run (Broke r side fault ∷ f) room order probes q = single-both run f q (Broke r side fault) (r == q) (Breaks fault) refl refl refl (λ t. quiet-at run t f (Broke r side fault) refl order.1)
both run (Did r act ∷ f) room order probes q =
    did-by run f r q act (λ t. quiet-at run t f (Did r act) refl order.1) (sees-one (parts_of run f) q (r == q) (Acts act))
