-- A stale answer leads to offers alone, because nothing is due behind it.
use Rattle.std.proofs.Common.{◌≡◌, ℕ, Bool, true, false, cond, ◌&&◌, ◌||◌, List, [], ◌∷◌, ◌++◌, Option, Some, None, option_map, refl, sym, ap, subst, ◌∙◌}
use Rattle.std.specs.Prelude.{◌==◌, is_none, not}
use Rattle.std.specs.List.{AllByRecursion}
use Rattle.of_frame.specs.declared.fault.FrameFault.{FrameFault}
use Rattle.mon_world.specs.declared.event.Kind.TheVariants as kind
use Rattle.mon_legal.specs.Lines.{AtTurn}
use Rattle.mon_legal.specs.Truths.{NoteIsTrue}
use Rattle.mon_legal.specs.Changing.{only}
use Rattle.std.proofs.lemmas.Bool.{false≢true}
use Rattle.mon_table.specs.declared.rule.Rule.{Rule}
use Rattle.mon_shows.specs.Views.{Viewing}
use Rattle.mon_barriers.specs.declared.barriers.Reply.{Reply as Kept}
use Rattle.mon_world.specs.declared.event.Kind.{Kind}
use Rattle.mon_world.specs.declared.event.Kind.TheVariants.{Skipped}
use Rattle.mon_world.specs.declared.event.Note.TheVariants.{Offer, Verdict, Probe, Report}
use Rattle.mon_legal.specs.Runs.{Run}
use Rattle.mon_legal.specs.Owns.{Own, Act}
use Rattle.mon_legal.specs.Directly as Directly
use Rattle.mon_legal.specs.Answers as Answers
use Rattle.mon_legal.specs.Answers.{in_stale_turn, current, current_in}
use Rattle.mon_legal.specs.Sessions.{part, parts_of, is_open, opened, view, if_open, judged_as, judged_if, has_lost, version, has_ended, lost_one}
use Rattle.mon_legal.specs.Moments.{Moment, begins}
use Rattle.mon_legal.specs.Stale.{SkipsStale, StaleAreIgnored, is_offer}
use Rattle.mon_legal.specs.Truths.{AnswersAreTrue, IsTrueOf}
use Rattle.mon_legal.specs.Passing.{Comes, FramesGoInOrder}
use Rattle.mon_legal.proofs.Coming.{is_nothing, none-acts, first-none}
use Rattle.mon_legal.proofs.Fitting.{opened-or-none, nothing-due, same-of}
use Rattle.mon_legal.proofs.Handled.{piece-done, open-all, open-none}
use Rattle.mon_legal.specs.Edits.{Passed, expected, unsettled}
use Rattle.mon_legal.specs.Ordering.{Next, act_of, due_of, fault_in, first_due, first_with, lost_of, next, next_frame, or_next, piece_of, rest_of_frames, rest_of_piece, want_of, with_its}
use Rattle.mon_legal.specs.Directly.{Due, on_judged, owed}
use Rattle.mon_legal.specs.Ordering.Next.{Breaks_off, Handles, Loses, Meets, Nothing, Takes, Wants}
use Rattle.mon_legal.specs.Barriers.{is_armed, kept}
use Rattle.mon_legal.specs.Held.{Part, Postponed, act_due, awaited_by, due_act, due_closing, due_reply, due_step, may_if, or_else, postponed, step_of, under_way, waiting}
use Rattle.mon_legal.specs.Moments.Moment.{Broke, Came, Did, Is, Went}
use Rattle.mon_world.specs.declared.history.Entry.TheVariants.{End, Given, Noted, Put}
use Rattle.mon_legal.specs.Owns.Own.{Judged, Offers}
use Rattle.mon_world.specs.declared.event.Side.{Side}
use Rattle.mon_legal.specs.Datapaths.{catching}
use Rattle.mon_legal.specs.Jobs.{Job, job_of}

-- nothing is due or to be done of any session, and the piece is done
record Calm (run : Run) (f : List Moment) : Type 0 where
  pub dues : (s : ℕ) → owed run s (part run s f) ≡ []
  pub acts : (s : ℕ) → act_of run f s ≡ None
  pub losses : (s : ℕ) → has_lost (part run s f) ≡ false
  pub piece : rest_of_piece run f (piece_of f) ≡ None

-- where nothing comes next -----------------------------------------------------

no-losses-in : (x : Option (ℕ × Due)) (y : Option (ℕ × Act)) (z : Option (ℕ × Unit {0})) (rest : Next)
    → is_nothing (or_next (option_map (λ p. Meets p.0 p.1) x) (or_next (option_map (λ p. Takes p.0 p.1) y) (or_next (option_map (λ p. Loses p.0) z) rest))) ≡ true → z ≡ None
no-losses-in (Some p) y z rest e = absurd (false≢true e)
no-losses-in None (Some p) z rest e = absurd (false≢true e)
no-losses-in None None (Some p) rest e = absurd (false≢true e)
no-losses-in None None None rest e = refl

none-lost : (run : Run) (f : List Moment) → next run f ≡ Nothing → first_with (lost_of run f) (opened run f) ≡ None
unfolding next
none-lost run f e =
    no-losses-in (first_with (due_of run f) (opened run f)) (first_with (act_of run f) (opened run f)) (first_with (lost_of run f) (opened run f)) _ (ap is_nothing e)

abbrev lost_if : Bool → Option (Unit {0})
lost_if b = cond b (Some tt) None

abbrev is_lost : Option (Unit {0}) → Bool
is_lost None = false
is_lost (Some u) = true

not-lost : (b : Bool) → lost_if b ≡ None → b ≡ false
not-lost true e = ap is_lost e
not-lost false e = refl

kept-all : (run : Run) (f : List Moment) (ss : List ℕ) → AllByRecursion (λ s. lost_of run f s ≡ None) ss → AllByRecursion (λ s. has_lost (part run s f) ≡ false) ss
kept-all run f [] a = tt
kept-all run f (s ∷ ss) a = (not-lost (has_lost (part run s f)) a.0, kept-all run f ss a.1)

calm-where-nothing : (run : Run) (f : List Moment) → next run f ≡ Nothing → Calm run f
calm-where-nothing run f e = record {
  dues = λ s. nothing-due run f s e;
  acts = λ s. opened-or-none run s (λ r. act_of run f r ≡ None) f (none-acts run f e)
      (λ n. ap (λ (seen : List Own). cond (is_open seen) (due_act run (view run s f) seen) None) n);
  losses = λ s. opened-or-none run s (λ r. has_lost (part run r f) ≡ false) f
      (kept-all run f (opened run f) (first-none (lost_of run f) (opened run f) (none-lost run f e)))
      (λ n. ap has_lost n);
  piece = piece-done run f e;
}

-- where all is calm an offer comes, or the next turn -----------------------------

all-none : {A : Type 0} (what : ℕ → Option A) (ss : List ℕ) → ((s : ℕ) → what s ≡ None) → first_with what ss ≡ None
all-none what [] k = refl
all-none what (s ∷ ss) k = ap (λ o. with_its s o (first_with what ss)) (k s) ∙ all-none what ss k

first-empty : (dues : List Due) → dues ≡ [] → first_due dues ≡ None
first-empty dues e = ap first_due e

abbrev is_wants_or_nothing : Next → Bool
is_wants_or_nothing (Wants s k) = true
is_wants_or_nothing Nothing = true
is_wants_or_nothing n = false

last-two : (x : Option (ℕ × Due)) (y : Option (ℕ × Act)) (z : Option (ℕ × Unit {0})) (a : Option Next) (w : Option (ℕ × ℕ)) → x ≡ None → y ≡ None → z ≡ None → a ≡ None
    → is_wants_or_nothing (or_next (option_map (λ p. Meets p.0 p.1) x) (or_next (option_map (λ p. Takes p.0 p.1) y) (or_next (option_map (λ p. Loses p.0) z) (or_next a (or_next (option_map (λ p. Wants p.0 p.1) w) Nothing))))) ≡ true
last-two (Some p) y z a w e f g h = absurd (let q : Some p ≡ None = e in cc)
last-two None (Some p) z a w e f g h = absurd (let q : Some p ≡ None = f in cc)
last-two None None (Some p) a w e f g h = absurd (let q : Some p ≡ None = g in cc)
last-two None None None (Some n) w e f g h = absurd (let q : Some n ≡ None = h in cc)
last-two None None None None (Some p) e f g h = refl
last-two None None None None None e f g h = refl

calm-next : (run : Run) (f : List Moment) → Calm run f → is_wants_or_nothing (next run f) ≡ true
unfolding next
calm-next run f calm =
    let all = opened run f in
    last-two (first_with (due_of run f) all) (first_with (act_of run f) all) (first_with (lost_of run f) all) (rest_of_piece run f (piece_of f)) (first_with (want_of run f) all)
    (all-none (due_of run f) all (λ s. first-empty (owed run s (part run s f)) (calm.dues s)))
    (all-none (act_of run f) all calm.acts)
    (all-none (lost_of run f) all (λ s. ap (λ (b : Bool). cond b (Some tt) None) (calm.losses s)))
    calm.piece

offer-or-turn : (run : Run) (f : List Moment) (n : Next) (m : Moment) → is_wants_or_nothing n ≡ true → Comes run f n m → (begins m || is_offer m) ≡ true
offer-or-turn run f (Wants s k) m y c = ap (λ (q : Moment). begins q || is_offer q) c
offer-or-turn run f Nothing m y c = ap (λ (b : Bool). b || is_offer m) c
offer-or-turn run f (Meets s due) m y c = absurd (false≢true y)
offer-or-turn run f (Takes s act) m y c = absurd (false≢true y)
offer-or-turn run f (Loses s) m y c = absurd (false≢true y)
offer-or-turn run f (Handles s side frame) m y c = absurd (false≢true y)
offer-or-turn run f (Breaks_off s side fault) m y c = absurd (false≢true y)

-- an entry that changes nothing of all this ------------------------------------

-- whether a step is due does not depend on the view
step-view : (v w : Viewing) (t : List Rule) (edits : List Passed) (waits : List (List ℕ)) (parts : List Part) → due_step v t edits waits parts ≡ None → due_step w t edits waits parts ≡ None
step-view v w t edits waits [] e = e
step-view v w t edits waits (part ∷ later) e =
    elim (may_if (awaited_by part) edits) as (λ b. cond b (Some (step_of v t part)) None ≡ None → cond b (Some (step_of w t part)) None ≡ None) [
      | true ↦ λ g. absurd (let q : Some (step_of v t part) ≡ None = g in cc)
      | false ↦ λ g. refl
    ] e

third-view : (a b c d : Option Act) → (c ≡ None → d ≡ None) → or_else a (or_else b c) ≡ None → or_else a (or_else b d) ≡ None
third-view (Some x) b c d k e = absurd (let q : Some x ≡ None = e in cc)
third-view None (Some y) c d k e = absurd (let q : Some y ≡ None = e in cc)
third-view None None c d k e = k e

due-view : (armed : Bool) (v w : Viewing) (t : List Rule) (edits : List Passed) (closings : List Postponed) (keeps : List Kept) (waits : List (List ℕ)) (parts : List Part)
    → act_due armed v t edits closings keeps waits parts ≡ None → act_due armed w t edits closings keeps waits parts ≡ None
due-view false v w t edits closings keeps waits parts e = refl
due-view true v w t edits closings keeps waits parts e =
    third-view (due_closing edits closings) (due_reply edits keeps) (due_step v t edits waits parts) (due_step w t edits waits parts) (step-view v w t edits waits parts) e

act-view : (run : Run) (v w : Viewing) (seen : List Own) → due_act run v seen ≡ None → due_act run w seen ≡ None
act-view run v w seen e =
    due-view (is_armed seen) v w (expected (catching run seen) seen) (unsettled seen) (postponed seen) (kept seen) (waiting seen) (under_way run seen) e

open-act : (run : Run) (v w : Viewing) (seen : List Own) → cond (is_open seen) (due_act run v seen) None ≡ None → cond (is_open seen) (due_act run w seen) None ≡ None
open-act run v w seen e =
    elim (is_open seen) as (λ b. cond b (due_act run v seen) None ≡ None → cond b (due_act run w seen) None ≡ None) [
      | true ↦ act-view run v w seen
      | false ↦ λ g. refl
    ] e

-- a job of the session is answered too late or offered: nothing of it changes
abbrev Harmless : Run → ℕ → List Own → Own → Type 0
Harmless run s before (Judged job k kind fresh) = Directly.is_current run before job k fresh ≡ false
Harmless run s before (Offers job k) = Unit {0}
Harmless run s before o = ⊥

abbrev AllHarmless : Run → ℕ → List Own → List Own → Type 0
AllHarmless run s before [] = Unit {0}
AllHarmless run s before (o ∷ []) = Harmless run s before o
AllHarmless run s before (o ∷ p ∷ os) = ⊥

still-due : (run : Run) (s : ℕ) (before os : List Own) → AllHarmless run s before os → owed run s before ≡ [] → owed run s (os ++ before) ≡ []
still-due run s before [] h e = e
still-due run s before (Judged job k kind fresh ∷ []) h e =
    ap (λ (b : Bool). cond b (on_judged run s before job k kind) [] ++ owed run s before) h ∙ e
still-due run s before (Offers job k ∷ []) h e = e
still-due run s before (o ∷ []) h e = absurd h
still-due run s before (o ∷ p ∷ os) h e = absurd h

-- what stays of a session
record Stays (run : Run) (before after : List Own) : Type 0 where
  pub act : (v : Viewing) → due_act run v after ≡ due_act run v before
  pub there : is_open after ≡ is_open before
  pub lost : has_lost after ≡ has_lost before

still-there : (o : Own) (before : List Own) → has_ended (o ∷ before) ≡ has_ended before → is_open before ≡ true → is_open (o ∷ before) ≡ is_open before
still-there o [] e y = absurd (false≢true y)
still-there o (p ∷ before) e y = ap not e

one-stays : (run : Run) (s : ℕ) (before os : List Own) → AllHarmless run s before os → is_open before ≡ true → Stays run before (os ++ before)
one-stays run s before [] h y = record { act = λ v. refl; there = refl; lost = refl }
one-stays run s before (Judged job k kind fresh ∷ []) h y =
    let there = still-there (Judged job k kind fresh) before refl y in
    record { act = λ v. refl; there = there; lost = ap (λ (b : Bool). b && lost_one before) there }
one-stays run s before (Offers job k ∷ []) h y =
    let there = still-there (Offers job k) before refl y in
    record { act = λ v. refl; there = there; lost = ap (λ (b : Bool). b && lost_one before) there }
one-stays run s before (o ∷ []) h y = absurd h
one-stays run s before (o ∷ p ∷ os) h y = absurd h

stays : (run : Run) (s : ℕ) (f : List Moment) (os : List Own) → (is_open (part run s f) ≡ true → AllHarmless run s (part run s f) os)
    → Stays run (part run s f) (if_open (parts_of run f) s os ++ part run s f)
stays run s f os k =
    elim (is_open (part run s f)) as (λ b. is_open (part run s f) ≡ b → Stays run (part run s f) (if_open (parts_of run f) s os ++ part run s f)) [
      | true ↦ λ y. subst (λ (ps : List Own). Stays run (part run s f) (ps ++ part run s f)) (sym (open-all (parts_of run f) s os y)) (one-stays run s (part run s f) os (k y) y)
      | false ↦ λ n. subst (λ (ps : List Own). Stays run (part run s f) (ps ++ part run s f)) (sym (open-none (parts_of run f) s os n)) (record { act = λ v. refl; there = refl; lost = refl })
    ] refl

due-stays : (run : Run) (s : ℕ) (f : List Moment) (os : List Own) → (is_open (part run s f) ≡ true → AllHarmless run s (part run s f) os) → owed run s (part run s f) ≡ []
    → owed run s (if_open (parts_of run f) s os ++ part run s f) ≡ []
due-stays run s f os k e =
    elim (is_open (part run s f)) as (λ b. is_open (part run s f) ≡ b → owed run s (if_open (parts_of run f) s os ++ part run s f) ≡ []) [
      | true ↦ λ y. ap (λ (ps : List Own). owed run s (ps ++ part run s f)) (open-all (parts_of run f) s os y) ∙ still-due run s (part run s f) os (k y) e
      | false ↦ λ n. ap (λ (ps : List Own). owed run s (ps ++ part run s f)) (open-none (parts_of run f) s os n) ∙ e
    ] refl

frames-left : (s : ℕ) (side : Side) (f g : List Moment) (a : Option (List ℕ)) (b : Option FrameFault) → rest_of_frames s side f a b ≡ rest_of_frames s side g a b
frames-left s side f g (Some frame) b = refl
frames-left s side f g None (Some fault) = refl
frames-left s side f g None None = refl

-- a moment in which sessions see nothing but such entries
record IsHarmless (run : Run) (f : List Moment) (m : Moment) : Type 0 where
  pub seen : ℕ → List Own
  pub is : (s : ℕ) → part run s (m ∷ f) ≡ if_open (parts_of run f) s (seen s) ++ part run s f
  pub harmless : (s : ℕ) → is_open (part run s f) ≡ true → AllHarmless run s (part run s f) (seen s)
  pub piece : piece_of (m ∷ f) ≡ piece_of f
  pub frames : (s : ℕ) (side : Side) → next_frame run s side (m ∷ f) ≡ next_frame run s side f
  pub faults : (s : ℕ) (side : Side) → fault_in run s side (m ∷ f) ≡ fault_in run s side f

piece-stays : (run : Run) (f : List Moment) (m : Moment) (h : IsHarmless run f m) (o : Option (ℕ × Side)) → rest_of_piece run f o ≡ None → rest_of_piece run (m ∷ f) o ≡ None
piece-stays run f m h None e = refl
piece-stays run f m h (Some p) e =
    let there : is_open (part run p.0 (m ∷ f)) ≡ is_open (part run p.0 f) = ap is_open (h.is p.0) ∙ (stays run p.0 f (h.seen p.0) (h.harmless p.0)).there in
    ap (λ (b : Bool). cond b (rest_of_frames p.0 p.1 (m ∷ f) (next_frame run p.0 p.1 (m ∷ f)) (fault_in run p.0 p.1 (m ∷ f))) None) there
    ∙ ap (λ (o : Option Next). cond (is_open (part run p.0 f)) o None)
    (frames-left p.0 p.1 (m ∷ f) f (next_frame run p.0 p.1 (m ∷ f)) (fault_in run p.0 p.1 (m ∷ f))
    ∙ ap (λ (a : Option (List ℕ)). rest_of_frames p.0 p.1 f a (fault_in run p.0 p.1 (m ∷ f))) (h.frames p.0 p.1)
    ∙ ap (λ (b : Option FrameFault). rest_of_frames p.0 p.1 f (next_frame run p.0 p.1 f) b) (h.faults p.0 p.1))
    ∙ e

calm-on : (run : Run) (f : List Moment) (m : Moment) → IsHarmless run f m → Calm run f → Calm run (m ∷ f)
calm-on run f m h calm = record {
  dues = λ s. ap (owed run s) (h.is s) ∙ due-stays run s f (h.seen s) (h.harmless s) (calm.dues s);
  acts = λ s.
      let st = stays run s f (h.seen s) (h.harmless s) in
      ap (λ (seen : List Own). cond (is_open seen) (due_act run (view run s (m ∷ f)) seen) None) (h.is s)
      ∙ ap (λ (b : Bool). cond b (due_act run (view run s (m ∷ f)) (if_open (parts_of run f) s (h.seen s) ++ part run s f)) None) st.there
      ∙ ap (λ (a : Option Act). cond (is_open (part run s f)) a None) (st.act (view run s (m ∷ f)))
      ∙ open-act run (view run s f) (view run s (m ∷ f)) (part run s f) (calm.acts s);
  losses = λ s. ap has_lost (h.is s) ∙ (stays run s f (h.seen s) (h.harmless s)).lost ∙ calm.losses s;
  piece = ap (rest_of_piece run (m ∷ f)) h.piece ∙ piece-stays run f m h (piece_of f) calm.piece;
}

-- a stale answer, and offers behind it -------------------------------------------

swapped : (a b c : Bool) → a ≡ true → a && (b && c) ≡ false → c && b ≡ false
swapped true true true y e = absurd (false≢true (sym e))
swapped true true false y e = refl
swapped true false true y e = refl
swapped true false false y e = refl
swapped false b c y e = absurd (false≢true y)

not-current : (b : Bool) (job : Job) → is_none (cond b (Some job) None) ≡ true → b ≡ false
not-current true job e = absurd (false≢true e)
not-current false job e = refl

stale-if : (run : Run) (s : ℕ) (f : List Moment) (b : Bool) (job : Job) (kind : Kind) → (b ≡ true → job.session ≡ s) → Answers.is_current run f job ≡ false
    → is_open (part run s f) ≡ true → AllHarmless run s (part run s f) (judged_if b run (parts_of run f) f job kind)
stale-if run s f true job kind k e y =
    subst (λ (r : ℕ). Directly.is_current run (part run r f) job.number job.edit (job.version == version run job.session f) ≡ false) (k refl)
    (swapped (is_open (part run job.session f)) (Directly.job_stands run (part run job.session f) job.number job.edit) (job.version == version run job.session f)
    (subst (λ (r : ℕ). is_open (part run r f) ≡ true) (sym (k refl)) y) e)
stale-if run s f false job kind k e y = tt

stale-harmless : (run : Run) (s : ℕ) (f : List Moment) (o : Option Job) (kind : Kind) → is_none (current_in run f o) ≡ true
    → is_open (part run s f) ≡ true → AllHarmless run s (part run s f) (judged_as run (parts_of run f) s f o kind)
stale-harmless run s f None kind e y = tt
stale-harmless run s f (Some job) kind e y =
    stale-if run s f (job.session == s) job kind (same-of job.session s) (not-current (Answers.is_current run f job) job e) y

verdict-harmless : (run : Run) (f : List Moment) (job : ℕ) (kind : Kind) → is_none (current run f job) ≡ true → IsHarmless run f (Is (Noted (Verdict job kind)))
verdict-harmless run f job kind e = record {
  seen = λ s. judged_as run (parts_of run f) s f (job_of job f) kind;
  is = λ s. refl;
  harmless = λ s y. stale-harmless run s f (job_of job f) kind e y;
  piece = refl;
  frames = λ s side. refl;
  faults = λ s side. refl;
}

offer-if : (run : Run) (s : ℕ) (before : List Own) (b : Bool) (job k : ℕ) → AllHarmless run s before (only b (Offers job k ∷ []))
offer-if run s before true job k = tt
offer-if run s before false job k = tt

offer-harmless : (run : Run) (f : List Moment) (job r k v : ℕ) → IsHarmless run f (Is (Noted (Offer job r k v)))
offer-harmless run f job r k v = record {
  seen = λ s. only (r == s) (Offers job k ∷ []);
  is = λ s. refl;
  harmless = λ s y. offer-if run s (part run s f) (r == s) job k;
  piece = refl;
  frames = λ s side. refl;
  faults = λ s side. refl;
}

others-come-not : {A : Type 0} (run : Run) (f : List Moment) (m : Moment) → Calm run f → Comes run f (next run f) m → (begins m || is_offer m) ≡ false → A
others-come-not run f m calm c n = absurd (false≢true (sym n ∙ offer-or-turn run f (next run f) m (calm-next run f calm) c))

-- all is calm in the turn of a stale answer
stale-calm : (run : Run) (f : List Moment) → FramesGoInOrder run f → in_stale_turn run f ≡ true → Calm run f
stale-calm run [] order e = absurd (false≢true e)
stale-calm run (Is (Given event) ∷ f) order e = absurd (false≢true e)
stale-calm run (Is (Noted (Verdict job kind)) ∷ f) order e =
    calm-on run f (Is (Noted (Verdict job kind))) (verdict-harmless run f job kind e) (calm-where-nothing run f order.0)
stale-calm run (Is (Noted (Offer job r k v)) ∷ f) order e =
    calm-on run f (Is (Noted (Offer job r k v))) (offer-harmless run f job r k v) (stale-calm run f order.2 e)
stale-calm run (m ∷ f) order e = others-come-not run f m (stale-calm run f order.2 e) order.1 refl

skips-stale : (run : Run) (f : List Moment) (o : Option Job) → IsTrueOf run f o Skipped → o ≡ None
skips-stale run f None t = refl
skips-stale run f (Some job) t = absurd t

skipped : (run : Run) (f : List Moment) (m : Moment) → NoteIsTrue run f m → SkipsStale run f m
skipped run f (Is (Noted (Verdict job Skipped))) t = skips-stale run f (current run f job) t.is_true
skipped run f (Is (Noted (Verdict job kind.Probe))) t = tt
skipped run f (Is (Noted (Verdict job kind.Indistinguishable))) t = tt
skipped run f (Is (Noted (Offer job r k v))) t = tt
skipped run f (Is (Noted (Probe serial job x))) t = tt
skipped run f (Is (Noted (Report line))) t = tt
skipped run f (Is (Given event)) t = tt
skipped run f (Is (Put s to frame lost)) t = tt
skipped run f (Is (End s)) t = tt
skipped run f (Went s serial near frame lost) t = tt
skipped run f (Came s side frame) t = tt
skipped run f (Broke s side fault) t = tt
skipped run f (Did s act) t = tt

always : (b : Bool) → AtTurn b (Unit {0})
always true = tt
always false = tt

pub stale-are-ignored : (run : Run) (f : List Moment) → FramesGoInOrder run f → AnswersAreTrue run f → StaleAreIgnored run f
stale-are-ignored run [] order answers = tt
stale-are-ignored run (m ∷ f) order answers = (
  always (begins m),
  record {
    offers_alone = λ e. offer-or-turn run f (next run f) m (calm-next run f (stale-calm run f order.2 e)) order.1;
    skipped = skipped run f m answers.1;
  },
  stale-are-ignored run f order.2 answers.2,
)
