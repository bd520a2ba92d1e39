-- What is due alone comes next, and the newest moment asked for it.
use Rattle.std.proofs.Common.{◌≡◌, ℕ, Bool, true, false, not, ◌&&◌, List, [], ◌∷◌, ◌++◌, Option, Some, None, option_map, refl, sym, ap, subst, ◌∙◌}
use Rattle.std.specs.Prelude.{◌==◌}
use Rattle.std.specs.List.{AllByRecursion}
use Rattle.std.proofs.lemmas.Bool.{false≢true}
use Rattle.mon_shows.specs.declared.seen.Seen.{Seen}
use Rattle.mon_report.specs.declared.line.Line.{Line}
use Rattle.mon_report.specs.declared.line.Line.TheVariants as line
use Rattle.mon_report.specs.declared.line.What.{What}
use Rattle.mon_report.specs.declared.line.What.TheVariants as what
use Rattle.mon_report.specs.declared.line.WatchWhat.{WatchWhat}
use Rattle.mon_report.specs.declared.line.WatchWhat.TheVariants as watch_what
use Rattle.mon_world.specs.declared.event.Side.TheVariants.{Switch}
use Rattle.mon_world.specs.declared.event.Event.TheVariants.{Opened, Closed}
use Rattle.mon_world.specs.declared.event.Note.TheVariants.{Verdict}
use Rattle.mon_world.specs.declared.history.Entry.TheVariants.{Given, Noted, Put, End}
use Rattle.mon_legal.specs.Runs.{Run}
use Rattle.mon_legal.specs.Changing.{only, drop_if}
use Rattle.mon_legal.specs.Owns.{Own, Act}
use Rattle.mon_legal.specs.Owns.Own.{From_controller, From_switch, Ticks, Returns, Neighbour, Acts, Ends}
use Rattle.mon_legal.specs.Directly.{Due, owed, owes, is_output}
use Rattle.mon_legal.specs.Directly.Due.{Frame, Tells, Ending, Probing, Going}
use Rattle.mon_legal.specs.Datapaths.{datapath}
use Rattle.mon_legal.specs.Moments.{Moment}
use Rattle.mon_legal.specs.Moments.Moment.{Is, Came, Broke}
use Rattle.mon_legal.specs.Jobs.{Job, job_of, openings}
use Rattle.mon_legal.specs.Sessions.{Parts, part, is_open, has_ended, opened, hears, session_in, if_open, neighbour_if, are_linked}
use Rattle.mon_legal.specs.Ordering.{Next, next, first_due, first_with, with_its, or_next, due_of, act_of, lost_of, want_of, rest_of_piece, piece_of}
use Rattle.mon_legal.specs.Ordering.Next.{Meets, Takes, Loses, Wants, Nothing}
use Rattle.mon_legal.proofs.Coming.{first-has, first-none, some-same, or-none, made-none, piece-none}
use Rattle.mon_legal.proofs.Fitting.{AllFit, LineOf, AllOf, all-owes, leads_back, opened-or-none, same-of}
use Rattle.mon_turns.proofs.Born.{same-number}
use Rattle.mon_turns.proofs.Quiet.{behind_dues}
use Rattle.mon_turns.proofs.Dues.{is_late}
use Rattle.mon_turns.proofs.Leads.{Sort, sort_of, sort_of_watch, leads_to, leads, origin, first-from, behind-none, from_frame, from_answer, from_passing, is_end, is_closed}
use Rattle.mon_turns.proofs.Seeing.{taken_at}
use Rattle.mon_turns.proofs.Live.Shut.{Rests, Just}
use Rattle.mon_turns.proofs.Live.{AllLive, Shut, shut}

-- what comes next -------------------------------------------------------------------

abbrev pub is_meets : Next → Bool
is_meets (Meets s due) = true
is_meets n = false

abbrev meeter : Next → ℕ
meeter (Meets s due) = s
meeter n = 0

abbrev met : Next → Option Due
met (Meets s due) = Some due
met n = None

rest-quiet : (x : Option (ℕ × Due)) (rest : Next) → is_meets (or_next (option_map (λ p. Meets p.0 p.1) x) rest) ≡ false → x ≡ None
rest-quiet (Some p) rest e = absurd (false≢true (sym e))
rest-quiet None rest e = refl

none-first : (run : Run) (f : List Moment) → is_meets (next run f) ≡ false → first_with (due_of run f) (opened run f) ≡ None
unfolding next
none-first run f e = rest-quiet (first_with (due_of run f) (opened run f)) _ e

pub quiet-unless : (run : Run) (f : List Moment) (s : ℕ) → is_meets (next run f) ≡ false → due_of run f s ≡ None
quiet-unless run f s e =
    opened-or-none run s (λ r. due_of run f r ≡ None) f (first-none (due_of run f) (opened run f) (none-first run f e))
    (λ g. ap (λ (seen : List Own). first_due (owed run s seen)) g)

rest-meets : (s : ℕ) (due : Due) (x : Option (ℕ × Due)) (rest : Next) → is_meets rest ≡ false → or_next (option_map (λ p. Meets p.0 p.1) x) rest ≡ Meets s due
    → x ≡ Some (s, due)
rest-meets s due (Some q) rest n e = ap (λ (r : ℕ). Some (r, q.1)) (ap meeter e) ∙ ap (λ (x : Due). Some (s, x)) (some-same q.1 due (ap met e))
rest-meets s due None rest n e = absurd (false≢true (sym n ∙ ap is_meets e))

pub first-met : (run : Run) (f : List Moment) (s : ℕ) (due : Due) → next run f ≡ Meets s due → first_with (due_of run f) (opened run f) ≡ Some (s, due)
unfolding next
first-met run f s due e =
    let all = opened run f in
    rest-meets s due (first_with (due_of run f) all) _
    (or-none is_meets (option_map (λ p. Takes p.0 p.1) (first_with (act_of run f) all)) _ (made-none is_meets (λ (p : ℕ × Act). Takes p.0 p.1) (λ p. refl) (first_with (act_of run f) all))
    (or-none is_meets (option_map (λ p. Loses p.0) (first_with (lost_of run f) all)) _ (made-none is_meets (λ (p : ℕ × Unit {0}). Loses p.0) (λ p. refl) (first_with (lost_of run f) all))
    (or-none is_meets (rest_of_piece run f (piece_of f)) _ (piece-none is_meets (λ r side frame. refl) (λ r side fault. refl) run f (piece_of f))
    (or-none is_meets (option_map (λ p. Wants p.0 p.1) (first_with (want_of run f) all)) Nothing (made-none is_meets (λ (p : ℕ × ℕ). Wants p.0 p.1) (λ p. refl) (first_with (want_of run f) all)) refl)))) e

pub meets-first : (run : Run) (f : List Moment) (s : ℕ) (due : Due) → first_with (due_of run f) (opened run f) ≡ Some (s, due) → next run f ≡ Meets s due
unfolding next
meets-first run f s due e = ap (λ (o : Option (ℕ × Due)). or_next (option_map (λ p. Meets p.0 p.1) o) (behind_dues run f)) e

-- nothing is due of the others
pub only-one : (run : Run) (f : List Moment) (s : ℕ) (d : Due) → due_of run f s ≡ Some d → ((r : ℕ) → (r == s) ≡ false → due_of run f r ≡ None) → next run f ≡ Meets s d
only-one run f s d e k =
    elim (first_with (due_of run f) (opened run f)) as (λ o. first_with (due_of run f) (opened run f) ≡ o → next run f ≡ Meets s d) [
      | None ↦ λ y.
          let none : due_of run f s ≡ None =
          opened-or-none run s (λ r. due_of run f r ≡ None) f (first-none (due_of run f) (opened run f) y) (λ g. ap (λ (seen : List Own). first_due (owed run s seen)) g) in
          absurd (let g : None ≡ Some d = sym none ∙ e in cc)
      | Some q ↦ λ y.
          let has : due_of run f q.0 ≡ Some q.1 = first-has (due_of run f) (opened run f) q y in
          elim (q.0 == s) as (λ b. (q.0 == s) ≡ b → next run f ≡ Meets s d) [
            | true ↦ λ z.
                let same : q.0 ≡ s = same-of q.0 s z in
                let due : q.1 ≡ d = some-same q.1 d (sym has ∙ (ap (due_of run f) same ∙ e)) in
                meets-first run f q.0 q.1 y ∙ (ap (λ (r : ℕ). Meets r q.1) same ∙ ap (Meets s) due)
            | false ↦ λ z. absurd (let g : None ≡ Some q.1 = sym (k q.0 z) ∙ has in cc)
          ] refl
    ] refl

abbrev pair_first : ℕ × Due → ℕ
pair_first q = q.0

-- the session that was first stays so
same-first : (what new : ℕ → Option Due) (s : ℕ) (x y : Due) (ss : List ℕ) → ((r : ℕ) → (r == s) ≡ false → new r ≡ what r) → new s ≡ Some y
    → first_with what ss ≡ Some (s, x) → first_with new ss ≡ Some (s, y)
same-first what new s x y [] k has e = absurd (let g : None ≡ Some (s, x) = e in cc)
same-first what new s x y (r ∷ ss) k has e =
    elim (r == s) as (λ b. (r == s) ≡ b → with_its r (new r) (first_with new ss) ≡ Some (s, y)) [
      | true ↦ λ z.
          let same : r ≡ s = same-of r s z in
          ap (λ (o : Option Due). with_its r o (first_with new ss)) (ap new same ∙ has) ∙ ap (λ (n : ℕ). Some (n, y)) same
      | false ↦ λ z.
          elim (what r) as (λ o. what r ≡ o → with_its r o (first_with what ss) ≡ Some (s, x) → with_its r (new r) (first_with new ss) ≡ Some (s, y)) [
            | None ↦ λ n g. ap (λ (o : Option Due). with_its r o (first_with new ss)) (k r z ∙ n) ∙ same-first what new s x y ss k has g
            | Some w ↦ λ n g. absurd (false≢true (sym z ∙ (ap (λ (q : ℕ). q == s) (ap pair_first (some-same (r, w) (s, x) g)) ∙ same-number s)))
          ] refl e
    ] refl

pub stays-first : (run : Run) (f : List Moment) (m : Moment) (s : ℕ) (x y : Due) → opened run (m ∷ f) ≡ opened run f → next run f ≡ Meets s x → due_of run (m ∷ f) s ≡ Some y
    → ((r : ℕ) → (r == s) ≡ false → due_of run (m ∷ f) r ≡ due_of run f r) → next run (m ∷ f) ≡ Meets s y
stays-first run f m s x y same e has k =
    meets-first run (m ∷ f) s y
    (ap (first_with (due_of run (m ∷ f))) same ∙ same-first (due_of run f) (due_of run (m ∷ f)) s x y (opened run f) k has (first-met run f s x e))

-- what is due alone -----------------------------------------------------------------

abbrev pub is_alone : Sort → Bool
is_alone Sort.Notes = true
is_alone Sort.Ends_now = true
is_alone Sort.Armed = true
is_alone Sort.Closed = true
is_alone Sort.Of_passing = true
is_alone Sort.Indistinguishable = true
is_alone Sort.Unwatchable = true
is_alone Sort.Settled = true
is_alone x = false

pub alone-first : (d : Due) → is_alone (sort_of d) ≡ true → is_late d ≡ false
alone-first (Frame to frame) a = absurd (false≢true a)
alone-first (Going serial) a = absurd (false≢true a)
alone-first (Probing job k) a = refl
alone-first (Ending c) a = refl
alone-first (Tells (line.Armed s d t)) a = refl
alone-first (Tells (line.Closed s c)) a = refl
alone-first (Tells (line.Confirmed s k n)) a = refl
alone-first (Tells (line.Fact s k what.NoChange)) a = refl
alone-first (Tells (line.Fact s k what.Overlap)) a = refl
alone-first (Tells (line.Fact s k what.Indistinguishable)) a = refl
alone-first (Tells (line.Fact s k what.Closing)) a = absurd (false≢true a)
alone-first (Tells (line.Fact s k what.Settled)) a = refl
alone-first (Tells (line.Fact s k what.Rejected)) a = absurd (false≢true a)
alone-first (Tells (line.Fact s k what.Silent)) a = absurd (false≢true a)
alone-first (Tells (line.Watch s m p n watch_what.Seen)) a = absurd (false≢true a)
alone-first (Tells (line.Watch s m p n watch_what.Missing)) a = absurd (false≢true a)
alone-first (Tells (line.Watch s m p n watch_what.Unwatchable)) a = refl

-- no sort of both kinds
pub never : {A : Type 0} (test : Sort → Bool) (x : Sort) → ((y : Sort) → test y ≡ true → is_alone y ≡ false) → test x ≡ true → is_alone x ≡ true → A
never test x k t a = absurd (false≢true (sym (k x t) ∙ a))

pub ticks-not : (x : Sort) → leads_to (Ticks 0) x ≡ true → is_alone x ≡ false
ticks-not Sort.Probes_out e = refl
ticks-not Sort.Silent e = refl
ticks-not Sort.Missing e = refl
ticks-not x e = absurd (false≢true e)

pub frames-not : (x : Sort) → leads_to (From_controller []) x ≡ true → is_alone x ≡ false
frames-not Sort.Frames e = refl
frames-not x e = absurd (false≢true e)

pub returns-not : (serial : ℕ) (seen : Seen) (x : Sort) → leads_to (Returns serial seen) x ≡ true → is_alone x ≡ false
returns-not serial seen Sort.Frames e = refl
returns-not serial seen Sort.Confirmed e = refl
returns-not serial seen Sort.Seen e = refl
returns-not serial seen x e = absurd (false≢true e)

pub acts-not : (act : Act) (x : Sort) → leads_to (Acts act) x ≡ true → is_alone x ≡ false
acts-not act Sort.Frames e = refl
acts-not act Sort.Was_closing e = refl
acts-not act x e = absurd (false≢true e)

-- by which moment of which session
abbrev pub CausedBy : Run → List Moment → ℕ → Due → Type 0
CausedBy run [] s d = ⊥
CausedBy run (Is (Given Opened) ∷ f) s d = (openings run f ≡ s) × (is_end (sort_of d) ≡ true)
CausedBy run (Is (Given (Closed r)) ∷ f) s d = (r ≡ s) × (is_open (part run s f) ≡ true) × (is_end (sort_of d) ≡ true)
CausedBy run (Is (Noted (Verdict number kind)) ∷ f) s d = (j : Job) × (job_of number f ≡ Some j) × (j.session ≡ s) × (from_answer (sort_of d) ≡ true)
CausedBy run (Is (Put r to frame lost) ∷ f) s d = (r ≡ s) × (to ≡ Switch) × (from_passing (sort_of d) ≡ true)
CausedBy run (Is (End r) ∷ f) s d = (r ≡ s) × (is_closed (sort_of d) ≡ true)
CausedBy run (Came r side frame ∷ f) s d =
    (r ≡ s) × (side ≡ Switch) × (from_frame (sort_of d) ≡ true) × (part run s (Came r side frame ∷ f) ≡ From_switch frame (taken_at run f s frame) ∷ part run s f)
    × (first_due (owed run s (part run s f)) ≡ None)
CausedBy run (Broke r side fault ∷ f) s d = (r ≡ s) × (is_end (sort_of d) ≡ true)
CausedBy run (m ∷ f) s d = ⊥

pub record Alone (run : Run) (f : List Moment) (s : ℕ) (d : Due) : Type 0 where
  pub next_is : next run f ≡ Meets s d
  pub by : CausedBy run f s d

-- lines tell of their own session --------------------------------------------------------

abbrev Its : ℕ → Due → Type 0
Its s (Tells l) = session_in l ≡ s
Its s d = Unit {0}

its-of : (s : ℕ) (c : Bool) (d : Due) → LineOf s c d → Its s d
its-of s c (Tells l) a = a
its-of s c (Frame to frame) a = tt
its-of s c (Ending why) a = tt
its-of s c (Probing job k) a = tt
its-of s c (Going serial) a = tt

all-its : (s : ℕ) (c : Bool) (ds : List Due) → AllOf s c ds → AllByRecursion (Its s) ds
all-its s c [] a = tt
all-its s c (d ∷ ds) a = (its-of s c d a.0, all-its s c ds a.1)

its-append : (s : ℕ) (xs ys : List Due) → AllByRecursion (Its s) xs → AllByRecursion (Its s) ys → AllByRecursion (Its s) (xs ++ ys)
its-append s [] ys a b = b
its-append s (x ∷ xs) ys a b = (a.0, its-append s xs ys a.1 b)

its-drop : (s : ℕ) (b : Bool) (xs : List Due) → AllByRecursion (Its s) xs → AllByRecursion (Its s) (drop_if b xs)
its-drop s true [] a = tt
its-drop s true (x ∷ xs) a = a.1
its-drop s false xs a = a

its-owed : (run : Run) (s : ℕ) (seen : List Own) → AllByRecursion (Its s) (owed run s seen)
its-owed run s [] = tt
its-owed run s (o ∷ before) =
    its-append s (owes run s (owed run s before) before o) (drop_if (is_output o) (owed run s before))
    (all-its s (leads_back o) (owes run s (owed run s before) before o) (all-owes run s (owed run s before) before o))
    (its-drop s (is_output o) (owed run s before) (its-owed run s before))

first-its : (s : ℕ) (dues : List Due) (d : Due) → AllByRecursion (Its s) dues → first_due dues ≡ Some d → Its s d
first-its s [] d a e = absurd (let g : None ≡ Some d = e in cc)
first-its s (x ∷ dues) d a e = subst (Its s) (some-same x d e) a.0

pub its-line : (run : Run) (s : ℕ) (seen : List Own) (l : Line) → first_due (owed run s seen) ≡ Some (Tells l) → session_in l ≡ s
its-line run s seen l e = first-its s (owed run s seen) (Tells l) (its-owed run s seen) e

-- a line that is due is heard ------------------------------------------------------------

not-shut : (run : Run) (s : ℕ) (seen : List Own) (d : Due) → Shut run s seen → first_due (owed run s seen) ≡ Some d → is_closed (sort_of d) ≡ false → ⊥
not-shut run s seen d (Rests e) g n = let h : None ≡ Some d = sym (ap first_due e) ∙ g in cc
not-shut run s seen d (Just why e) g n =
    let same : Tells (line.Closed s why) ≡ d = some-same (Tells (line.Closed s why)) d (sym (ap first_due e) ∙ g) in
    false≢true (sym n ∙ sym (ap (λ (x : Due). is_closed (sort_of x)) same))

-- a session of which something but the report on its end is due is open
pub due-open : (run : Run) (s : ℕ) (seen : List Own) (d : Due) → AllFit run s seen → AllLive seen → first_due (owed run s seen) ≡ Some d → is_closed (sort_of d) ≡ false
    → is_open seen ≡ true
due-open run s seen d fit live e n =
    elim (is_open seen) as (λ b. is_open seen ≡ b → b ≡ true) [
      | true ↦ λ y. refl
      | false ↦ λ y. absurd (not-shut run s seen d (shut run s seen fit live y) e n)
    ] refl

ended-over : (over : List Own) (before : List Own) → has_ended (over ++ Ends ∷ before) ≡ true
ended-over [] before = refl
ended-over (Ends ∷ over) before = refl
ended-over (o ∷ over) before = ended-over over before

closed-from : (o : Own) → leads_to o Sort.Closed ≡ true → o ≡ Ends
closed-from Ends e = refl
closed-from o e = absurd (false≢true e)

fact-open : (s k : ℕ) (w : What) → is_closed (sort_of (Tells (line.Fact s k w))) ≡ false
fact-open s k what.NoChange = refl
fact-open s k what.Overlap = refl
fact-open s k what.Indistinguishable = refl
fact-open s k what.Closing = refl
fact-open s k what.Settled = refl
fact-open s k what.Rejected = refl
fact-open s k what.Silent = refl

watch-open : (w : WatchWhat) → is_closed (sort_of_watch w) ≡ false
watch-open watch_what.Seen = refl
watch-open watch_what.Missing = refl
watch-open watch_what.Unwatchable = refl

pub hears-due : (run : Run) (s : ℕ) (seen : List Own) (l : Line) → AllFit run s seen → AllLive seen → first_due (owed run s seen) ≡ Some (Tells l) → hears l seen ≡ true
hears-due run s seen (line.Closed r why) fit live e =
    let o = origin run s (Tells (line.Closed r why)) seen fit e refl in
    ap has_ended o.all ∙ (ap (λ (x : Own). has_ended (o.over ++ x ∷ o.before)) (closed-from o.made o.leads) ∙ ended-over o.over o.before)
hears-due run s seen (line.Armed r d t) fit live e = due-open run s seen (Tells (line.Armed r d t)) fit live e refl
hears-due run s seen (line.Confirmed r k n) fit live e = due-open run s seen (Tells (line.Confirmed r k n)) fit live e refl
hears-due run s seen (line.Fact r k w) fit live e = due-open run s seen (Tells (line.Fact r k w)) fit live e (fact-open r k w)
hears-due run s seen (line.Watch r m p n w) fit live e = due-open run s seen (Tells (line.Watch r m p n w)) fit live e (watch-open w)

-- moments that a session sees, or not ------------------------------------------------------

pub data Sees (b there : Bool) (o : Own) (xs p : List Own) : Type 0 where
  Yes : (is_its : b ≡ true) (is_there : there ≡ true) (seen : xs ≡ o ∷ p) → Sees b there o xs p
  No : (unseen : xs ≡ p) → Sees b there o xs p

pub sees-one : (parts : Parts) (s : ℕ) (b : Bool) (o : Own) → Sees b (is_open (parts s)) o (if_open parts s (only b (o ∷ [])) ++ parts s) (parts s)
sees-one parts s true o =
    elim (is_open (parts s)) as (λ x. Sees true x o (only x (o ∷ []) ++ parts s) (parts s)) [
      | true ↦ Yes refl refl refl
      | false ↦ No refl
    ]
sees-one parts s false o = No refl

-- nothing was due, and the one entry made it due
still-none : (b : Bool) (dues : List Due) → first_due dues ≡ None → first_due (drop_if b dues) ≡ None
still-none true [] e = refl
still-none true (d ∷ dues) e = absurd (let g : Some d ≡ None = e in cc)
still-none false dues e = e

pub from-one : (run : Run) (s : ℕ) (o : Own) (before seen : List Own) (d : Due) → seen ≡ o ∷ before → first_due (owed run s before) ≡ None → first_due (owed run s seen) ≡ Some d
    → leads_to o (sort_of d) ≡ true
from-one run s o before seen d is q e =
    first-from (leads_to o) (owes run s (owed run s before) before o) d (leads run s (owed run s before) before o)
    (behind-none (owes run s (owed run s before) before o) (drop_if (is_output o) (owed run s before)) d (still-none (is_output o) (owed run s before) q)
    (ap (λ (xs : List Own). first_due (owed run s xs)) (sym is) ∙ e))

pub unseen-none : {A : Type 0} (run : Run) (s : ℕ) (before seen : List Own) (d : Due) → seen ≡ before → first_due (owed run s before) ≡ None → first_due (owed run s seen) ≡ Some d → A
unseen-none run s before seen d is q e = absurd (let g : None ≡ Some d = sym q ∙ (ap (λ (xs : List Own). first_due (owed run s xs)) (sym is) ∙ e) in cc)

-- neighbours that come and go make nothing due
pub neighbour-owed : (run : Run) (parts : Parts) (s r : ℕ) (b : Bool) (p : List Own) → owed run s (if_open parts s (neighbour_if run parts s r b) ++ p) ≡ owed run s p
neighbour-owed run parts s r false p = refl
neighbour-owed run parts s r true p =
    elim (not (s == r) && are_linked run.topology (datapath (parts s)) (datapath (parts r))) as (λ x. owed run s (if_open parts s (only x (Neighbour ∷ [])) ++ p) ≡ owed run s p) [
      | true ↦ elim (is_open (parts s)) as (λ y. owed run s (only y (Neighbour ∷ []) ++ p) ≡ owed run s p) [
        | true ↦ refl
        | false ↦ refl
      ]
      | false ↦ refl
    ]
