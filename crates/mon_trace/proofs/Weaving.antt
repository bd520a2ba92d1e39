-- How inputs, notes and outputs make the history.
use Rattle.std.proofs.Common.{◌≡◌, ℕ, zero, suc, ◌+◌, ◌≤◌, Bool, true, false, cond, List, [], ◌∷◌, ◌++◌, length, drop, map, Option, Some, None, refl, sym, ap, subst, ◌∙◌, arith}
use Rattle.std.specs.Prelude.{nat_lt, option_map, IfSome, IfOk, Contains, Result, Ok, Err}
use Rattle.std.specs.List.{slice_get}
use Rattle.std.proofs.lemmas.Bool.{le-leb, lt-leb}
use Rattle.mon_world.specs.declared.event.Side.{Side}
use Rattle.mon_world.specs.declared.event.Side.TheVariants.{Controller, Switch}
use Rattle.mon_world.specs.declared.event.Event.{Event}
use Rattle.mon_world.specs.declared.event.Event.TheVariants.{Opened, Piece, Closed, Tick, Answer, Idle, Stop}
use Rattle.mon_world.specs.declared.event.Note.{Note}
use Rattle.mon_world.specs.declared.event.Out.{Out}
use Rattle.mon_world.specs.declared.event.Out.TheVariants.{Send, Close}
use Rattle.mon_world.specs.declared.history.Entry.{Entry}
use Rattle.mon_world.specs.declared.history.Entry.TheVariants.{Given, Noted, Put, End}
use Rattle.mon_world.specs.Logs.{inputs, opened_in, opened_by, entry_of, AllNamed, NamesOpened, IsOpenGate}
use Rattle.mon_trace.specs.Grammar.{Recorded, Traced}
use Rattle.mon_trace.specs.Run.{event_at, event_or_stop, events_of, mark_of, the_event, losing_before, losing_or, number_of, line_of, text, lost_in, jobs_after, unanswered, is_lost, lost_after, IsRefused, IsNextBad, WasBad, Running}
use Rattle.mon_trace.specs.Outputs.{Placed, lines_text}
use Rattle.mon_trace.specs.Woven.{IsRun, InOrder, woven, given_from}

given_more : (events : List Recorded) (from n : ℕ) → from ≤ n → given_from events from (suc n) ≡ Given (event_at events n) ∷ given_from events from n
given_more events from n le = ap (λ (b : Bool). cond b (Given (event_at events n) ∷ given_from events from n) []) (le-leb from n le)

given_none : (events : List Recorded) (n : ℕ) → given_from events n n ≡ []
given_none events zero = refl
given_none events (suc n) = ap (λ (b : Bool). cond b (Given (event_at events n) ∷ given_from events (suc n) n) []) (lt-leb (suc n) n (omega arith))

-- one input more
pub woven_given : (events : List Recorded) (n : ℕ) (outs : List Placed) → InOrder n outs → woven events (suc n) outs ≡ Given (event_at events n) ∷ woven events n outs
woven_given events n [] order = given_more events 0 n (omega arith)
woven_given events n (placed ∷ others) order = ap (λ (h : List Entry). h ++ placed.entry ∷ woven events placed.after others) (given_more events placed.after n order.0)

pub in_order_more : (n : ℕ) (outs : List Placed) → InOrder n outs → InOrder (suc n) outs
in_order_more n [] order = tt
in_order_more n (placed ∷ others) order = (omega (arith, order.0), order.1)

-- one entry more
pub woven_taken : (events : List Recorded) (n number : ℕ) (entry : Entry) (outs : List Placed) → woven events n (record { after = n; number = number; entry = entry } ∷ outs) ≡ entry ∷ woven events n outs
woven_taken events n number entry outs = ap (λ (h : List Entry). h ++ entry ∷ woven events n outs) (given_none events n)

pub run_first : (t : Traced) → AllNamed 0 (events_of t) → IsRun t 0 0 0 0 [] []
run_first t named = record { count = refl; given = tt; rest = named; text_is = refl; loses = tt; losing_is = refl; lost_is = refl; jobs_are = refl }

-- what is left names opened sessions, the next event with it
next_named : (events : List Recorded) (n opened : ℕ) → AllNamed opened (drop n (map the_event events)) → NamesOpened (opened_by (event_at events n) opened) (event_at events n) × AllNamed (opened_by (event_at events n) opened) (drop (suc n) (map the_event events))
next_named [] n opened named = (tt, tt)
next_named (event ∷ events) zero opened named = named
next_named (event ∷ events) (suc n) opened named = next_named events n opened named

-- an event names a session that was opened before it
named_before : (event : Event) (opened : ℕ) → NamesOpened (opened_by event opened) event → NamesOpened opened event
named_before Opened opened names = tt
named_before (Piece session side bytes) opened names = names
named_before (Closed session) opened names = names
named_before Tick opened names = tt
named_before (Answer index) opened names = tt
named_before Idle opened names = tt
named_before Stop opened names = tt

pub run_named : (t : Traced) (n losing lost jobs : ℕ) (printed : List ℕ) (h : List Entry) → IsRun t n losing lost jobs printed h → NamesOpened (opened_in h) (event_at t.events n)
run_named t n losing lost jobs printed h run = named_before (event_at t.events n) (opened_in h) (next_named t.events n (opened_in h) run.rest).0

pub run_given : (t : Traced) (n losing lost jobs next : ℕ) (printed : List ℕ) (h : List Entry) → next ≡ losing_before t (suc n) → IsRun t n losing lost jobs printed h → IsRun t (suc n) next lost jobs printed (Given (event_at t.events n) ∷ h)
run_given t n losing lost jobs next printed h next_is run = record {
  count = omega (arith, run.count);
  given = (ap (event_at t.events) run.count, run.given);
  rest = (next_named t.events n (opened_in h) run.rest).1;
  text_is = run.text_is;
  loses = run.loses;
  losing_is = next_is;
  lost_is = run.lost_is;
  jobs_are = run.jobs_are;
}

-- the number of the record that is handled
numbered : (t : Traced) (n losing lost jobs : ℕ) (printed : List ℕ) (h : List Entry) → IsRun t n losing lost jobs printed h → n + losing ≡ number_of t h
numbered t n losing lost jobs printed h run =
    ap (λ (k : ℕ). n + k) run.losing_is ∙ ap (λ (k : ℕ). k + losing_before t k) run.count

-- the text with one line more
line_more : (t : Traced) (n losing lost jobs number : ℕ) (printed : List ℕ) (h : List Entry) (entry : Entry) → IsRun t n losing lost jobs printed h → number ≡ n + losing → printed ++ line_of number entry ≡ text t h ++ line_of (number_of t h) entry
line_more t n losing lost jobs number printed h entry run is =
    ap (λ (xs : List ℕ). xs ++ line_of number entry) run.text_is
    ∙ ap (λ (k : ℕ). text t h ++ line_of k entry) (is ∙ numbered t n losing lost jobs printed h run)

-- whether the next frame is lost
losing_now : (t : Traced) (n losing lost jobs : ℕ) (printed : List ℕ) (h : List Entry) → IsRun t n losing lost jobs printed h → nat_lt lost losing ≡ nat_lt (lost_in h) (losing_before t (length (inputs h)))
losing_now t n losing lost jobs printed h run =
    ap (λ (k : ℕ). nat_lt k losing) run.lost_is ∙ ap (nat_lt (lost_in h)) (run.losing_is ∙ ap (losing_before t) run.count)

lost_one : (session : ℕ) (to : Side) (frame : List ℕ) (lost : Bool) (h : List Entry) → lost_in (Put session to frame lost ∷ h) ≡ lost_after lost (lost_in h)
lost_one session to frame true h = refl
lost_one session to frame false h = refl

run_taken : (t : Traced) (n losing lost jobs number : ℕ) (printed : List ℕ) (h : List Entry) (out : Out) → IsRun t n losing lost jobs printed h → number ≡ n + losing
    → IsRun t n losing (lost_after (is_lost out (nat_lt lost losing)) lost) jobs (printed ++ line_of number (entry_of (is_lost out (nat_lt lost losing)) out)) (entry_of (is_lost out (nat_lt lost losing)) out ∷ h)
run_taken t n losing lost jobs number printed h (Send session to frame) run is = record {
  count = run.count;
  given = run.given;
  rest = run.rest;
  text_is = line_more t n losing lost jobs number printed h (Put session to frame (nat_lt lost losing)) run is;
  loses = (losing_now t n losing lost jobs printed h run, run.loses);
  losing_is = run.losing_is;
  lost_is = ap (lost_after (nat_lt lost losing)) run.lost_is ∙ sym (lost_one session to frame (nat_lt lost losing) h);
  jobs_are = run.jobs_are;
}
run_taken t n losing lost jobs number printed h (Close session) run is = record {
  count = run.count;
  given = run.given;
  rest = run.rest;
  text_is = line_more t n losing lost jobs number printed h (End session) run is;
  loses = run.loses;
  losing_is = run.losing_is;
  lost_is = run.lost_is;
  jobs_are = run.jobs_are;
}

-- an output, lost or not, and how many are lost then
pub run_put : (t : Traced) (n losing lost kept jobs number : ℕ) (printed : List ℕ) (h : List Entry) (out : Out) (b : Bool) → b ≡ is_lost out (nat_lt lost losing) → lost_after b lost ≡ kept
    → IsRun t n losing lost jobs printed h → number ≡ n + losing
    → IsRun t n losing kept jobs (printed ++ line_of number (entry_of b out)) (entry_of b out ∷ h)
run_put t n losing lost kept jobs number printed h out b is now run numbered =
    subst (λ (k : ℕ). IsRun t n losing k jobs (printed ++ line_of number (entry_of b out)) (entry_of b out ∷ h)) now
    (subst (λ (x : Bool). IsRun t n losing (lost_after x lost) jobs (printed ++ line_of number (entry_of x out)) (entry_of x out ∷ h)) (sym is)
    (run_taken t n losing lost jobs number printed h out run numbered))

pub run_noted : (t : Traced) (n losing lost jobs number : ℕ) (printed : List ℕ) (h : List Entry) (note : Note) → IsRun t n losing lost jobs printed h → number ≡ n + losing
    → IsRun t n losing lost (jobs_after note jobs) (printed ++ line_of number (Noted note)) (Noted note ∷ h)
run_noted t n losing lost jobs number printed h note run is = record {
  count = run.count;
  given = run.given;
  rest = run.rest;
  text_is = line_more t n losing lost jobs number printed h (Noted note) run is;
  loses = run.loses;
  losing_is = run.losing_is;
  lost_is = run.lost_is;
  jobs_are = ap (jobs_after note) run.jobs_are;
}

-- a record that could not be given once could not be given then
pub was_more : (t : Traced) (bad : Option ℕ) (entry : Entry) (h : List Entry) → IfSome bad (λ offset. WasBad t offset h) → IfSome bad (λ offset. WasBad t offset (entry ∷ h))
was_more t None entry h was = tt
was_more t (Some offset) entry h was = record {
  since = entry ∷ was.since;
  before = was.before;
  gates = was.gates;
  log_is = ap (λ (k : List Entry). entry ∷ k) was.log_is;
  is_bad = was.is_bad;
}

-- what a hub keeps of its outputs
pub record Keeps (t : Traced) (n losing lost jobs : ℕ) (bad : Option ℕ) (outs : List Placed) : Type 0 where
  pub order : InOrder n outs
  pub run : IsRun t n losing lost jobs (lines_text outs) (woven t.events n outs)
  pub was_bad : IfSome bad (λ offset. WasBad t offset (woven t.events n outs))

-- it keeps it of one output more, whose line and entry the run has
pub keeps_more : (t : Traced) (n losing lost jobs number : ℕ) (bad : Option ℕ) (entry : Entry) (before outs : List Placed) → InOrder n before → IfSome bad (λ offset. WasBad t offset (woven t.events n before))
    → outs ≡ record { after = n; number = number; entry = entry } ∷ before
    → IsRun t n losing lost jobs (lines_text before ++ line_of number entry) (entry ∷ woven t.events n before)
    → Keeps t n losing lost jobs bad outs
keeps_more t n losing lost jobs number bad entry before outs order was pushed run =
    let more = woven_taken t.events n number entry before in
    subst (Keeps t n losing lost jobs bad) (sym pushed) (record {
      order = (omega arith, order);
      run = subst (λ (h : List Entry). IsRun t n losing lost jobs (lines_text before ++ line_of number entry) h) (sym more) run;
      was_bad = subst (λ (h : List Entry). IfSome bad (λ offset. WasBad t offset h)) (sym more) (was_more t bad entry (woven t.events n before) was);
    })

abbrev offset_in : ℕ → Option (ℕ × ℕ) → ℕ
offset_in other None = other
offset_in other (Some mark) = mark.0

abbrev pub losing_in : ℕ → Option (ℕ × ℕ) → ℕ
losing_in all None = all
losing_in all (Some mark) = mark.1

abbrev IsMark : Option (ℕ × ℕ) → Type 0
IsMark None = ⊥
IsMark (Some mark) = Unit {0}

-- where the next record begins that can't be given; there is one
bad_record : (t : Traced) (gates : List ℕ) (h : List Entry) (found : Option Recorded) (event : Event) (offset losing : ℕ) → slice_get t.events (length (inputs h)) ≡ found → event ≡ event_or_stop found
    → IsRefused gates (unanswered h) event → option_map mark_of found ≡ Some (offset, losing) → IsNextBad t gates offset h
bad_record t gates h None event offset losing found_is event_is refused mark = absurd (subst (IsRefused gates (unanswered h)) event_is refused)
bad_record t gates h (Some r) event offset losing found_is event_is refused mark =
    (r, found_is, ap (λ (o : Option (ℕ × ℕ)). offset_in r.offset o) mark, subst (IsRefused gates (unanswered h)) event_is refused)

pub next_bad : (t : Traced) (gates : List ℕ) (h : List Entry) (n : ℕ) (event : Event) (offset losing : ℕ) → n ≡ length (inputs h) → event ≡ event_at t.events (length (inputs h)) → IsRefused gates (unanswered h) event
    → option_map mark_of (slice_get t.events n) ≡ Some (offset, losing) → IsNextBad t gates offset h
next_bad t gates h n event offset losing n_is event_is refused mark =
    bad_record t gates h (slice_get t.events (length (inputs h))) event offset losing refl event_is refused (ap (λ (k : ℕ). option_map mark_of (slice_get t.events k)) (sym n_is) ∙ mark)

none_stops : (found : Option Recorded) → option_map mark_of found ≡ None → event_or_stop found ≡ Stop
none_stops None none = refl
none_stops (Some r) none = absurd (subst IsMark none tt)

pub none_bad : (t : Traced) (gates : List ℕ) (h : List Entry) (n : ℕ) (event : Event) → n ≡ length (inputs h) → event ≡ event_at t.events (length (inputs h)) → IsRefused gates (unanswered h) event
    → option_map mark_of (slice_get t.events n) ≡ None → ⊥
none_bad t gates h n event n_is event_is refused none =
    subst (IsRefused gates (unanswered h)) (event_is ∙ none_stops (slice_get t.events (length (inputs h))) (ap (λ (k : ℕ). option_map mark_of (slice_get t.events k)) (sym n_is) ∙ none)) refused

-- how many `lose` records stand before the next record
pub losing_next : (all : ℕ) (found : Option Recorded) (mark : Option (ℕ × ℕ)) → mark ≡ option_map mark_of found → losing_or all found ≡ losing_in all mark
losing_next all None mark is = sym (ap (losing_in all) is)
losing_next all (Some r) mark is = sym (ap (losing_in all) is)

-- an event that is not refused is open to the gates
pub open_gate : (gates : List ℕ) (jobs : ℕ) (event : Event) → (IsRefused gates jobs event → ⊥) → IsOpenGate gates event
open_gate gates jobs Opened free = tt
open_gate gates jobs (Piece session Controller bytes) free = free
open_gate gates jobs (Piece session Switch bytes) free = tt
open_gate gates jobs (Closed session) free = tt
open_gate gates jobs Tick free = tt
open_gate gates jobs (Answer index) free = tt
open_gate gates jobs Idle free = tt
open_gate gates jobs Stop free = tt

-- an answer that is this has what this has
pub ok_is : {E : Type 0} (r : Result Event E) (x : Event) (P : Event → Type 0) → IfOk r (λ event. event ≡ x) → P x → IfOk r P
ok_is (Ok event) x P is p = subst P (sym is) p
ok_is (Err e) x P is p = tt

abbrev pub running : Traced → List Entry → List (List ℕ) → ℕ → Option ℕ → Running
running t h calls faults bad = record { trace = t; log = h; calls = calls; faults = faults; bad = bad }

abbrev IsNone : Option ℕ → Type 0
IsNone None = Unit {0}
IsNone (Some n) = ⊥

pub is_some-not_none : (n : ℕ) → Some n ≡ None → ⊥
is_some-not_none n e = subst IsNone (sym e) tt
