-- What a turn adds to a history.
use Rattle.std.proofs.Common.{◌≡◌, ℕ, zero, suc, ◌+◌, ◌<◌, Bool, true, false, List, [], ◌∷◌, ◌++◌, Option, Some, None, length, set, take, drop, refl, sym, ap, subst, ◌∙◌, add-zero, arith, ◌-◌, ◌^◌, ◌≤◌}
use Rattle.std.specs.Prelude.{slice_set, IfSome, OnOk, OnErr, Result, Ok, Err}
use Rattle.std.proofs.lemmas.List.{append-nil, get_or-set_same, take-append-drop, length-append}
use Rattle.std.proofs.Math.ListN.{length-set}
use Rattle.std.proofs.Math.Nat.{min-eq_left}
use Rattle.std.proofs.Math.Seq.{take-length}
use Rattle.of_frame.specs.declared.fault.FrameFault.{FrameFault}
use Rattle.std.specs.Option.{is_some}
use Rattle.of_frame.specs.Cut.{Pending}
use Rattle.mon_table.specs.declared.rule.Rule.{Rule}
use Rattle.mon_world.specs.declared.event.Side.{Side}
use Rattle.mon_world.specs.declared.event.Event.{Event}
use Rattle.mon_world.specs.declared.event.Event.TheVariants.{Opened, Piece, Closed, Tick, Answer, Idle, Stop}
use Rattle.mon_world.specs.declared.event.Out.{Out}
use Rattle.mon_world.specs.declared.event.Out.TheVariants.{Send, Close}
use Rattle.mon_world.specs.declared.history.Entry.{Entry}
use Rattle.mon_world.specs.declared.history.Entry.TheVariants.{Given, Noted, Put, End}
use Rattle.mon_world.specs.Logs.{entry_of, longer, opened_by, NamesOpened, inputs, IsStop, NoStop, StopsNow}
use Rattle.mon_world.specs.Causes.{counted}
use Rattle.mon_core.proofs.Ending.{opened-in}
use Rattle.mon_core.proofs.Sends.{AllSends, sends-side}
use Rattle.mon_core.specs.History.{Sides, fresh, closed, grown, controller_after, switch_after, table_after, completed, fault_after, after_piece, after_turn, from_side, from_piece, ending, session_at, on_event, sessions, owed, rest_of, IsFirst, LegalSoFar, Legal, Named, StandsFor, WasGiven, openings, the_out, outs_of, onto, logged, Carried, Came, Ran, RanToStop}

pub onto-more : (puts : List (Bool × Out)) (put : Bool × Out) (h : List Entry) → onto (puts ++ put ∷ []) h ≡ entry_of put.0 put.1 ∷ onto puts h
onto-more [] put h = refl
onto-more (p ∷ ps) put h = onto-more ps put (entry_of p.0 p.1 ∷ h)

pub logged-more : (puts : List (Bool × Out)) (put : Bool × Out) (log : Option (List Entry)) → logged (puts ++ put ∷ []) log ≡ longer (entry_of put.0 put.1) (logged puts log)
logged-more puts put None = refl
logged-more puts put (Some h) = ap (λ (x : List Entry). Some x) (onto-more puts put h)

pub logged-none : (log : Option (List Entry)) → logged [] log ≡ log
logged-none None = refl
logged-none (Some h) = refl

outs-more : (puts : List (Bool × Out)) (put : Bool × Out) → outs_of (puts ++ put ∷ []) ≡ outs_of puts ++ put.1 ∷ []
outs-more [] put = refl
outs-more (p ∷ ps) put = ap (λ (os : List Out). p.1 ∷ os) (outs-more ps put)

-- nothing yet, and one output more
pub carried-none : (log : Option (List Entry)) → Carried [] log log
carried-none log = ([], refl, sym (logged-none log))

pub carried-more : (outs more : List Out) (out : Out) (lost : Bool) (first before now : Option (List Entry)) → more ≡ outs ++ out ∷ [] → now ≡ longer (entry_of lost out) before → Carried outs first before → Carried more first now
carried-more outs more out lost first before now more_is now_is (puts, is, log) = (
  puts ++ (lost, out) ∷ [],
  outs-more puts (lost, out) ∙ ap (λ (os : List Out). os ++ out ∷ []) is ∙ sym more_is,
  now_is ∙ ap (longer (entry_of lost out)) log ∙ sym (logged-more puts (lost, out) first),
)

-- outputs that are owed are legal, put or lost, and leave what is owed behind them
pub legal-onto : (puts : List (Bool × Out)) (more : List Out) (h : List Entry) → LegalSoFar h → owed h ≡ outs_of puts ++ more → LegalSoFar (onto puts h) × (owed (onto puts h) ≡ more)
legal-onto [] more h legal e = (legal, e)
legal-onto ((lost, Send n to frame) ∷ puts) more h legal e =
    legal-onto puts more (Put n to frame lost ∷ h) (subst (IsFirst (Send n to frame)) (sym e) refl, legal) (ap rest_of e)
legal-onto ((lost, Close n) ∷ puts) more h legal e =
    legal-onto puts more (End n ∷ h) (subst (IsFirst (Close n)) (sym e) refl, legal) (ap rest_of e)

-- outputs change a session only where they end it
abbrev after_outs : List Out → List Sides → List Sides
after_outs [] core = core
after_outs (Send n to frame ∷ outs) core = after_outs outs core
after_outs (Close n ∷ outs) core = after_outs outs (slice_set core n (closed (session_at core n)))

sessions-onto : (puts : List (Bool × Out)) (h : List Entry) → sessions (onto puts h) ≡ after_outs (outs_of puts) (sessions h)
sessions-onto [] h = refl
sessions-onto ((lost, Send n to frame) ∷ puts) h = sessions-onto puts (Put n to frame lost ∷ h)
sessions-onto ((lost, Close n) ∷ puts) h = sessions-onto puts (End n ∷ h)

after-sends : (outs more : List Out) (core : List Sides) → AllSends outs → after_outs (outs ++ more) core ≡ after_outs more core
after-sends [] more core sends = refl
after-sends (Send n to frame ∷ outs) more core sends = after-sends outs more core sends
after-sends (Close n ∷ outs) more core sends = absurd sends

-- the second write stands
set-set : {A : Type 0} (xs : List A) (i : ℕ) (x y : A) → set (set xs i x) i y ≡ set xs i y
set-set [] i x y = refl
set-set (z ∷ xs) zero x y = refl
set-set (z ∷ xs) (suc i) x y = ap (λ (t : List _). z ∷ t) (set-set xs i x y)

after_ending : (core : List Sides) (n : ℕ) (controller switch : Pending) (table : List Rule) (fault : Option FrameFault) → n < length core
    → let session : Bool → Sides = λ ended. record { controller = controller; switch = switch; table = table; ended = ended } in
    after_outs (ending n fault) (slice_set core n (session false)) ≡ slice_set core n (session (is_some fault))
after_ending core n controller switch table None lt = refl
after_ending core n controller switch table (Some fault) lt =
    let session : Sides = record { controller = controller; switch = switch; table = table; ended = false } in
    rw (get_or-set_same core n session fresh lt) (set-set core n session (closed session))

-- the session that the history gives after a piece, once all that it leads to is put out
after_turn_is : (core : List Sides) (n : ℕ) (controller switch : Pending) (table : List Rule) (ended : Bool) (side : Side) (bytes : List ℕ) → n < length core
    → let session : Sides = record { controller = controller; switch = switch; table = table; ended = ended } in
    after_outs (from_piece n session side bytes) (slice_set core n (after_piece session side bytes)) ≡ slice_set core n (after_turn session side bytes)
after_turn_is core n controller switch table true side bytes lt = refl
after_turn_is core n controller switch table false side bytes lt =
    let session : Sides = record { controller = controller; switch = switch; table = table; ended = false } in
    let frames = completed session side bytes in
    let fault = fault_after session side bytes in
    after-sends (from_side n table side frames) (ending n fault) (slice_set core n (grown session side bytes)) (sends-side n table side frames)
    ∙ after_ending core n (controller_after controller side bytes) (switch_after switch side bytes) (table_after table side frames) fault lt

-- what is owed after an event is what the model puts out
owed-given : (event : Event) (h : List Entry) → owed (Given event ∷ h) ≡ (on_event event (sessions h)).1
unfolding on_event
owed-given Opened h = refl
owed-given (Piece n side bytes) h = refl
owed-given (Closed n) h = refl
owed-given Tick h = refl
owed-given (Answer index) h = refl
owed-given Idle h = refl
owed-given Stop h = refl

state-given : (event : Event) (h : List Entry) → NamesOpened (length (sessions h)) event
    → after_outs (on_event event (sessions h)).1 (sessions (Given event ∷ h)) ≡ (on_event event (sessions h)).0
unfolding on_event
state-given Opened h names = refl
state-given (Piece n side bytes) h names =
    let s = session_at (sessions h) n in
    after_turn_is (sessions h) n s.controller s.switch s.table s.ended side bytes names
state-given (Closed n) h names = refl
state-given Tick h names = refl
state-given (Answer index) h names = refl
state-given Idle h names = refl
state-given Stop h names = refl

legal-given : (event : Event) (h : List Entry) → Legal h → LegalSoFar (Given event ∷ h)
legal-given event h legal = (legal.whole, legal.so_far)

-- an event that names an opened session, and outputs, which name none
named-given : (event : Event) (h : List Entry) → NamesOpened (openings h) event → Named h → Named (Given event ∷ h)
named-given Opened h names named = named
named-given (Piece n side bytes) h names named = (names, named)
named-given (Closed n) h names named = (names, named)
named-given Tick h names named = named
named-given (Answer index) h names named = named
named-given Idle h names named = named
named-given Stop h names named = named

named-onto : (puts : List (Bool × Out)) (h : List Entry) → Named h → Named (onto puts h)
named-onto [] h named = named
named-onto ((lost, Send n to frame) ∷ puts) h named = named-onto puts (Put n to frame lost ∷ h) named
named-onto ((lost, Close n) ∷ puts) h named = named-onto puts (End n ∷ h) named

-- the model's turn makes a legal history longer
turn-stands : (event : Event) (core after : List Sides) (puts : List (Bool × Out)) (h : List Entry) → NamesOpened (length core) event → on_event event core ≡ (after, outs_of puts) → StandsFor core h → StandsFor after (onto puts (Given event ∷ h))
turn-stands event core after puts h names e stands =
    let outs = outs_of puts in
    let names' : NamesOpened (length (sessions h)) event = subst (λ c. NamesOpened (length c) event) stands.state names in
    let e' : on_event event (sessions h) ≡ (after, outs) = subst (λ c. on_event event c ≡ (after, outs)) stands.state e in
    let due : owed (Given event ∷ h) ≡ outs ++ [] = owed-given event h ∙ ap (λ x. x.1) e' ∙ sym (append-nil outs) in
    let done = legal-onto puts [] (Given event ∷ h) (legal-given event h stands.legal) due in
    let state : after_outs outs (sessions (Given event ∷ h)) ≡ after = subst (λ (x : List Sides × List Out). after_outs x.1 (sessions (Given event ∷ h)) ≡ x.0) e' (state-given event h names') in
    record {
      state = sym (sessions-onto puts (Given event ∷ h) ∙ state);
      legal = record { so_far = done.0; whole = done.1 };
      named = named-onto puts (Given event ∷ h) (named-given event h (subst (λ (k : ℕ). NamesOpened k event) (opened-in h) names') stands.named);
    }

turn-so_far : (event : Event) (core after : List Sides) (outs : List Out) (k : ℕ) (puts : List (Bool × Out)) (h : List Entry) → on_event event core ≡ (after, outs) → outs_of puts ≡ take k outs → StandsFor core h → LegalSoFar (onto puts (Given event ∷ h))
turn-so_far event core after outs k puts h e is stands =
    let e' : on_event event (sessions h) ≡ (after, outs) = subst (λ c. on_event event c ≡ (after, outs)) stands.state e in
    let due : owed (Given event ∷ h) ≡ outs_of puts ++ drop k outs =
    owed-given event h ∙ ap (λ x. x.1) e' ∙ sym (take-append-drop k outs) ∙ ap (λ (os : List Out). os ++ drop k outs) (sym is) in
    (legal-onto puts (drop k outs) (Given event ∷ h) (legal-given event h stands.legal) due).0

-- the same where the hub may tell no log
logged-stands : (event : Event) (core after : List Sides) (puts : List (Bool × Out)) (log : Option (List Entry)) → NamesOpened (length core) event → on_event event core ≡ (after, outs_of puts)
    → IfSome log (WasGiven event core) → IfSome (logged puts log) (StandsFor after)
logged-stands event core after puts None names e given = tt
logged-stands event core after puts (Some []) names e given = absurd given
logged-stands event core after puts (Some (Given last ∷ h)) names e given =
    subst (λ (x : Event). StandsFor after (onto puts (Given x ∷ h))) (sym given.0) (turn-stands event core after puts h names e given.1)
logged-stands event core after puts (Some (Noted note ∷ h)) names e given = absurd given
logged-stands event core after puts (Some (Put n to frame lost ∷ h)) names e given = absurd given
logged-stands event core after puts (Some (End n ∷ h)) names e given = absurd given

logged-so_far : (event : Event) (core after : List Sides) (outs : List Out) (k : ℕ) (puts : List (Bool × Out)) (log : Option (List Entry)) → on_event event core ≡ (after, outs) → outs_of puts ≡ take k outs
    → IfSome log (WasGiven event core) → IfSome (logged puts log) LegalSoFar
logged-so_far event core after outs k puts None e is given = tt
logged-so_far event core after outs k puts (Some []) e is given = absurd given
logged-so_far event core after outs k puts (Some (Given last ∷ h)) e is given =
    subst (λ (x : Event). LegalSoFar (onto puts (Given x ∷ h))) (sym given.0) (turn-so_far event core after outs k puts h e is given.1)
logged-so_far event core after outs k puts (Some (Noted note ∷ h)) e is given = absurd given
logged-so_far event core after outs k puts (Some (Put n to frame lost ∷ h)) e is given = absurd given
logged-so_far event core after outs k puts (Some (End n ∷ h)) e is given = absurd given

-- a turn that fails before its first output
pub given-so_far : (event : Event) (core : List Sides) (log : Option (List Entry)) → IfSome log (WasGiven event core) → IfSome log LegalSoFar
given-so_far event core None given = tt
given-so_far event core (Some []) given = tt
given-so_far event core (Some (Given last ∷ h)) given = legal-given last h given.1.legal
given-so_far event core (Some (Noted note ∷ h)) given = absurd given
given-so_far event core (Some (Put n to frame lost ∷ h)) given = absurd given
given-so_far event core (Some (End n ∷ h)) given = absurd given

-- what was given is on the log
pub longer-given : (event : Event) (core : List Sides) (log : Option (List Entry)) → IfSome log (StandsFor core) → IfSome (longer (Given event) log) (WasGiven event core)
longer-given event core None stands = tt
longer-given event core (Some h) stands = (refl, stands)

-- sessions that fit into memory are counted
small-counted : (n : ℕ) → n + 1 < 2 ^ 63 → n + 1 ≡ counted n
small-counted n small = sym (min-eq_left {n = n + 1} {m = 2 ^ 64 - 1} (omega (arith, small)))

pub opened-is : (event : Event) (core after : List Sides) (outs : List Out) → length after < 2 ^ 63 → on_event event core ≡ (after, outs) → length after ≡ opened_by event (length core)
unfolding on_event
opened-is Opened core after outs small e =
    let is : length after ≡ length core + 1 = sym (ap (λ (x : List Sides × List Out). length x.0) e) ∙ length-append core (fresh ∷ []) in
    is ∙ small-counted (length core) (subst (λ (k : ℕ). k < 2 ^ 63) is small)
opened-is (Piece n side bytes) core after outs small e = sym (ap (λ (x : List Sides × List Out). length x.0) e) ∙ length-set core n _
opened-is (Closed n) core after outs small e = sym (ap (λ (x : List Sides × List Out). length x.0) e)
opened-is Tick core after outs small e = sym (ap (λ (x : List Sides × List Out). length x.0) e)
opened-is (Answer index) core after outs small e = sym (ap (λ (x : List Sides × List Out). length x.0) e)
opened-is Idle core after outs small e = sym (ap (λ (x : List Sides × List Out). length x.0) e)
opened-is Stop core after outs small e = sym (ap (λ (x : List Sides × List Out). length x.0) e)

some-so_far : (event : Event) (core after : List Sides) (outs : List Out) (k : ℕ) (old new : Option (List Entry)) → on_event event core ≡ (after, outs) → IfSome old (WasGiven event core) → Carried (take k outs) old new → IfSome new LegalSoFar
some-so_far event core after outs k old new e given (puts, is, log) =
    subst (λ (l : Option (List Entry)). IfSome l LegalSoFar) (sym log) (logged-so_far event core after outs k puts old e is given)

pub carried-so_far : {A E : Type 0} (r : Result A E) (event : Event) (core after : List Sides) (outs slice : List Out) (old new : Option (List Entry)) → on_event event core ≡ (after, outs)
    → IfSome old (WasGiven event core) → slice ≡ outs → OnOk r (Carried slice old new) → OnErr r ((n : ℕ) × Carried (take n slice) old new) → IfSome new LegalSoFar
carried-so_far (Ok x) event core after outs slice old new e given same ok err =
    some-so_far event core after outs (length outs) old new e given (subst (λ (os : List Out). Carried os old new) (same ∙ sym (take-length outs)) ok)
carried-so_far (Err x) event core after outs slice old new e given same ok err =
    some-so_far event core after outs err.0 old new e given (subst (λ (os : List Out). Carried (take err.0 os) old new) same err.1)

pub stood : (event : Event) (core after : List Sides) (outs slice : List Out) (old new : Option (List Entry)) → NamesOpened (length core) event → on_event event core ≡ (after, outs)
    → IfSome old (WasGiven event core) → slice ≡ outs → Carried slice old new → IfSome new (StandsFor after)
stood event core after outs slice old new names e given same (puts, is, log) =
    let e' : on_event event core ≡ (after, outs_of puts) = subst (λ (os : List Out). on_event event core ≡ (after, os)) (sym (is ∙ same)) e in
    subst (λ (l : Option (List Entry)). IfSome l (StandsFor after)) (sym log) (logged-stands event core after puts old names e' given)

inputs-onto : (puts : List (Bool × Out)) (h : List Entry) → inputs (onto puts h) ≡ inputs h
inputs-onto [] h = refl
inputs-onto ((lost, Send n to frame) ∷ puts) h = inputs-onto puts (Put n to frame lost ∷ h)
inputs-onto ((lost, Close n) ∷ puts) h = inputs-onto puts (End n ∷ h)

pub carried-put : {A E : Type 0} (r : Result A E) (slice : List Out) (old new : Option (List Entry))
    → OnOk r (Carried slice old new) → OnErr r ((n : ℕ) × Carried (take n slice) old new) → (puts : List (Bool × Out)) × (new ≡ logged puts old)
carried-put (Ok x) slice old new ok err = (ok.0, ok.2)
carried-put (Err x) slice old new ok err = (err.1.0, err.1.2)

-- what is put goes in front of all entries
onto-append : (puts : List (Bool × Out)) (entries h : List Entry) → onto puts (entries ++ h) ≡ onto puts entries ++ h
onto-append [] entries h = refl
onto-append (p ∷ puts) entries h = onto-append puts (entry_of p.0 p.1 ∷ entries) h

came-on : (entries h k : List Entry) (event : Event) (outs : List (Bool × Out)) → Came entries h k → Came (onto outs (Given event ∷ entries)) h (onto outs (Given event ∷ k))
came-on entries h k event outs came =
    ap (λ (x : List Entry). onto outs (Given event ∷ x)) came ∙ onto-append outs (Given event ∷ entries) h

-- no event yet
pub ran-none : (log : Option (List Entry)) → Ran log log 0
ran-none None = refl
ran-none (Some h) = (sym (add-zero (length (inputs h))), (λ none. none), [], refl, refl, tt)

-- one event more that is not Stop
pub ran-on : (first now : Option (List Entry)) (turns : ℕ) (event : Event) (outs : List (Bool × Out)) → Ran first now turns → (IsStop event → ⊥) → Ran first (logged outs (longer (Given event) now)) (turns + 1)
ran-on None None turns event outs ran not_stop = refl
ran-on None (Some k) turns event outs ran not_stop = absurd cc
ran-on (Some h) None turns event outs ran not_stop = absurd ran
ran-on (Some h) (Some k) turns event outs (count, none, entries, came, new, none_new) not_stop =
    let e : inputs (onto outs (Given event ∷ k)) ≡ event ∷ inputs k = inputs-onto outs (Given event ∷ k) in
    let e' : inputs (onto outs (Given event ∷ entries)) ≡ event ∷ inputs entries = inputs-onto outs (Given event ∷ entries) in (
      ap length e ∙ (let n : suc (length (inputs k)) ≡ length (inputs h) + (turns + 1) = omega (arith, count) in n),
      (λ before. subst NoStop (sym e) (not_stop, none before)),
      onto outs (Given event ∷ entries),
      came-on entries h k event outs came,
      ap length e' ∙ (let n : suc (length (inputs entries)) ≡ turns + 1 = omega (arith, new) in n),
      subst NoStop (sym e') (not_stop, none_new),
    )

pub ran-to_stop : (first now : Option (List Entry)) (turns : ℕ) (event : Event) (outs : List (Bool × Out)) → Ran first now turns → IsStop event → RanToStop first (logged outs (longer (Given event) now))
ran-to_stop None None turns event outs ran stop = refl
ran-to_stop None (Some k) turns event outs ran stop = absurd cc
ran-to_stop (Some h) None turns event outs ran stop = absurd ran
ran-to_stop (Some h) (Some k) turns event outs (count, none, entries, came, new, none_new) stop =
    let e : inputs (onto outs (Given event ∷ k)) ≡ event ∷ inputs k = inputs-onto outs (Given event ∷ k) in
    let e' : inputs (onto outs (Given event ∷ entries)) ≡ event ∷ inputs entries = inputs-onto outs (Given event ∷ entries) in (
      (λ before. subst StopsNow (sym e) (stop, none before)),
      onto outs (Given event ∷ entries),
      came-on entries h k event outs came,
      subst StopsNow (sym e') (stop, none_new),
    )
