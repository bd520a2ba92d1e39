-- An opening keeps that the core follows from the log.
use Rattle.std.proofs.Common.{◌≡◌, ℕ, ◌+◌, ◌-◌, ◌^◌, ◌<◌, List, [], ◌∷◌, ◌++◌, length, Option, Some, None, option_map, refl, sym, ap, subst, ◌∙◌, arith}
use Rattle.std.specs.Prelude.{IfSome}
use Rattle.std.proofs.lemmas.List.{length-append}
use Rattle.mon_world.specs.declared.event.Event.TheVariants.{Opened}
use Rattle.mon_world.specs.declared.history.Entry.{Entry}
use Rattle.mon_world.specs.declared.history.Entry.TheVariants.{Given, Noted, End}
use Rattle.mon_world.specs.declared.event.Note.TheVariants.{Report}
use Rattle.mon_world.specs.Logs.{longer}
use Rattle.mon_report.specs.declared.line.Line.TheVariants.{Closed}
use Rattle.mon_report.specs.declared.line.Cause.TheVariants.{TooMany}
use Rattle.mon_legal.specs.Runs.{Run}
use Rattle.mon_legal.specs.Moments.{Moment, shown}
use Rattle.mon_legal.specs.Moments.Moment.{Is}
use Rattle.mon_legal.specs.Jobs.{openings}
use Rattle.mon_legal.specs.Sessions.{opened, next_slot}
use Rattle.mon_turns.specs.Core.{State}
use Rattle.mon_turns.specs.Slots.{free_slot}
use Rattle.mon_turns.specs.Opening.{HasRoom, MayOpen, opening, opening_entries, refused, opened_in}
use Rattle.mon_turns.specs.Standing.{Follows, Comes}
use Rattle.mon_turns.specs.Laws.{away}
use Rattle.mon_turns.proofs.Born.{numbered}
use Rattle.mon_turns.proofs.Taken.{free-same}
use Rattle.mon_turns.proofs.Opens.{openings-stand}
use Rattle.mon_turns.proofs.Away.{turned-away}

more-room : (run : Run) (f : List Moment) → HasRoom run f → openings run f < 2 ^ 64 - 1 → HasRoom run (Is (Given Opened) ∷ f)
more-room run f room low =
    let n : openings run f ≡ run.openings + length (opened run f) = numbered run f room in
    let more : length (opened run f ++ openings run f ∷ []) ≡ length (opened run f) + 1 = length-append (opened run f) (openings run f ∷ []) in omega arith

pub follows-opened : (run : Run) (core : State) (h : List Entry) (o : Option ℕ) → Follows run core h → free_slot core ≡ o → core.openings < 2 ^ 64 - 1
    → Follows run (opening o core) (opening_entries o core.openings (Given Opened ∷ h))
follows-opened run core h o old e low =
    let f = old.moments in
    let room = more-room run f old.room (subst (λ (s : State). s.openings < 2 ^ 64 - 1) old.state low) in
    let next : next_slot run f ≡ o = sym (free-same run f old.room old.order old.whole) ∙ sym (ap free_slot old.state) ∙ e in
    elim o as (λ p. next_slot run f ≡ p → Follows run (opening p core) (opening_entries p core.openings (Given Opened ∷ h))) [
      | None ↦ λ g.
          let three = turned-away run f room old.order old.whole g in
          record {
            moments = away run f;
            shows = ap (λ (s : State). opening_entries None s.openings (Given Opened ∷ shown f)) (sym old.state)
                ∙ ap (λ (k : List Entry). opening_entries None core.openings (Given Opened ∷ k)) old.shows;
            order = three.0;
            whole = three.1;
            room = room;
            state = ap refused old.state ∙ sym three.2;
          }
      | Some slot ↦ λ g.
          let three = openings-stand run f slot room old.order old.whole g in
          record {
            moments = Is (Given Opened) ∷ f;
            shows = ap (λ (k : List Entry). Given Opened ∷ k) old.shows;
            order = three.0;
            whole = three.1;
            room = room;
            state = ap (opened_in slot) old.state ∙ sym three.2;
          }
    ] next

-- where the hub tells its log ---------------------------------------------------

told-on : (run : Run) (core : State) (h : List Entry) (o : Option ℕ) → Comes run Opened core h → core.openings < 2 ^ 64 - 1 → free_slot core ≡ o
    → Follows run (opening o core) (opening_entries o core.openings h)
told-on run core h o comes low e =
    subst (λ (k : List Entry). Follows run (opening o core) (opening_entries o core.openings k)) (sym comes.last) (follows-opened run core comes.before o comes.follows e low)

as-it-is : (log : Option (List Entry)) → option_map (λ h. h) log ≡ log
as-it-is None = refl
as-it-is (Some h) = refl

moved : (run now : Run) (core state : State) (log after : Option (List Entry)) (k : List Entry → List Entry) → now ≡ run → state ≡ core → after ≡ option_map k log
    → IfSome log (λ h. Follows run core (k h)) → IfSome after (Follows now state)
moved run now core state None after k same is e told = subst (λ (l : Option (List Entry)). IfSome l (Follows now state)) (sym e) tt
moved run now core state (Some h) after k same is e told =
    subst (λ (l : Option (List Entry)). IfSome l (Follows now state)) (sym e)
    (subst (λ (s : State). Follows now s (k h)) (sym is) (subst (λ (r : Run). Follows r core (k h)) (sym same) told))

comes-told : (run : Run) (core : State) (log : Option (List Entry)) (o : Option ℕ) → IfSome log (Comes run Opened core) → core.openings < 2 ^ 64 - 1 → free_slot core ≡ o
    → IfSome log (λ h. Follows run (opening o core) (opening_entries o core.openings h))
comes-told run core None o comes low e = tt
comes-told run core (Some h) o comes low e = told-on run core h o comes low e

-- a session opens in its slot
pub follows-in : (run now : Run) (core state : State) (log after : Option (List Entry)) (slot : ℕ) → IfSome log (Comes run Opened core)
    → core.openings < 2 ^ 64 - 1 → free_slot core ≡ Some slot → now ≡ run → state ≡ opened_in slot core → after ≡ log → IfSome after (Follows now state)
follows-in run now core state log after slot comes low e same is put =
    moved run now (opened_in slot core) state log after (λ h. h) same is (put ∙ sym (as-it-is log)) (comes-told run core log (Some slot) comes low e)

-- a session is turned away
pub put-away : (number n : ℕ) (log after : Option (List Entry)) → after ≡ longer (Noted (Report (Closed number TooMany))) (longer (End number) log) → number ≡ n
    → after ≡ option_map (opening_entries None n) log
put-away number n None after e same = e
put-away number n (Some h) after e same = e ∙ ap (λ (k : ℕ). Some (Noted (Report (Closed k TooMany)) ∷ End k ∷ h)) same

pub follows-away : (run now : Run) (core state : State) (log after : Option (List Entry)) (number : ℕ) → IfSome log (Comes run Opened core)
    → core.openings < 2 ^ 64 - 1 → free_slot core ≡ None → now ≡ run → state ≡ refused core → number ≡ core.openings
    → after ≡ longer (Noted (Report (Closed number TooMany))) (longer (End number) log) → IfSome after (Follows now state)
follows-away run now core state log after number comes low e same is n put =
    moved run now (refused core) state log after (opening_entries None core.openings) same is (put-away number core.openings log after put n) (comes-told run core log None comes low e)

-- no number is left
pub may-not : (o : Option ℕ) (core : State) → core.openings ≡ 2 ^ 64 - 1 → MayOpen o core → ⊥
may-not None core e may = absurd (omega arith)
may-not (Some slot) core e may = let low : core.openings < 2 ^ 64 - 1 = may.0 in absurd (omega arith)
