-- A session that gets no slot is ended at once.
use Rattle.std.proofs.Common.{◌≡◌, ℕ, ◌+◌, ◌<◌, Bool, true, false, cond, ◌&&◌, List, [], ◌∷◌, ◌++◌, map, Option, Some, None, option_map, refl, sym, ap, subst, ◌∙◌}
use Rattle.std.specs.Prelude.{◌==◌, nat_lt}
use Rattle.std.specs.List.{AllByRecursion, range_with_len}
use Rattle.std.proofs.lemmas.Bool.{false≢true}
use Rattle.std.proofs.lemmas.List.{append-nil}
use Rattle.std.proofs.lemmas.List.Elements.{filter-append}
use Rattle.mon_report.specs.declared.line.Line.{Line}
use Rattle.mon_report.specs.declared.line.Line.TheVariants.{Closed}
use Rattle.mon_report.specs.declared.line.Cause.{Cause}
use Rattle.mon_report.specs.declared.line.Cause.TheVariants as why
use Rattle.mon_world.specs.declared.event.Event.TheVariants.{Opened}
use Rattle.mon_world.specs.declared.event.Note.TheVariants.{Report}
use Rattle.mon_world.specs.declared.history.Entry.TheVariants.{Given, Noted, End}
use Rattle.mon_legal.specs.Runs.{Run}
use Rattle.mon_legal.specs.Changing.{only}
use Rattle.mon_legal.specs.Owns.{Own}
use Rattle.mon_legal.specs.Owns.Own.{Begins, Reports, Ends}
use Rattle.mon_legal.specs.Barriers.{is_armed}
use Rattle.mon_legal.specs.Held.{due_act}
use Rattle.mon_legal.specs.Probes.{or_own, wanting}
use Rattle.mon_legal.specs.Watching.{watch_wanted}
use Rattle.mon_legal.specs.Directly.{owed}
use Rattle.mon_legal.specs.Directly.Due.{Tells}
use Rattle.mon_legal.specs.Moments.{Moment, cause}
use Rattle.mon_legal.specs.Moments.Moment.{Is}
use Rattle.mon_legal.specs.Jobs.{openings, unanswered}
use Rattle.mon_legal.specs.Sessions.{Parts, part, parts_of, if_open, neighbour_if, opened, open_ones, is_open, has_ended, has_lost, view, next_slot, slot_of, slot_version, version, version_or, changes, sum_changes, placements, with_slot, is_tick}
use Rattle.mon_legal.specs.Ordering.{Next, next, first_due, or_next, due_of, act_of, lost_of, want_of, jobs_in_slot}
use Rattle.mon_legal.specs.Ordering.Next.{Meets, Nothing}
use Rattle.mon_legal.specs.Offering.{JobsAreOffered}
use Rattle.mon_legal.specs.Passing.{Comes, FramesGoInOrder}
use Rattle.mon_legal.proofs.Offered.{jobs-are-offered}
use Rattle.mon_turns.specs.Core.{Connected, State, Waiting, connected_at, versions_of, waiting_at, state_of, slot_or}
use Rattle.mon_turns.specs.Opening.{HasRoom}
use Rattle.mon_turns.specs.Laws.{TurnedAway, away}
use Rattle.mon_turns.proofs.Born.{all-push, all-weaker, apart, below, placed-below, less-room, next-number, same-number, part-other, part-new}
use Rattle.mon_turns.proofs.Opened.{sum-same, all-tested, all-units, filter-same, map-same, made, jobs-below}
use Rattle.mon_turns.proofs.Quiet.{NoneOf, behind_dues, Rests, rests, rested, all-both, act-other, want-less, jobs-same}
use Rattle.mon_turns.proofs.Taken.{first-last, bare-next}

-- what an end and its report show ------------------------------------------------

nothing-more : (parts : Parts) (s : ℕ) (a : Bool) → a ≡ false → if_open parts s (only a (Ends ∷ []) ++ []) ++ parts s ≡ parts s
nothing-more parts s true e = absurd (false≢true (sym e))
nothing-more parts s false e = refl

-- the end of a session that is not armed is seen by none of the others
pub end-other : (run : Run) (f : List Moment) (n s : ℕ) → is_armed (part run n f) ≡ false → (n == s) ≡ false → part run s (Is (End n) ∷ f) ≡ part run s f
end-other run f n s e x =
    ap (λ (b : Bool). if_open (parts_of run f) s (only (n == s) (Ends ∷ []) ++ neighbour_if run (parts_of run f) s n b) ++ part run s f) e
    ∙ nothing-more (parts_of run f) s (n == s) x

ends-one : (run : Run) (parts : Parts) (n : ℕ) (own : List Own) → parts n ≡ own → is_open own ≡ true → is_armed own ≡ false
    → if_open parts n (only (n == n) (Ends ∷ []) ++ neighbour_if run parts n n (is_armed (parts n))) ++ parts n ≡ Ends ∷ own
ends-one run parts n own e there unarmed =
    ap (λ (b : Bool). if_open parts n (only b (Ends ∷ []) ++ neighbour_if run parts n n (is_armed (parts n))) ++ parts n) (same-number n)
    ∙ ap (λ (a : Bool). only (is_open (parts n)) (Ends ∷ neighbour_if run parts n n a) ++ parts n) (ap is_armed e ∙ unarmed)
    ∙ ap (λ (seen : List Own). only (is_open seen) (Ends ∷ []) ++ seen) e
    ∙ ap (λ (b : Bool). only b (Ends ∷ []) ++ own) there

pub end-own : (run : Run) (f : List Moment) (n : ℕ) (own : List Own) → part run n f ≡ own → is_open own ≡ true → is_armed own ≡ false
    → part run n (Is (End n) ∷ f) ≡ Ends ∷ own
end-own run f n own e there unarmed = ends-one run (parts_of run f) n own e there unarmed

heard-none : (b h : Bool) (l : Line) (p : List Own) → b ≡ false → only (b && h) (Reports l ∷ []) ++ [] ++ p ≡ p
heard-none true h l p e = absurd (false≢true (sym e))
heard-none false h l p e = refl

heard-one : (b h : Bool) (l : Line) (p : List Own) → b ≡ true → h ≡ true → only (b && h) (Reports l ∷ []) ++ [] ++ p ≡ Reports l ∷ p
heard-one true true l p e g = refl
heard-one true false l p e g = absurd (false≢true g)
heard-one false h l p e g = absurd (false≢true e)

pub closed-other : (run : Run) (f : List Moment) (n s : ℕ) (why : Cause) → (n == s) ≡ false → part run s (Is (Noted (Report (Closed n why))) ∷ f) ≡ part run s f
closed-other run f n s why x = heard-none (n == s) (has_ended (part run s f)) (Closed n why) (part run s f) x

pub closed-own : (run : Run) (f : List Moment) (n : ℕ) (why : Cause) → has_ended (part run n f) ≡ true
    → part run n (Is (Noted (Report (Closed n why))) ∷ f) ≡ Reports (Closed n why) ∷ part run n f
closed-own run f n why e = heard-one (n == n) (has_ended (part run n f)) (Closed n why) (part run n f) (same-number n) e

-- the turn of a session without a slot ------------------------------------------------

abbrev opened_now : List Moment → List Moment
opened_now f = Is (Given Opened) ∷ f

abbrev ended_now : Run → List Moment → List Moment
ended_now run f = Is (End (openings run f)) ∷ opened_now f

abbrev bare_own : List Own
bare_own = Begins None ∷ []

opened-own : (run : Run) (f : List Moment) → HasRoom run f → next_slot run f ≡ None → part run (openings run f) (opened_now f) ≡ bare_own
opened-own run f room e = part-new run f room ∙ ap (λ (o : Option ℕ). Begins o ∷ []) e

ended-own : (run : Run) (f : List Moment) → HasRoom run f → next_slot run f ≡ None → part run (openings run f) (ended_now run f) ≡ Ends ∷ bare_own
ended-own run f room e = end-own run (opened_now f) (openings run f) bare_own (opened-own run f room e) refl refl

away-own : (run : Run) (f : List Moment) → HasRoom run f → next_slot run f ≡ None
    → part run (openings run f) (away run f) ≡ Reports (Closed (openings run f) why.TooMany) ∷ Ends ∷ bare_own
away-own run f room e =
    let own = ended-own run f room e in
    closed-own run (ended_now run f) (openings run f) why.TooMany (ap has_ended own)
    ∙ ap (λ (p : List Own). Reports (Closed (openings run f) why.TooMany) ∷ p) own

ended-other : (run : Run) (f : List Moment) (s : ℕ) → HasRoom run f → next_slot run f ≡ None → s < openings run f → part run s (ended_now run f) ≡ part run s f
ended-other run f s room e lt =
    let x = apart (openings run f) s lt in
    end-other run (opened_now f) (openings run f) s (ap is_armed (opened-own run f room e)) x ∙ part-other run f s x

away-other : (run : Run) (f : List Moment) (s : ℕ) → HasRoom run f → next_slot run f ≡ None → s < openings run f → part run s (away run f) ≡ part run s f
away-other run f s room e lt =
    closed-other run (ended_now run f) (openings run f) s why.TooMany (apart (openings run f) s lt) ∙ ended-other run f s room e lt

-- each comes in its place
ended-next : (run : Run) (f : List Moment) → HasRoom run f → next run f ≡ Nothing → next_slot run f ≡ None
    → next run (ended_now run f) ≡ Meets (openings run f) (Tells (Closed (openings run f) why.TooMany))
unfolding next
ended-next run f room nothing e =
    let n = openings run f in
    let g = ended_now run f in
    let others : NoneOf (due_of run g) (opened run f) =
    all-both (λ s. s < n) (λ s. due_of run f s ≡ None) (λ s. due_of run g s ≡ None) (opened run f)
    (λ s lt x. ap (λ (own : List Own). first_due (owed run s own)) (ended-other run f s room e lt) ∙ x) (below run f room) (rests run f nothing).dues in
    let own : due_of run g n ≡ Some (Tells (Closed n why.TooMany)) = ap (λ (own : List Own). first_due (owed run n own)) (ended-own run f room e) in
    ap (λ o. or_next (option_map (λ p. Meets p.0 p.1) o) (behind_dues run g)) (first-last (due_of run g) (opened run f) n (Tells (Closed n why.TooMany)) others own)

away-order : (run : Run) (f : List Moment) → HasRoom run f → FramesGoInOrder run f → next run f ≡ Nothing → next_slot run f ≡ None
    → FramesGoInOrder run (away run f)
away-order run f room order nothing e = (
  tt,
  subst (λ (n : Next). Comes run (ended_now run f) n (Is (Noted (Report (Closed (openings run f) why.TooMany))))) (sym (ended-next run f room nothing e)) refl,
  (
    tt,
    subst (λ (n : Next). Comes run (opened_now f) n (Is (End (openings run f)))) (sym (bare-next run f room nothing e)) refl,
    (nothing, subst (λ (n : Next). Comes run f n (Is (Given Opened))) (sym nothing) refl, order),
  ),
)

away-jobs : (run : Run) (f : List Moment) (s : ℕ) → HasRoom run f → JobsAreOffered run f → s < openings run f
    → jobs_in_slot run s (away run f) ≡ jobs_in_slot run s f
away-jobs run f s room offered lt = jobs-same run f s room offered lt

away-wants : (run : Run) (f : List Moment) (s : ℕ) → HasRoom run f → JobsAreOffered run f → next_slot run f ≡ None → s < openings run f → want_of run f s ≡ None
    → want_of run (away run f) s ≡ None
away-wants run f s room offered none lt e =
    let own = part run s f in
    let test : Bool = is_open own && nat_lt (jobs_in_slot run s f) 16 in
    ap (λ (p : List Own). cond (is_open p && nat_lt (jobs_in_slot run s (away run f)) 16) (or_own (wanting run p) None) None) (away-other run f s room none lt)
    ∙ ap (λ (n : ℕ). cond (is_open own && nat_lt n 16) (or_own (wanting run own) None) None) (away-jobs run f s room offered lt)
    ∙ want-less test (wanting run own) (option_map (λ r. 0) (watch_wanted run (is_tick (cause f)) own)) e

away-rests : (run : Run) (f : List Moment) → HasRoom run f → JobsAreOffered run f → next_slot run f ≡ None → Rests run f → Rests run (away run f)
away-rests run f room offered e r =
    let n = openings run f in
    let g = away run f in
    let under : AllByRecursion (λ s. s < n) (opened run f) = below run f room in
    let seen = away-own run f room e in
    record {
      dues = all-push (λ s. due_of run g s ≡ None) (opened run f) n
          (all-both (λ s. s < n) (λ s. due_of run f s ≡ None) (λ s. due_of run g s ≡ None) (opened run f)
          (λ s lt x. ap (λ (own : List Own). first_due (owed run s own)) (away-other run f s room e lt) ∙ x) under r.dues)
          (ap (λ (own : List Own). first_due (owed run n own)) seen);
      acts = all-push (λ s. act_of run g s ≡ None) (opened run f) n
          (all-both (λ s. s < n) (λ s. act_of run f s ≡ None) (λ s. act_of run g s ≡ None) (opened run f)
          (λ s lt x. ap (λ (own : List Own). cond (is_open own) (due_act run (view run s g) own) None) (away-other run f s room e lt)
          ∙ act-other run (part run s f) (view run s f) (view run s g) x) under r.acts)
          (ap (λ (own : List Own). cond (is_open own) (due_act run (view run n g) own) None) seen);
      losses = all-push (λ s. lost_of run g s ≡ None) (opened run f) n
          (all-both (λ s. s < n) (λ s. lost_of run f s ≡ None) (λ s. lost_of run g s ≡ None) (opened run f)
          (λ s lt x. ap (λ (own : List Own). cond (has_lost own) (Some tt) None) (away-other run f s room e lt) ∙ x) under r.losses)
          (ap (λ (own : List Own). cond (has_lost own) (Some tt) None) seen);
      piece = refl;
      wants = all-push (λ s. want_of run g s ≡ None) (opened run f) n
          (all-both (λ s. s < n) (λ s. want_of run f s ≡ None) (λ s. want_of run g s ≡ None) (opened run f)
          (λ s lt x. away-wants run f s room offered e lt x) under r.wants)
          (ap (λ (own : List Own). cond (is_open own && nat_lt (jobs_in_slot run n g) 16) (or_own (wanting run own) None) None) seen);
    }

-- the state ---------------------------------------------------------------------------

away-version : (run : Run) (f : List Moment) (slot : ℕ) → HasRoom run f → next_slot run f ≡ None → slot_version run slot (away run f) ≡ slot_version run slot f
away-version run f slot room e =
    ap (λ (o : Option ℕ). sum_changes (parts_of run (away run f)) slot (with_slot (openings run f) o (placements run f))) e
    ∙ sum-same (parts_of run f) (parts_of run (away run f)) slot (placements run f)
    (all-weaker (λ p. p.session < openings run f) (λ p. changes (part run p.session (away run f)) ≡ changes (part run p.session f)) (placements run f)
    (λ p lt. ap changes (away-other run f p.session room e lt)) (placed-below run f room))

away-version-of : (run : Run) (f : List Moment) (o : Option ℕ) → HasRoom run f → next_slot run f ≡ None
    → version_or run (parts_of run (away run f)) o (away run f) ≡ version_or run (parts_of run f) o f
away-version-of run f None room e = refl
away-version-of run f (Some slot) room e = away-version run f slot room e

away-session : (run : Run) (f : List Moment) (s : ℕ) → HasRoom run f → next_slot run f ≡ None → s < openings run f
    → connected_at run (away run f) s ≡ connected_at run f s
away-session run f s room e lt =
    let g = away run f in
    let at : slot_of run s g ≡ slot_of run s f = ap (λ (b : Bool). cond b (next_slot run f) (slot_of run s f)) (apart (openings run f) s lt) in
    let seen = away-other run f s room e lt in
    let v : version run s g ≡ version run s f = ap (λ (o : Option ℕ). version_or run (parts_of run g) o g) at ∙ away-version-of run f (slot_of run s f) room e in
    ap (λ (o : Option ℕ). made run f s o (part run s g) (version run s g)) at
    ∙ ap (λ (own : List Own). made run f s (slot_of run s f) own (version run s g)) seen
    ∙ ap (λ (w : ℕ). made run f s (slot_of run s f) (part run s f) w) v

away-open : (run : Run) (f : List Moment) → HasRoom run f → next_slot run f ≡ None → open_ones run (away run f) ≡ open_ones run f
away-open run f room e =
    let n = openings run f in
    let now : ℕ → Bool = λ s. is_open (part run s (away run f)) in
    let shut : now n ≡ false = ap is_open (away-own run f room e) in
    filter-append now (opened run f) (n ∷ [])
    ∙ ap (λ (xs : List ℕ). xs ++ cond (now n) (n ∷ []) [])
    (filter-same now (λ s. is_open (part run s f)) (opened run f)
    (all-weaker (λ s. s < n) (λ s. now s ≡ is_open (part run s f)) (opened run f) (λ s lt. ap is_open (away-other run f s room e lt)) (below run f room)))
    ∙ ap (λ (b : Bool). open_ones run f ++ cond b (n ∷ []) []) shut
    ∙ append-nil (open_ones run f)

away-sessions : (run : Run) (f : List Moment) → HasRoom run f → next_slot run f ≡ None → (state_of run (away run f)).sessions ≡ (state_of run f).sessions
away-sessions run f room e =
    ap (map (connected_at run (away run f))) (away-open run f room e)
    ∙ map-same (connected_at run (away run f)) (connected_at run f) (open_ones run f)
    (all-weaker (λ s. (s < openings run f) × (is_open (part run s f) ≡ true)) (λ s. connected_at run (away run f) s ≡ connected_at run f s) (open_ones run f)
    (λ s both. away-session run f s room e both.0)
    (all-tested (λ s. s < openings run f) (λ s. is_open (part run s f)) (opened run f) (below run f room)))

away-versions : (run : Run) (f : List Moment) → HasRoom run f → next_slot run f ≡ None → versions_of run (away run f) ≡ versions_of run f
away-versions run f room e =
    map-same (λ slot. slot_version run slot (away run f)) (λ slot. slot_version run slot f) (range_with_len 0 64)
    (all-units (λ slot. slot_version run slot (away run f) ≡ slot_version run slot f) (range_with_len 0 64) (λ slot. away-version run f slot room e))

away-waiting : (run : Run) (f : List Moment) → HasRoom run f → JobsAreOffered run f → (state_of run (away run f)).jobs ≡ (state_of run f).jobs
away-waiting run f room offered =
    map-same (waiting_at run (away run f)) (waiting_at run f) (unanswered f)
    (all-weaker (λ j. j.session < openings run f) (λ j. waiting_at run (away run f) j ≡ waiting_at run f j) (unanswered f)
    (λ j lt. ap (λ (b : Bool). record { job = j; slot = slot_or (cond b (next_slot run f) (slot_of run j.session f)) }) (apart (openings run f) j.session lt))
    (jobs-below run f room offered))

pub turned-away : TurnedAway
turned-away run f room order nothing e =
    let less = less-room run f room in
    let offered = jobs-are-offered run f order in
    let core = state_of run f in
    let g = away run f in
    let with : List Connected → List ℕ → ℕ → List Waiting → State = λ cs vs n js. record { sessions = cs; versions = vs; openings = n; last_serial = core.last_serial; last_job = core.last_job; jobs = js } in (
      away-order run f less order nothing e,
      rested run g (away-rests run f less offered e (rests run f nothing)),
      ap (λ cs. with cs (versions_of run g) (openings run g) (state_of run g).jobs) (away-sessions run f less e)
          ∙ ap (λ vs. with core.sessions vs (openings run g) (state_of run g).jobs) (away-versions run f less e)
          ∙ ap (λ n. with core.sessions core.versions n (state_of run g).jobs) (next-number run f room)
          ∙ ap (λ js. with core.sessions core.versions (core.openings + 1) js) (away-waiting run f less offered),
    )
