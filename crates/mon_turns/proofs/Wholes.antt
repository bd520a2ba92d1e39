-- Where a turn has ended, because nothing comes next.
use Rattle.std.proofs.Common.{◌≡◌, ℕ, Bool, true, false, cond, not, ◌&&◌, List, [], ◌∷◌, Option, Some, None, option_map, refl, sym, ap, subst}
use Rattle.std.specs.Prelude.{◌==◌, ◌||◌, nat_lt, filter}
use Rattle.std.proofs.lemmas.Bool.{false≢true}
use Rattle.mon_table.specs.declared.rule.Rule.{Rule}
use Rattle.mon_shows.specs.Views.{Viewing}
use Rattle.mon_barriers.specs.declared.barriers.Reply.{Reply as Kept}
use Rattle.mon_world.specs.declared.event.Event.TheVariants.{Idle}
use Rattle.mon_world.specs.declared.history.Entry.TheVariants.{Given}
use Rattle.mon_legal.specs.Runs.{Run}
use Rattle.mon_legal.specs.Owns.{Own, Act}
use Rattle.mon_legal.specs.Owns.Own.{From_switch, Acts}
use Rattle.mon_legal.specs.Owns.Act.{Closing, Step}
use Rattle.mon_legal.specs.Barriers.{kept, is_armed, is_arming, answered_by}
use Rattle.mon_legal.specs.Datapaths.{catching}
use Rattle.mon_legal.specs.Edits.{Passed, expected, unsettled, rejected_by}
use Rattle.mon_legal.specs.Held.{Part, Postponed, act_due, due_closing, due_reply, due_step, or_else, waiting, under_way, postponed, without_closing}
use Rattle.mon_legal.specs.Probes.{wanting, or_own}
use Rattle.mon_legal.specs.Watching.{watch_wanted}
use Rattle.mon_legal.specs.Moments.{Moment, cause}
use Rattle.mon_legal.specs.Moments.Moment.{Is}
use Rattle.mon_legal.specs.Sessions.{part, is_open, opened, has_lost, view, is_tick, OfEach}
use Rattle.mon_legal.specs.Ordering.{Next, next, want_of, lost_of, jobs_in_slot}
use Rattle.mon_legal.specs.Ordering.Next.{Nothing}
use Rattle.mon_legal.specs.Passing.{FramesGoInOrder, Comes}
use Rattle.mon_legal.specs.Probing.{ProbesSeparate}
use Rattle.mon_legal.specs.Unmonitorable.{ClosingsCame}
use Rattle.mon_legal.specs.Lasting.{AllLast}
use Rattle.mon_legal.proofs.Coming.{none-due, kept-where}
use Rattle.mon_legal.proofs.Fitting.{AllFit, all-fit}
use Rattle.mon_legal.proofs.Waiting.{replies-wait}
use Rattle.mon_legal.proofs.Offered.{jobs-are-offered}
use Rattle.mon_legal.proofs.Carrying.{frames-went-on}
use Rattle.mon_legal.proofs.Slots.{few-open}
use Rattle.mon_turns.specs.Laws.{WholeTurns}
use Rattle.mon_turns.proofs.Quiet.{rests}

-- closings ------------------------------------------------------------------------

-- a session that is not armed took no step
or-false : (a b : Bool) → a || b ≡ false → a ≡ false
or-false true b e = absurd (false≢true (sym e))
or-false false b e = refl

acts-armed : {A : Type 0} (b : Bool) (v : Viewing) (t : List Rule) (edits : List Passed) (closings : List Postponed) (replies : List Kept) (waits : List (List ℕ)) (parts : List Part) (act : Act)
    → act_due b v t edits closings replies waits parts ≡ Some act → b ≡ false → A
acts-armed true v t edits closings replies waits parts act e n = absurd (false≢true (sym n))
acts-armed false v t edits closings replies waits parts act e n = absurd (let g : None ≡ Some act = e in cc)

unarmed-act : {A : Type 0} (run : Run) (s : ℕ) (act : Act) (before : List Own) → AllFit run s (Acts act ∷ before) → is_armed before ≡ false → A
unarmed-act run s act before fit n =
    acts-armed (is_armed before) fit.0.0 (expected (catching run before) before) (unsettled before) (postponed before) (kept before) (waiting before) (under_way run before) act fit.0.1 n

without-none : (o : Option ℕ) (closings : List Postponed) → closings ≡ [] → without_closing o closings ≡ []
without-none None closings e = e
without-none (Some k) closings e = ap (filter (λ p. not (p.edit == k))) e

none-postponed : (run : Run) (s : ℕ) (seen : List Own) → AllFit run s seen → is_armed seen ≡ false → postponed seen ≡ []
none-postponed run s [] fit n = refl
none-postponed run s (From_switch frame others ∷ before) fit n =
    without-none (rejected_by frame (unsettled before)) (postponed before) (none-postponed run s before fit.1 (or-false (is_armed before) (is_arming (answered_by before frame)) n))
none-postponed run s (Acts (Step to frame change) ∷ before) fit n = unarmed-act run s (Step to frame change) before fit n
none-postponed run s (Acts (Closing k close) ∷ before) fit n = unarmed-act run s (Closing k close) before fit n
none-postponed run s (o ∷ before) fit n = none-postponed run s before fit.1 n

first-none : (a b : Option Act) → or_else a b ≡ None → a ≡ None
first-none (Some x) b e = absurd (let g : Some x ≡ None = e in cc)
first-none None b e = refl

no-closing : (b : Bool) (v : Viewing) (t : List Rule) (edits : List Passed) (closings : List Postponed) (replies : List Kept) (waits : List (List ℕ)) (parts : List Part)
    → act_due b v t edits closings replies waits parts ≡ None → (b ≡ false → closings ≡ []) → due_closing edits closings ≡ None
no-closing true v t edits closings replies waits parts e k = first-none (due_closing edits closings) (or_else (due_reply edits replies) (due_step v t edits waits parts)) e
no-closing false v t edits closings replies waits parts e k = ap (due_closing edits) (k refl)

pub closings-came : (run : Run) (f : List Moment) → FramesGoInOrder run f → ProbesSeparate run f → next run f ≡ Nothing → ClosingsCame run f
closings-came run f order probes e =
    none-due run f (λ s. due_closing (unsettled (part run s f)) (postponed (part run s f)) ≡ None) e
    (λ s n. let own = part run s f in
    no-closing (is_armed own) (view run s f) (expected (catching run own) own) (unsettled own) (postponed own) (kept own) (waiting own) (under_way run own) n
    (none-postponed run s own (all-fit run f order probes s)))

-- losses and watches -----------------------------------------------------------------

abbrev lost_if : Bool → Option (Unit {0})
lost_if b = cond b (Some tt) None

abbrev is_lost : Option (Unit {0}) → Bool
is_lost None = false
is_lost (Some u) = true

not-lost : (b : Bool) → lost_if b ≡ None → b ≡ false
not-lost true e = ap is_lost e
not-lost false e = refl

pub all-last : (run : Run) (f : List Moment) → next run f ≡ Nothing → AllLast run f
all-last run f e = record {
  losses = kept-where (λ s. lost_of run f s ≡ None) (λ s. has_lost (part run s f) ≡ false) (λ s. is_open (part run s f)) (opened run f)
      (λ s y n. not-lost (has_lost (part run s f)) n) (rests run f e).losses;
  few = few-open run f;
}

no-watch : (b c : Bool) (x : Option ℕ) (w : Option Rule) → cond (b && c) (or_own x (option_map (λ r. 0) w)) None ≡ None → b ≡ true → c ≡ true → w ≡ None
no-watch true true None None e y z = refl
no-watch true true None (Some r) e y z = absurd (let g : Some 0 ≡ None = e in cc)
no-watch true true (Some k) w e y z = absurd (let g : Some k ≡ None = e in cc)
no-watch true false x w e y z = absurd (false≢true z)
no-watch false c x w e y z = absurd (false≢true y)

no-watches : (run : Run) (f : List Moment) → next run f ≡ Nothing
    → OfEach run f (λ s. nat_lt (jobs_in_slot run s f) 16 ≡ true → watch_wanted run (is_tick (cause f)) (part run s f) ≡ None)
no-watches run f e =
    kept-where (λ s. want_of run f s ≡ None) (λ s. nat_lt (jobs_in_slot run s f) 16 ≡ true → watch_wanted run (is_tick (cause f)) (part run s f) ≡ None)
    (λ s. is_open (part run s f)) (opened run f)
    (λ s y n room. no-watch (is_open (part run s f)) (nat_lt (jobs_in_slot run s f) 16) (wanting run (part run s f)) (watch_wanted run (is_tick (cause f)) (part run s f)) n y room)
    (rests run f e).wants

-- the whole ----------------------------------------------------------------------------

pub whole-turns : WholeTurns
whole-turns run f order probes nothing came missing =
    let later : FramesGoInOrder run (Is (Given Idle) ∷ f) = (nothing, subst (λ (n : Next). Comes run f n (Is (Given Idle))) (sym nothing) refl, order) in
    record {
      closings = closings-came run f order probes nothing;
      frames = nothing;
      replies = (replies-wait run (Is (Given Idle) ∷ f) later).0;
      offers = (jobs-are-offered run (Is (Given Idle) ∷ f) later).0;
      ticks = came;
      sessions = all-last run f nothing;
      watches = record { offers = no-watches run f nothing; missing = missing };
      sides = frames-went-on run f order probes nothing;
    }
