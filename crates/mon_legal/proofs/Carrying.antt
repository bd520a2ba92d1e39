-- All frames of a side go on, because what comes is what is due.
use Rattle.std.proofs.Common.{◌≡◌, ℕ, Bool, true, false, cond, List, [], ◌∷◌, ◌++◌, refl, sym, subst, ◌∙◌}
use Rattle.std.specs.List.{AllByRecursion}
use Rattle.std.specs.Prelude.{filter}
use Rattle.std.proofs.lemmas.List.{append-nil}
use Rattle.mon_world.specs.declared.event.Side.{Side}
use Rattle.mon_world.specs.declared.event.Side.TheVariants.{Controller, Switch}
use Rattle.mon_legal.specs.Runs.{Run}
use Rattle.mon_legal.specs.Moments.{Moment}
use Rattle.mon_legal.specs.Sessions.{part, opened, is_open}
use Rattle.mon_legal.specs.Directly.{Due, owed}
use Rattle.mon_legal.specs.Ordering.{next}
use Rattle.mon_legal.specs.Ordering.Next.{Nothing}
use Rattle.mon_legal.specs.Passing.{FramesGoInOrder}
use Rattle.mon_legal.specs.Probing.{ProbesSeparate}
use Rattle.mon_legal.specs.Sides.{sent, for_controller, for_switch, frames_due, FramesWentOn, AllFramesGoOn, AllFramesWentOn}
use Rattle.mon_legal.proofs.Fitting.{all-fit, nothing-due}
use Rattle.mon_legal.proofs.Going.{to-controller, to-switch, replies-kept, all-planned, all-let-out}
use Rattle.mon_legal.proofs.Handled.{in-line, all-handled}

pub frames-go-on : (run : Run) (f : List Moment) → FramesGoInOrder run f → ProbesSeparate run f → AllFramesGoOn run f
frames-go-on run f order probes s =
    let seen = part run s f in
    let fit = all-fit run f order probes s in
    record {
      controller = (in-line run s Controller f order).front;
      switch = (in-line run s Switch f order).front;
      to_controller = (frames_due Controller (owed run s seen), to-controller run s seen fit);
      to_switch = (frames_due Switch (owed run s seen), to-switch run s seen fit);
      replies_kept = replies-kept run s seen fit;
      all_planned = all-planned run s seen fit;
      all_let_out = all-let-out run s seen fit;
    }

all-out : (to : Side) (gone all : List (List ℕ)) (dues : List Due) → dues ≡ [] → gone ++ frames_due to dues ≡ all → gone ≡ all
all-out to gone all dues e g = sym (append-nil gone) ∙ subst (λ (ds : List Due). gone ++ frames_due to ds ≡ all) e g

went-on : (run : Run) (f : List Moment) → FramesGoInOrder run f → ProbesSeparate run f → next run f ≡ Nothing → (s : ℕ) → is_open (part run s f) ≡ true → FramesWentOn run s f
went-on run f order probes nothing s there =
    let seen = part run s f in
    let fit = all-fit run f order probes s in
    let none = nothing-due run f s nothing in
    record {
      controller = all-handled run s Controller f order nothing there;
      switch = all-handled run s Switch f order nothing there;
      to_controller = all-out Controller (sent Controller seen) (for_controller run seen) (owed run s seen) none (to-controller run s seen fit);
      to_switch = all-out Switch (sent Switch seen) (for_switch run s seen) (owed run s seen) none (to-switch run s seen fit);
    }

where-open : (P : ℕ → Type 0) (test : ℕ → Bool) (ss : List ℕ) → ((s : ℕ) → test s ≡ true → P s) → AllByRecursion P (filter test ss)
where-open P test [] k = tt
where-open P test (s ∷ ss) k =
    elim (test s) as (λ b. test s ≡ b → AllByRecursion P (cond b (s ∷ filter test ss) (filter test ss))) [
      | true ↦ λ y. (k s y, where-open P test ss k)
      | false ↦ λ n. where-open P test ss k
    ] refl

pub frames-went-on : (run : Run) (f : List Moment) → FramesGoInOrder run f → ProbesSeparate run f → next run f ≡ Nothing → AllFramesWentOn run f
frames-went-on run f order probes nothing = where-open (λ s. FramesWentOn run s f) (λ s. is_open (part run s f)) (opened run f) (went-on run f order probes nothing)
