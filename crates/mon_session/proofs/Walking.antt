-- Walks behind one another.
use Rattle.std.specs.Prelude.{◌≡◌, ℕ, Bool, true, ◌||◌, None, List, [], ◌∷◌, ◌++◌, Result, Ok, Err, OnOk, refl, false}
use Rattle.std.proofs.Common.{ap, sym, ◌∙◌}
use Rattle.std.proofs.lemmas.List.{append_assoc}
use Rattle.std.proofs.lemmas.Bool.{eq-eqb}
use Rattle.mon_world.specs.declared.event.Side.{Side}
use Rattle.mon_world.specs.declared.event.Side.TheVariants.{Switch}
use Rattle.mon_world.specs.declared.event.Out.TheVariants.{Send}
use Rattle.mon_session.specs.declared.step.Step.TheVariants as step_out
use Rattle.mon_legal.specs.Runs.{Run}
use Rattle.mon_legal.specs.Owns.{Own}
use Rattle.mon_legal.specs.Owns.Own.{Sends}
use Rattle.mon_legal.specs.Messages.{own_barrier}
use Rattle.mon_legal.specs.Directly.{frames_to}
use Rattle.mon_session.specs.declared.step.Step.{Step}
use Rattle.mon_session.specs.Now.{Now, step, walked}
use Rattle.mon_session.specs.Walks.{Known, walks, takes, steps_for, steps_of}
use Rattle.mon_session.specs.Dues.{met}
use Rattle.mon_session.specs.Entries.{with_now, forgotten, asks}

pub walked_on : (run : Run) (n : Now) (xs ys : List Own) → walked run n (xs ++ ys) ≡ walked run (walked run n xs) ys
walked_on run n [] ys = refl
walked_on run n (x ∷ xs) ys = walked_on run (step run n x) xs ys

pub walks_on : (run : Run) (k : Known) (xs ys : List Own) → walks run k (xs ++ ys) ≡ walks run (walks run k xs) ys
walks_on run k xs ys = ap (λ (n : Now). record k { now = n }) (walked_on run k.now xs ys)

pub steps_on : (s : ℕ) (xs ys : List Own) → steps_of s (xs ++ ys) ≡ steps_of s xs ++ steps_of s ys
steps_on s [] ys = refl
steps_on s (x ∷ xs) ys = ap (λ (os : List Step). steps_for s x ++ os) (steps_on s xs ys) ∙ sym (append_assoc (steps_for s x) (steps_of s xs) (steps_of s ys))

-- frames to a side, one more at the front
pub sends_more : (run : Run) (k : Known) (to : Side) (frame : List ℕ) (frames : List (List ℕ))
    → walks run k (met (frames_to to (frame ∷ frames))) ≡ walks run (takes run k (Sends to frame false)) (met (frames_to to frames))
sends_more run k to frame frames = refl

pub steps_more : (s : ℕ) (to : Side) (frame : List ℕ) (frames : List (List ℕ))
    → steps_of s (met (frames_to to (frame ∷ frames))) ≡ steps_for s (Sends to frame false) ++ steps_of s (met (frames_to to frames))
steps_more s to frame frames = refl

-- what holds, holds where a call succeeds
pub ok_if : {A E P : Type 0} (r : Result A E) → P → OnOk r P
ok_if (Ok x) p = p
ok_if (Err e) p = tt

-- a run, where any serves
pub some_run : Run
some_run = record { key = 0; topology = record { switches = []; links = [] }; given = []; in_use = []; retry_ticks = 0; alarm_ticks = 0; watch_ticks = 0; openings = 0; last_serial = 0; last_job = 0 }

-- one frame more went out
pub sent_outs : (s r : ℕ) (frame : List ℕ) (items rest : List (List ℕ)) (mid after all : List Step) → r ≡ s → items ≡ frame ∷ rest
    → after ≡ mid ++ step_out.Out (Send s Switch frame) ∷ [] → mid ++ steps_of s (met (frames_to Switch items)) ≡ all
    → after ++ steps_of r (met (frames_to Switch rest)) ≡ all
sent_outs s r frame items rest mid after all e i a w =
    ap (λ (x : ℕ). after ++ steps_of x (met (frames_to Switch rest))) e
    ∙ (ap (λ (xs : List Step). xs ++ steps_of s (met (frames_to Switch rest))) a
    ∙ (append_assoc mid (step_out.Out (Send s Switch frame) ∷ []) (steps_of s (met (frames_to Switch rest)))
    ∙ (ap (λ (fs : List (List ℕ)). mid ++ steps_of s (met (frames_to Switch fs))) (sym i) ∙ w)))

-- a barrier of the proxy's own
or-true : (b : Bool) → (b || true) ≡ true
or-true true = refl
or-true false = refl

pub barrier_takes : (run : Run) (k : Known) → k.now.out ≡ None → takes run k (Sends Switch own_barrier false) ≡ with_now k (forgotten (asks k.now))
barrier_takes run k none = rw none (rw (or-true k.now.asked) (rw (eq-eqb k.now.miss k.now.miss refl) refl))
