-- Where nothing came the turn ends at once.
use Rattle.std.proofs.Common.{◌≡◌, ℕ, ◌+◌, cond, List, [], ◌∷◌, map, Option, Some, None, option_map, refl, sym, ap, subst, ◌∙◌}
use Rattle.std.specs.Prelude.{◌==◌, ◌&&◌, nat_lt}
use Rattle.std.specs.List.{range_with_len}
use Rattle.mon_world.specs.declared.event.Event.{Event}
use Rattle.mon_world.specs.declared.event.Event.TheVariants.{Idle}
use Rattle.mon_world.specs.declared.history.Entry.TheVariants.{Given}
use Rattle.mon_legal.specs.Runs.{Run}
use Rattle.mon_legal.specs.Probes.{wanting}
use Rattle.mon_legal.specs.Watching.{watch_wanted}
use Rattle.mon_legal.specs.Moments.{Moment, cause}
use Rattle.mon_legal.specs.Moments.Moment.{Is}
use Rattle.mon_world.specs.declared.event.Side.{Side}
use Rattle.mon_legal.specs.Jobs.{unanswered}
use Rattle.mon_legal.specs.Sessions.{Placed, part, parts_of, opened, open_ones, is_open, is_tick, slot_of, slot_version, version_or, changes, sum_changes, placements}
use Rattle.mon_legal.specs.Ordering.{Next, next, want_of, jobs_in_slot, stream}
use Rattle.mon_legal.specs.Ordering.Next.{Nothing}
use Rattle.mon_legal.specs.Passing.{Comes}
use Rattle.mon_turns.specs.Laws.{IdleStands}
use Rattle.mon_turns.specs.Core.{Connected, Waiting, State, connected_at, waiting_at, versions_of, state_of}
use Rattle.mon_turns.proofs.Born.{all-weaker}
use Rattle.mon_turns.proofs.Opened.{all-units, filter-same, map-same, made}
use Rattle.mon_turns.proofs.Quiet.{NoneOf, Rests, rests, rested, want-less}

none-wants : (run : Run) (f : List Moment) (s : ℕ) → want_of run f s ≡ None → want_of run (Is (Given Idle) ∷ f) s ≡ None
none-wants run f s e =
    want-less (is_open (part run s f) && nat_lt (jobs_in_slot run s f) 16) (wanting run (part run s f))
    (option_map (λ r. 0) (watch_wanted run (is_tick (cause f)) (part run s f))) e

all-want : (run : Run) (f : List Moment) → NoneOf (want_of run f) (opened run f) → NoneOf (want_of run (Is (Given Idle) ∷ f)) (opened run f)
all-want run f all = all-weaker (λ s. want_of run f s ≡ None) (λ s. want_of run (Is (Given Idle) ∷ f) s ≡ None) (opened run f) (none-wants run f) all

still-rests : (run : Run) (f : List Moment) → Rests run f → Rests run (Is (Given Idle) ∷ f)
still-rests run f r = record { dues = r.dues; acts = r.acts; losses = r.losses; piece = refl; wants = all-want run f r.wants }

begun : (run : Run) (f : List Moment) (event : Event) → next run f ≡ Nothing → Comes run f (next run f) (Is (Given event))
begun run f event nothing = subst (λ (n : Next). Comes run f n (Is (Given event))) (sym nothing) refl

part-idle : (run : Run) (f : List Moment) (s : ℕ) → part run s (Is (Given Idle) ∷ f) ≡ part run s f
part-idle run f s = refl

slot-idle : (run : Run) (f : List Moment) (s : ℕ) → slot_of run s (Is (Given Idle) ∷ f) ≡ slot_of run s f
slot-idle run f s = refl

stream-idle : (run : Run) (f : List Moment) (s : ℕ) (side : Side) → stream run s side (Is (Given Idle) ∷ f) ≡ stream run s side f
stream-idle run f s side = refl

placed-idle : (run : Run) (f : List Moment) → placements run (Is (Given Idle) ∷ f) ≡ placements run f
placed-idle run f = refl

opened-idle : (run : Run) (f : List Moment) → opened run (Is (Given Idle) ∷ f) ≡ opened run f
opened-idle run f = refl

sum-idle : (run : Run) (f : List Moment) (slot : ℕ) (placed : List Placed) → sum_changes (parts_of run (Is (Given Idle) ∷ f)) slot placed ≡ sum_changes (parts_of run f) slot placed
sum-idle run f slot [] = refl
sum-idle run f slot (p ∷ placed) = ap (λ (n : ℕ). cond (p.slot == slot) (changes (part run p.session f)) 0 + n) (sum-idle run f slot placed)

pub version-idle : (run : Run) (f : List Moment) (slot : ℕ) → slot_version run slot (Is (Given Idle) ∷ f) ≡ slot_version run slot f
version-idle run f slot = sum-idle run f slot (placements run f)

versions-idle : (run : Run) (f : List Moment) → versions_of run (Is (Given Idle) ∷ f) ≡ versions_of run f
versions-idle run f =
    map-same (λ slot. slot_version run slot (Is (Given Idle) ∷ f)) (λ slot. slot_version run slot f) (range_with_len 0 64)
    (all-units (λ slot. slot_version run slot (Is (Given Idle) ∷ f) ≡ slot_version run slot f) (range_with_len 0 64) (version-idle run f))

pub version-of-idle : (run : Run) (f : List Moment) (o : Option ℕ) → version_or run (parts_of run (Is (Given Idle) ∷ f)) o (Is (Given Idle) ∷ f) ≡ version_or run (parts_of run f) o f
version-of-idle run f None = refl
version-of-idle run f (Some slot) = version-idle run f slot

session-idle : (run : Run) (f : List Moment) (s : ℕ) → connected_at run (Is (Given Idle) ∷ f) s ≡ connected_at run f s
session-idle run f s = ap (λ (v : ℕ). made run f s (slot_of run s f) (part run s f) v) (version-of-idle run f (slot_of run s f))

open-idle : (run : Run) (f : List Moment) → open_ones run (Is (Given Idle) ∷ f) ≡ open_ones run f
open-idle run f = filter-same (λ s. is_open (part run s (Is (Given Idle) ∷ f))) (λ s. is_open (part run s f)) (opened run f)
    (all-units (λ s. is_open (part run s (Is (Given Idle) ∷ f)) ≡ is_open (part run s f)) (opened run f) (λ s. refl))

sessions-idle : (run : Run) (f : List Moment) → (state_of run (Is (Given Idle) ∷ f)).sessions ≡ (state_of run f).sessions
sessions-idle run f =
    ap (map (connected_at run (Is (Given Idle) ∷ f))) (open-idle run f)
    ∙ map-same (connected_at run (Is (Given Idle) ∷ f)) (connected_at run f) (open_ones run f)
    (all-units (λ s. connected_at run (Is (Given Idle) ∷ f) s ≡ connected_at run f s) (open_ones run f) (session-idle run f))

jobs-idle : (run : Run) (f : List Moment) → (state_of run (Is (Given Idle) ∷ f)).jobs ≡ (state_of run f).jobs
jobs-idle run f =
    map-same (waiting_at run (Is (Given Idle) ∷ f)) (waiting_at run f) (unanswered f)
    (all-units (λ j. waiting_at run (Is (Given Idle) ∷ f) j ≡ waiting_at run f j) (unanswered f) (λ j. refl))

state-idle : (run : Run) (f : List Moment) → state_of run (Is (Given Idle) ∷ f) ≡ state_of run f
state-idle run f =
    let core = state_of run f in
    let g = Is (Given Idle) ∷ f in
    let with : List Connected → List ℕ → List Waiting → State = λ cs vs js. record { sessions = cs; versions = vs; openings = core.openings; last_serial = core.last_serial; last_job = core.last_job; jobs = js } in
    ap (λ cs. with cs (versions_of run g) (state_of run g).jobs) (sessions-idle run f)
    ∙ ap (λ vs. with core.sessions vs (state_of run g).jobs) (versions-idle run f)
    ∙ ap (λ js. with core.sessions core.versions js) (jobs-idle run f)

pub idle-stands : IdleStands
idle-stands run f order nothing =
    ((nothing, begun run f Idle nothing, order), rested run (Is (Given Idle) ∷ f) (still-rests run f (rests run f nothing)), state-idle run f)
