-- A log that ends in an event is that of a lawful history, and where nothing came the core stands for it.
use Rattle.std.proofs.Common.{◌≡◌, ℕ, ◌+◌, ◌^◌, ◌<◌, Bool, ◌||◌, nat_le, List, [], ◌∷◌, length, Option, refl, sym, ap, subst, ◌∙◌, arith}
use Rattle.std.specs.List.{list_any, range_with_len}
use Rattle.mon_job.specs.Jobs.{Task}
use Rattle.mon_world.specs.declared.event.Event.{Event}
use Rattle.mon_world.specs.declared.event.Event.TheVariants.{Idle}
use Rattle.mon_world.specs.declared.history.Entry.{Entry}
use Rattle.mon_world.specs.declared.history.Entry.TheVariants.{Given}
use Rattle.mon_legal.specs.Runs.{Run}
use Rattle.mon_legal.specs.Moments.{Moment, shown}
use Rattle.mon_legal.specs.Moments.Moment.{Is}
use Rattle.mon_legal.specs.Sessions.{opened, slot_version, slot_of}
use Rattle.mon_legal.specs.Jobs.{last_serial, last_job}
use Rattle.mon_legal.specs.Legal.{gated}
use Rattle.mon_turns.specs.Core.{State, SLOTS}
use Rattle.mon_turns.specs.Around.{IsPresent}
use Rattle.mon_turns.specs.Gates.{AreGates, GatesWere}
use Rattle.mon_turns.specs.Standing.{WasGiven, is_over}
use Rattle.mon_turns.specs.Laws.{GivenStand, NothingStands}
use Rattle.mon_turns.proofs.Born.{all-weaker}
use Rattle.mon_turns.proofs.Events.{events-are-lawful}
use Rattle.mon_turns.proofs.Wholes.{whole-turns}
use Rattle.mon_turns.proofs.Idle.{idle-stands, version-idle, version-of-idle}

-- the call that gave the event was made with the gates of its moment
given-gates : (run : Run) (f : List Moment) (event : Event) (call : List ℕ) (earlier : List (List ℕ)) → call ≡ gated run f → AreGates run f earlier
    → AreGates run (Is (Given event) ∷ f) (call ∷ earlier)
given-gates run f event call earlier e old = record {
  failed = 0;
  rest = call ∷ earlier;
  newest = refl;
  ended = λ lt. absurd (let none : 0 < 0 = lt in omega arith);
  before = (
    old.failed,
    old.rest,
    ap (λ (c : List ℕ). c ∷ earlier) e ∙ ap (λ (cs : List (List ℕ)). gated run f ∷ cs) old.newest,
    old.before,
  );
}

were-given : (run : Run) (event : Event) (core : State) (tasks : List Task) (calls : Option (List (List ℕ))) (h : List Entry) (g : WasGiven run event core tasks calls h)
    → GatesWere run (Is (Given event) ∷ g.stands.moments) calls
were-given run event core tasks calls h g =
    subst (GatesWere run (Is (Given event) ∷ g.stands.moments)) (sym g.told) (given-gates run g.stands.moments event g.call g.earlier g.open_gates g.stands.gates)

given-shows : (run : Run) (event : Event) (core : State) (tasks : List Task) (calls : Option (List (List ℕ))) (h : List Entry) (g : WasGiven run event core tasks calls h)
    → Given event ∷ shown g.stands.moments ≡ h
given-shows run event core tasks calls h g = ap (λ (k : List Entry). Given event ∷ k) g.stands.shows ∙ sym g.last

pub given-stand : GivenStand
given-stand run event core tasks calls h g = record {
  moments = Is (Given event) ∷ g.stands.moments;
  shows = given-shows run event core tasks calls h g;
  lawful = events-are-lawful run g.stands.moments event g.stands.lawful g.stands.whole;
  gates = were-given run event core tasks calls h g;
}

-- nothing came ------------------------------------------------------------------------------------

any-same : (p q : ℕ → Bool) (xs : List ℕ) → ((x : ℕ) → p x ≡ q x) → list_any p xs ≡ list_any q xs
any-same p q [] k = refl
any-same p q (x ∷ xs) k = ap (λ (b : Bool). b || list_any p xs) (k x) ∙ ap (λ (b : Bool). q x || b) (any-same p q xs k)

over-idle : (run : Run) (f : List Moment) → is_over run (Is (Given Idle) ∷ f) ≡ is_over run f
over-idle run f =
    ap (λ (b : Bool). nat_le (2 ^ 64) (run.openings + length (opened run f)) || (nat_le (2 ^ 64) (last_serial run f) || (nat_le (2 ^ 64) (last_job run f) || b)))
    (any-same (λ slot. nat_le (2 ^ 64) (slot_version run slot (Is (Given Idle) ∷ f))) (λ slot. nat_le (2 ^ 64) (slot_version run slot f)) (range_with_len 0 SLOTS)
    (λ slot. ap (nat_le (2 ^ 64)) (version-idle run f slot)))

present-idle : (run : Run) (f : List Moment) (task : Task) → IsPresent run f task → IsPresent run (Is (Given Idle) ∷ f) task
present-idle run f task old e =
    let asks = old (e ∙ version-of-idle run f (slot_of run task.session f)) in
    record { target = asks.target; table = asks.table; view = asks.view }

pub nothing-stands : NothingStands
nothing-stands run core tasks calls h g =
    let f = g.stands.moments in
    let idle = idle-stands run f g.stands.lawful.frames g.stands.whole.frames in
    let lawful = events-are-lawful run f Idle g.stands.lawful g.stands.whole in
    record {
      moments = Is (Given Idle) ∷ f;
      shows = given-shows run Idle core tasks calls h g;
      lawful = lawful;
      whole = whole-turns run (Is (Given Idle) ∷ f) lawful.frames lawful.probes idle.1 tt tt;
      numbered = over-idle run f ∙ g.stands.numbered;
      state = g.stands.state ∙ sym idle.2;
      present = all-weaker (IsPresent run f) (IsPresent run (Is (Given Idle) ∷ f)) tasks (present-idle run f) g.stands.present;
      gates = were-given run Idle core tasks calls h g;
    }
