-- The history of a run, as inputs that are the first events of a trace, and notes and outputs among them.
use Rattle.std.specs.Prelude.{ℕ, zero, suc, ◌≡◌, ◌≤◌, ◌+◌, nat_le, if◌then◌else◌, List, [], ◌∷◌, ◌++◌, length, drop, map}
use Rattle.mon_world.specs.declared.history.Entry.{Entry}
use Rattle.mon_world.specs.declared.history.Entry.TheVariants.{Given}
use Rattle.mon_world.specs.Logs.{inputs, opened_in, AllNamed}
use Rattle.mon_trace.specs.Grammar.{Recorded, Traced}
use Rattle.mon_trace.specs.Run.{event_at, events_of, AreGiven, LosesBy, lost_in, losing_before, unanswered, text}
use Rattle.mon_trace.specs.Outputs.{Placed}

-- the inputs from number `from` up to number n, the newest first
abbrev pub given_from : List Recorded → ℕ → ℕ → List Entry
given_from events from zero = []
given_from events from (suc n) = if nat_le from n then Given (event_at events n) ∷ given_from events from n else []

-- the history of n inputs and of entries, each of which came after so many inputs
abbrev pub woven : List Recorded → ℕ → List Placed → List Entry
woven events n [] = given_from events 0 n
woven events n (placed ∷ others) = given_from events placed.after n ++ (placed.entry ∷ woven events placed.after others)

-- no entry came after more inputs than a later one
abbrev pub InOrder : ℕ → List Placed → Type 0
InOrder n [] = Unit {0}
InOrder n (placed ∷ others) = (placed.after ≤ n) × InOrder placed.after others

-- a history of n inputs, which are those of the trace in order, its text, and its counts: the `lose` records before the record
-- that is handled, the outputs that were lost, and the jobs without a verdict
pub record IsRun (t : Traced) (n losing lost jobs : ℕ) (printed : List ℕ) (h : List Entry) : Type 0 where
  pub count : n ≡ length (inputs h)
  pub given : AreGiven t.events (inputs h)
  pub rest : AllNamed (opened_in h) (drop n (events_of t))
  pub text_is : printed ≡ text t h
  pub loses : LosesBy t h
  pub losing_is : losing ≡ losing_before t n
  pub lost_is : lost ≡ lost_in h
  pub jobs_are : jobs ≡ unanswered h
