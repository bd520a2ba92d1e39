-- What a loop did.
use Rattle.std.specs.Prelude.{◌≡◌, ℕ, ◌+◌, ◌-◌, ◌^◌, ◌<◌, ◌≤◌, ◌⊎◌, Bool, false, List, [], ◌∷◌, ◌++◌, length, Option, Some, None, option_map, IfSome}
use Rattle.std.specs.List.{AllByRecursion}
use Rattle.mon_job.specs.Jobs.{Task}
use Rattle.mon_job.specs.Verdicts.{Ruling}
use Rattle.mon_world.specs.declared.event.Kind.{Kind}
use Rattle.mon_world.specs.declared.event.Note.TheVariants.{Verdict}
use Rattle.mon_world.specs.declared.history.Entry.{Entry}
use Rattle.mon_world.specs.declared.history.Entry.TheVariants.{Noted}
use Rattle.mon_world.specs.Crews.{Took}
use Rattle.mon_world.specs.Logs.{inputs, NoStop}
use Rattle.mon_legal.specs.Runs.{Run}
use Rattle.mon_legal.specs.Moments.{begins}
use Rattle.mon_legal.specs.Moments.Moment.{Is}
use Rattle.mon_turns.specs.Core.{State}
use Rattle.mon_turns.specs.Around.{GoesWith}
use Rattle.mon_turns.specs.Answers.{AnswersAreTaken, asked, ends_refused}
use Rattle.mon_turns.specs.Standing.{StandsFor}

-- a fact of the entries of a call, and of the log before it, where the hub tells its log. What stood in the log before is none
-- of the call's
abbrev pub Since : (List Entry → List Entry → Type 0) → Option (List Entry) → Option (List Entry) → Type 0
Since P None now = now ≡ None
Since P (Some h) None = ⊥
Since P (Some h) (Some k) = (g : List Entry) × (k ≡ g ++ h) × P g h

-- how many events came from the first log to the log now
abbrev pub given_since : Option (List Entry) → Option (List Entry) → ℕ
given_since (Some h) (Some k) = length (inputs k) - length (inputs h)
given_since h k = 0

-- so many events at the most as the count of empty answers rose, where that count is not at its last value
abbrev pub AnswersFirst : Option (List Entry) → Option (List Entry) → ℕ → ℕ → Type 0
AnswersFirst h k empties now = now < 2 ^ 64 - 1 → given_since h k ≤ now - empties

-- so many calls failed: there were that many more than events
abbrev pub Failed : ℕ → Option (List (List ℕ)) → Option (List (List ℕ)) → List Entry → List Entry → Type 0
Failed n None after g h = ⊥
Failed n (Some calls) None g h = ⊥
Failed n (Some calls) (Some after) g h = length after ≡ length calls + length (inputs g) + n

-- none of the entries begins a turn
abbrev pub Quiet : List Entry → Type 0
Quiet g = AllByRecursion (λ entry. begins (Is entry) ≡ false) g

-- the entries are those of one turn, which begins with the verdict on the job of this number
pub record Judges (number : ℕ) (g : List Entry) : Type 0 where
  pub kind : Kind
  pub later : List Entry
  pub turn : g ≡ later ++ Noted (Verdict number kind) ∷ []
  pub quiet : Quiet later

-- or there are none, for want of memory
abbrev pub JudgesOrNot : ℕ → List Entry → Type 0
JudgesOrNot number g = (g ≡ []) ⊎ Judges number g

-- a verdict was taken from the crew, and the core goes with what was offered before
pub record WasTaken (run : Run) (core : State) (v : Ruling) (left : List Task) (published : List ℕ) (last : ℕ) (calls : Option (List (List ℕ))) (log : Option (List Entry)) : Type 0 where
  pub tasks : List Task
  pub released : Option ℕ
  pub took : Took v tasks released published left
  pub goes : GoesWith run core tasks published last
  pub stands : IfSome log (StandsFor run core tasks calls)

-- what a call has done so far, of which the entries g are, behind the log h as it began: so many events came, none was Stop,
-- each answer that was asked for was given, one that is still asked for is released, and none was refused
pub record Ran (alone : Bool) (released now : Option ℕ) (count : ℕ) (g h : List Entry) : Type 0 where
  pub no_stop : NoStop (inputs g)
  pub many : length (inputs g) ≡ count
  pub taken : AnswersAreTaken released g h
  pub asks : asked released g h ≡ option_map Some now
  pub unrefused : ends_refused alone g h ≡ false

-- the same of a call that ended, whatever its last turn was
pub record Had (released : Option ℕ) (count : ℕ) (g h : List Entry) : Type 0 where
  pub many : length (inputs g) ≡ count
  pub taken : AnswersAreTaken released g h
