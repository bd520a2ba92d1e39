-- What a tick leads to: probes that are due go out again, and updates are reported as silent.
use Rattle.std.specs.Prelude.{◌≡◌, ℕ, Bool, true, false, ◌==◌, if◌then◌else◌, List, [], ◌∷◌, ◌++◌, Contains, Option, Some, None}
use Rattle.std.specs.List.{AllByRecursion}
use Rattle.mon_report.specs.declared.line.Line.TheVariants.{Fact}
use Rattle.mon_report.specs.declared.line.What.TheVariants.{Silent}
use Rattle.mon_world.specs.declared.event.Event.TheVariants.{Tick}
use Rattle.mon_world.specs.declared.event.Note.TheVariants.{Report}
use Rattle.mon_world.specs.declared.history.Entry.TheVariants.{Given, Noted}
use Rattle.mon_legal.specs.Runs.{Run}
use Rattle.mon_legal.specs.Edits.{unsettled}
use Rattle.mon_legal.specs.Probes.{live, again, silent}
use Rattle.mon_legal.specs.Watching.{watch, watch_again}
use Rattle.mon_legal.specs.Moments.{Moment, begins}
use Rattle.mon_legal.specs.Moments.Moment.{Is, Went}
use Rattle.mon_legal.specs.Sessions.{part, is_open, version, OfEach}
use Rattle.mon_legal.specs.Answers.{Sent, sent}
use Rattle.mon_legal.specs.Lines.{Line}

-- what there was before the tick that began the turn
abbrev pub tick_if : Moment → List Moment → Option (List Moment)
tick_if (Is (Given Tick)) f = Some f
tick_if m f = None

abbrev pub before_tick : List Moment → Option (List Moment)
before_tick [] = None
before_tick (m ∷ f) = if begins m then tick_if m f else before_tick f

-- the serials that went out again in the turn, and the edits of a session that were reported as silent in it
abbrev pub serials_since : List Moment → List ℕ
serials_since [] = []
serials_since (Went s serial near frame lost ∷ f) = serial ∷ serials_since f
serials_since (m ∷ f) = if begins m then [] else serials_since f

abbrev pub silent_since : ℕ → List Moment → List ℕ
silent_since s [] = []
silent_since s (Is (Noted (Report (Fact r k Silent))) ∷ f) = (if r == s then k ∷ [] else []) ++ silent_since s f
silent_since s (m ∷ f) = if begins m then [] else silent_since s f

-- the serials that are due again at a tick of a session: those of its edits, and that of its watch
abbrev pub all_again : Run → List Moment → ℕ → List ℕ
all_again run g s =
    again run (version run s g) (unsettled (part run s g)) (live run (part run s g)) ++ watch_again run (version run s g) (watch run (part run s g))

-- a probe goes out again where it is due at the tick: the same frame to the same switch, once
pub record GoesAgain (run : Run) (f g : List Moment) (s serial near : ℕ) (frame : List ℕ) : Type 0 where
  pub there : is_open (part run s g) ≡ true
  pub due : Contains (all_again run g s) serial
  pub first : Sent
  pub sent_first : sent serial g ≡ Some first
  pub to : near ≡ first.session
  pub same : frame ≡ first.frame
  pub once : Contains (serials_since f) serial → ⊥

-- an edit is reported at the tick that its alarm names
abbrev pub IsSilent : Run → List Moment → List Moment → ℕ → ℕ → Type 0
IsSilent run f g s k = (is_open (part run s g) ≡ true) × Contains (silent run (unsettled (part run s g))) k × (Contains (silent_since s f) k → ⊥)

abbrev pub InTick : Run → List Moment → List Moment → Moment → Type 0
InTick run f g (Went s serial near frame lost) = GoesAgain run f g s serial near frame
InTick run f g (Is (Noted (Report (Fact s k Silent)))) = IsSilent run f g s k
InTick run f g m = Unit {0}

-- outside a tick's turn nothing is reported as silent
abbrev pub is_silent : Moment → Bool
is_silent (Is (Noted (Report (Fact s k Silent)))) = true
is_silent m = false

abbrev pub AtTick : Run → List Moment → Option (List Moment) → Moment → Type 0
AtTick run f (Some g) m = InTick run f g m
AtTick run f None m = is_silent m ≡ false

abbrev pub Ticks : Run → List Moment → Moment → Type 0
Ticks run f m = AtTick run f (before_tick f) m

-- all that was due at the tick came
abbrev pub AllCameSince : Run → List Moment → Option (List Moment) → Type 0
AllCameSince run f None = Unit {0}
AllCameSince run f (Some g) =
    OfEach run g (λ s.
    AllByRecursion (Contains (serials_since f)) (all_again run g s)
    × AllByRecursion (Contains (silent_since s f)) (silent run (unsettled (part run s g))))

abbrev pub AllCame : Run → List Moment → Type 0
AllCame run f = AllCameSince run f (before_tick f)

abbrev pub TicksAreMet : Run → List Moment → Type 0
TicksAreMet run f = Line (Ticks run) (AllCame run) f
