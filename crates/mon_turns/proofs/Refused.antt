-- Calls that did what they may not, and what they would have to show.
use Rattle.std.proofs.Common.{◌≡◌, ℕ, zero, suc, ◌+◌, ◌≤◌, Bool, true, false, not, cond, nat_le, List, [], ◌∷◌, ◌++◌, length, sum_by, replicate, Option, Some, None, IfSome, map, ap, sym, refl, subst, ◌∙◌, arith}
use Rattle.std.specs.List.{cons_option}
use Rattle.std.proofs.lemmas.Bool.{false≢true}
use Rattle.std.proofs.lemmas.Bool.Decides.{leb_tells}
use Rattle.of_frame.specs.Cut as Cutting
use Rattle.mon_job.specs.Jobs.{Task}
use Rattle.mon_world.specs.declared.event.Side.TheVariants.{Controller}
use Rattle.mon_world.specs.declared.event.Event.TheVariants.{Opened, Piece, Answer, Tick, Idle, Stop}
use Rattle.mon_world.specs.declared.event.Note.TheVariants.{Offer}
use Rattle.mon_world.specs.declared.history.Entry.{Entry}
use Rattle.mon_world.specs.declared.history.Entry.TheVariants.{Given, Noted}
use Rattle.mon_world.specs.Logs.{inputs, StopsNow}
use Rattle.mon_legal.specs.Story.{run, features_wanted}
use Rattle.mon_legal.specs.Moments.{Moment, shown, begins}
use Rattle.mon_legal.specs.Moments.Moment.{Is, Went, Came, Broke, Did}
use Rattle.mon_legal.specs.Messages.{is_light}
use Rattle.mon_legal.specs.Jobs.{Job}
use Rattle.mon_legal.specs.Changing.{with_if}
use Rattle.mon_legal.specs.Ordering.{Next, next}
use Rattle.mon_legal.specs.Ordering.Next.{Nothing}
use Rattle.mon_legal.specs.Passing.{FramesGoInOrder}
use Rattle.mon_legal.specs.Legal.{AreLawful, gated}
use Rattle.mon_turns.specs.Core.{Waiting}
use Rattle.mon_turns.specs.Around.{offered_as}
use Rattle.mon_turns.specs.Gates.{AreGates}
use Rattle.mon_turns.specs.Standing.{NeedsANumber, is_over}
use Rattle.mon_turns.specs.Answers.{AnswersAreTaken}
use Rattle.mon_turns.specs.Loops.{Since}

-- answers ---------------------------------------------------------------------

-- an answer of no job, and the run goes on
goes_on : AnswersAreTaken None (Given Stop ∷ Given (Answer 0) ∷ []) [] → ⊥
goes_on taken = taken.0

-- an answer of a job, and an event comes before its verdict
waits : AnswersAreTaken None (Given Tick ∷ Given (Answer 0) ∷ Noted (Offer 1 0 1 4) ∷ []) [] → ⊥
waits taken = taken.0

-- a call that begins with a released job gives no verdict
forgets : AnswersAreTaken (Some 1) (Given Tick ∷ []) (Noted (Offer 1 0 1 4) ∷ []) → ⊥
forgets taken = taken.0

-- a job is offered in slot 0, and its session has slot 1
abbrev first_slot : List Waiting → ℕ
first_slot [] = 0
first_slot (w ∷ ws) = w.slot

wrong_slot : (task : Task) (job : Job) → task.slot ≡ 0 → map offered_as (task ∷ []) ≡ record { job = job; slot = 1 } ∷ [] → ⊥
wrong_slot task job zeroth same = let e : task.slot ≡ 1 = ap first_slot same in cc

-- ends ------------------------------------------------------------------------

-- a call ends as Stopped, and the Stop is one of an earlier call
abbrev newest : List Entry → Entry
newest [] = Given Stop
newest (entry ∷ h) = entry

stopped_before : (g : List Entry) → Given Tick ∷ Given Stop ∷ [] ≡ g ++ Given Stop ∷ [] → StopsNow (inputs g) → ⊥
stopped_before [] same stops = stops
stopped_before (entry ∷ g) same stops =
    (subst (λ (e : Entry). StopsNow (inputs (e ∷ g))) (sym (ap newest same)) stops).0

stops_again : Since (λ g h. StopsNow (inputs g)) (Some (Given Stop ∷ [])) (Some (Given Tick ∷ Given Stop ∷ [])) → ⊥
stops_again since = stopped_before since.0 since.1 since.2

-- numbers ---------------------------------------------------------------------

-- a history that shows nothing has no moment
shows-something : (m : Moment) (f : List Moment) → begins m ≡ true → shown (m ∷ f) ≡ [] → ⊥
shows-something (Is entry) f b e = let s : entry ∷ shown f ≡ [] = e in cc
shows-something (Went s serial near frame lost) f b e = false≢true b
shows-something (Came s side frame) f b e = false≢true b
shows-something (Broke s side fault) f b e = false≢true b
shows-something (Did s act) f b e = false≢true b

shows-less : (m : Moment) (f : List Moment) → shown (m ∷ f) ≡ [] → shown f ≡ []
shows-less (Is entry) f e = absurd (let s : entry ∷ shown f ≡ [] = e in cc)
shows-less (Went s serial near frame lost) f e = absurd (let s : _ ∷ shown f ≡ [] = e in cc)
shows-less (Came s side frame) f e = e
shows-less (Broke s side fault) f e = e
shows-less (Did s act) f e = e

begins-first : (m : Moment) (f : List Moment) → f ≡ [] → FramesGoInOrder run (m ∷ f) → begins m ≡ true
unfolding next
begins-first m [] e order = order.1
begins-first m (n ∷ f) e order = absurd (let q : n ∷ f ≡ [] = e in cc)

no-moment : (f : List Moment) → FramesGoInOrder run f → shown f ≡ [] → f ≡ []
no-moment [] order e = refl
no-moment (m ∷ f) order e =
    let none = no-moment f order.2 (shows-less m f e) in absurd (shows-something m f (begins-first m f none order) e)

-- a call ends as NumbersUsed, and none was needed
needs-for : (f : List Moment) (coming : Option Moment) → f ≡ [] → IfSome coming (λ m. (begins m ≡ false) × AreLawful run (m ∷ f))
    → is_over run (cons_option coming f) ≡ true → ⊥
needs-for [] None e comes over = false≢true over
needs-for [] (Some m) e comes over = false≢true (sym comes.0 ∙ begins-first m [] refl comes.1.frames)
needs-for (n ∷ f) coming e comes over = absurd (let q : n ∷ f ≡ [] = e in cc)

needs_none : NeedsANumber run [] → ⊥
needs_none n = needs-for n.moments n.coming (no-moment n.moments n.lawful.frames n.shows) n.comes n.over

-- gates -----------------------------------------------------------------------

-- a session that holds a frame of a mebibyte
abbrev holding : List ℕ → List ℕ → List Moment
holding frame bytes = Came 0 Controller frame ∷ Is (Given (Piece 0 Controller bytes)) ∷ Is (Given Opened) ∷ []

is-large : (n : ℕ) → 1048576 ≤ n → nat_le 1048576 n ≡ true
is-large n large = grind (arith, leb_tells 1048576 n)

is-held : (light : Bool) (frame : List ℕ) → light ≡ false → 1048576 ≤ length frame
    → cond {A = List ℕ} (nat_le 1048576 (0 + sum_by length (with_if (not light) [] frame))) (0 ∷ []) [] ≡ 0 ∷ []
is-held true frame e large = absurd (false≢true (sym e))
is-held false frame e large = ap (λ (b : Bool). cond {A = List ℕ} b (0 ∷ []) []) (is-large (0 + (0 + length frame)) (omega arith))

is-gated : (frame bytes : List ℕ) → is_light frame ≡ false → 1048576 ≤ length frame → gated run (holding frame bytes) ≡ 0 ∷ []
is-gated frame bytes other large = is-held (is_light frame) frame other large

still-gated : (frame bytes : List ℕ) → is_light frame ≡ false → 1048576 ≤ length frame
    → gated run (Is (Given Idle) ∷ holding frame bytes) ≡ 0 ∷ []
still-gated frame bytes other large = is-held (is_light frame) frame other large

abbrev first_call : List (List ℕ) → List ℕ
first_call [] = []
first_call (call ∷ calls) = call

no-call : (call : List ℕ) (calls given : List (List ℕ)) → call ≡ 0 ∷ [] → [] ∷ given ≡ call ∷ calls → ⊥
no-call call calls given e same = let none : List ℕ = [] in let f : none ≡ 0 ∷ [] = ap first_call same ∙ e in cc

-- the next call for an event is given no gate
misses_a_gate : (frame bytes : List ℕ) (calls : List (List ℕ)) → is_light frame ≡ false → 1048576 ≤ length frame
    → AreGates run (Is (Given Idle) ∷ holding frame bytes) ([] ∷ calls) → ⊥
misses_a_gate frame bytes calls other large are =
    elim are.failed as (λ n. [] ∷ calls ≡ replicate n (gated run (Is (Given Idle) ∷ holding frame bytes)) ++ are.rest → ⊥) [
      | zero ↦ λ e. no-call _ _ calls (is-gated frame bytes other large) (e ∙ are.before.2)
      | suc n ↦ λ e. no-call _ _ calls (still-gated frame bytes other large) e
    ] are.newest

-- and no list of moments leaves the frame out, by which no gate would be missed
abbrev is_nothing : Next → Bool
is_nothing Nothing = true
is_nothing n = false

leaves_a_frame_out : FramesGoInOrder run (Is (Given Idle) ∷ Is (Given (Piece 0 Controller features_wanted)) ∷ Is (Given Opened) ∷ []) → ⊥
unfolding next Cutting.header_fault
leaves_a_frame_out order = false≢true (ap is_nothing order.0)
