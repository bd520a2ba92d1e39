-- Histories of wrong programs are not lawful: each breaks the order of what comes.
use Rattle.std.proofs.Common.{◌≡◌, ℕ, Bool, true, false, List, [], ◌∷◌, drop, Some, None, Option, ap, sym, refl}
use Rattle.std.specs.Prelude.{◌==◌}
use Rattle.std.proofs.lemmas.Bool.{false≢true}
use Rattle.mon_report.specs.declared.line.Line.TheVariants.{Confirmed, Closed}
use Rattle.mon_world.specs.declared.event.Note.TheVariants.{Probe, Report}
use Rattle.mon_world.specs.declared.history.Entry.TheVariants.{Given, Noted, Put, End}
use Rattle.mon_legal.specs.Owns.Act.{Reply, Plan}
use Rattle.mon_legal.specs.Moments.Moment.{Is, Came, Did}
use Rattle.mon_legal.specs.Passing.{FramesGoInOrder}
use Rattle.mon_legal.specs.Story.{run, header, emission, hello, features_1, clears, tells_128, drops_marked, add, request, reply, comes, greets, opened, greeted, sent, answered, probed, confirmed}
use Rattle.mon_legal.proofs.Computed.{computed, compared}
use Rattle.mon_shows.specs.declared.target.Target.{Target}
use Rattle.mon_legal.specs.Targets.{target_of_job, table_for}
use Rattle.mon_world.specs.declared.event.Kind.TheVariants as kind
use Rattle.mon_world.specs.declared.event.Note.TheVariants.{Verdict}
use Rattle.mon_shows.specs.Separation.{separates}
use Rattle.mon_legal.specs.Sessions.{part, view}
use Rattle.mon_legal.specs.Edits.{expected}
use Rattle.mon_legal.specs.Datapaths.{catching}
use Rattle.mon_world.specs.declared.event.Side.TheVariants.{Controller, Switch}
use Rattle.mon_legal.specs.Sides.{FramesGoOn, FramesWentOn}
use Rattle.mon_fields.specs.Fields.{number_at}
use Rattle.std.specs.List.{concat}
use Rattle.mon_report.specs.declared.line.Cause.TheVariants as why
use Rattle.mon_world.specs.declared.event.Event.TheVariants as event
use Rattle.mon_world.specs.declared.event.Event.TheVariants.{Piece, Answer}
use Rattle.mon_legal.specs.Truths.{AnswersAreTrue, NothingSeparates}
use Rattle.mon_legal.proofs.TieRow as tie
use Rattle.mon_legal.proofs.LostRow as lost
use Rattle.mon_legal.proofs.RejectionRow as rejection
use Rattle.mon_legal.proofs.UnsureDropRow as unsure_drop
use Rattle.mon_legal.proofs.WatchRow as watch
use Rattle.mon_legal.specs.Passing.{NothingIsLeft}
use Rattle.mon_legal.specs.Ordering.{Next}
use Rattle.mon_legal.specs.Ordering.Next.{Nothing}
use Rattle.mon_legal.specs.Owns.Act.{Closing}
use Rattle.mon_world.specs.declared.event.Note.TheVariants.{Offer}
use Rattle.mon_legal.specs.Moments.{Moment}

abbrev is_step : Moment → Bool
is_step (Did s act) = true
is_step m = false

abbrev is_line : Moment → Bool
is_line (Is (Noted (Report line))) = true
is_line m = false

abbrev is_end : Moment → Bool
is_end (Is (End s)) = true
is_end m = false

abbrev frame_of : Moment → List ℕ
frame_of (Is (Put s to frame lost)) = frame
frame_of m = []

abbrev is_nothing : Next → Bool
is_nothing Nothing = true
is_nothing n = false

-- the switch answers a barrier, and the update is said to be confirmed
confirms_at_a_barrier : FramesGoInOrder run (Is (Noted (Report (Confirmed 0 1 1))) ∷ answered) → ⊥
unfolding computed
confirms_at_a_barrier legal = false≢true legal.1

-- the reply goes to the controller at once
replies_early : FramesGoInOrder run (Did 0 (Reply reply) ∷ answered) → ⊥
unfolding computed
replies_early legal = false≢true legal.1

-- a stale answer sends its probe
probes_after_a_rejection : FramesGoInOrder run (Is (Noted (Probe 1 1 emission)) ∷ rejection.row) → ⊥
unfolding computed
probes_after_a_rejection legal = false≢true legal.1

-- a return of the serial shows another emission
confirms_by_the_serial : FramesGoInOrder run (Is (Noted (Report (Confirmed 0 2 2))) ∷ lost.returned) → ⊥
unfolding computed
confirms_by_the_serial legal = false≢true legal.1

-- the closing goes out before the own barrier behind the confirmation
closes_first : FramesGoInOrder run (Did 0 (Closing 2 unsure_drop.closing) ∷ unsure_drop.confirmed) → ⊥
unfolding computed
closes_first legal = let e : true ≡ false = ap is_step legal.1.1 in false≢true (sym e)

-- a confirmation of a put over an unsure rule is followed by no barrier
ends_without_a_barrier : NothingIsLeft run unsure_drop.confirmed → ⊥
unfolding computed
ends_without_a_barrier e = false≢true (ap is_nothing e)

-- a watch is offered outside the turn of a tick
watches_early : FramesGoInOrder watch.run_watched (Is (Noted (Offer 2 0 0 4)) ∷ confirmed) → ⊥
unfolding computed
watches_early legal = false≢true legal.1

-- an edit is planned that overlaps an unsettled one
passes_what_overlaps : FramesGoInOrder run (Did 0 (Plan tie.to_8) ∷ tie.waiting) → ⊥
unfolding computed
passes_what_overlaps legal = let e : true ≡ false = ap is_step legal.1 in false≢true (sym e)

-- the job's answer is given
abbrev asked_for : List Moment
asked_for = Is (Given (Answer 0)) ∷ answered

-- the packet of the row separates the target that is asked of
abbrev separates_of : Option Target → Bool
separates_of None = true
separates_of (Some x) =
    separates (view run 0 asked_for) (table_for (expected (catching run (part run 0 asked_for)) (part run 0 asked_for)) x) x header emission

shows_the_add : separates_of (target_of_job run (view run 0 asked_for) (part run 0 asked_for) 1) ≡ true
unfolding compared
shows_the_add = refl

differ : {a b : Bool} → a ≡ b → b ≡ false → a ≡ true → ⊥
differ e f g = cc

is_shown : NothingSeparates run asked_for 0 1 → ⊥
is_shown nothing = differ (ap separates_of nothing.1) (nothing.2 header emission) shows_the_add

-- an answer says that nothing separates, where a probe is there
hides_a_probe : AnswersAreTrue run (Is (Noted (Verdict 1 kind.Indistinguishable)) ∷ asked_for) → ⊥
unfolding compared
hides_a_probe so_far = is_shown so_far.1.is_true

-- a reply that is put as it comes, though its request waits for an answer: the controller gets what it is not to get
replies_without_a_step : FramesGoOn run 0 (Is (Put 0 Controller reply false) ∷ answered) → ⊥
unfolding computed
replies_without_a_step sides = let e : reply ∷ sides.to_controller.0 ≡ [] = ap (drop 1) sides.to_controller.1 in cc

-- a job is answered twice
answers_twice : AnswersAreTrue run (Is (Noted (Verdict 1 kind.Probe)) ∷ probed) → ⊥
answers_twice so_far = false≢true so_far.1.first

-- the turn ends, and a frame of the switch did not go on
drops_a_frame : FramesWentOn run 0 (comes 0 hello opened) → ⊥
unfolding computed
drops_a_frame all = let e : [] ≡ hello ∷ [] = all.to_controller in cc

-- it goes on twice
passes_twice : FramesGoOn run 0 (Is (Put 0 Controller hello false) ∷ Is (Put 0 Controller hello false) ∷ comes 0 hello opened) → ⊥
unfolding computed
passes_twice sides = let e : hello ∷ sides.to_controller.0 ≡ [] = ap (drop 1) sides.to_controller.1 in cc

-- the second frame of a piece is handled before the first
handles_out_of_order : FramesGoOn run 0 (Came 0 Controller request ∷ sent) → ⊥
unfolding computed
handles_out_of_order sides = let e : true ≡ false = ap (λ (frames : List (List ℕ)). number_at 1 1 (concat frames) == 18) sides.controller.1 in false≢true (sym e)

-- a frame of the controller passes before the session is armed
passes_before_it_is_armed : FramesGoInOrder run (Did 0 (Plan add) ∷ Came 0 Controller add ∷ Is (Given (Piece 0 Controller add)) ∷ greets 0 opened) → ⊥
unfolding computed
passes_before_it_is_armed legal = false≢true legal.1

-- the switch is armed without the entry that catches another tag
forgets_a_tag : FramesGoInOrder run (Is (Put 0 Switch drops_marked false) ∷ Is (Put 0 Switch tells_128 false) ∷ Is (Put 0 Switch clears false) ∷ comes 0 features_1 greeted) → ⊥
unfolding computed
forgets_a_tag legal = let e : true ≡ false = ap (λ (m : Moment). number_at 1 11 (frame_of m) == 247) legal.1.1 in false≢true (sym e)

-- a session is reported as closed before its end
closes_before_its_end : FramesGoInOrder run (Is (Noted (Report (Closed 0 why.Peer))) ∷ Is (Given (event.Closed 0)) ∷ greets 0 opened) → ⊥
unfolding computed
closes_before_its_end legal = let e : true ≡ false = ap is_line legal.1 in false≢true (sym e)

-- a frame is put after the end
passes_after_the_end : FramesGoInOrder run (Is (Put 0 Controller hello false) ∷ Is (Noted (Report (Closed 0 why.Peer))) ∷ Is (End 0) ∷ Is (Given (event.Closed 0)) ∷ greets 0 opened) → ⊥
unfolding computed
passes_after_the_end legal = false≢true legal.1

-- a lost output ends its session before the rest is put
ends_too_early : FramesGoInOrder run (Is (End 0) ∷ Is (Put 0 Controller hello true) ∷ comes 0 hello opened) → ⊥
unfolding computed
ends_too_early legal = let e : true ≡ false = ap is_end legal.1.1 in false≢true (sym e)
