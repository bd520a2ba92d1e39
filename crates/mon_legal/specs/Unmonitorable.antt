-- Which updates are reported as ones that no probe is to show.
use Rattle.std.specs.Prelude.{◌≡◌, ℕ, ◌+◌, Bool, true, false, not, ◌==◌, ◌&&◌, if◌then◌else◌, List, ◌∷◌, Option, Some, None, option_and_then}
use Rattle.mon_table.specs.declared.edit.Edit.{Edit}
use Rattle.mon_legal.specs.Ties.{tie}
use Rattle.mon_table.specs.declared.rule.Rule.{Rule}
use Rattle.mon_report.specs.declared.line.Line.{Line as ReportLine}
use Rattle.mon_report.specs.declared.line.Line.TheVariants.{Confirmed, Fact}
use Rattle.mon_report.specs.declared.line.What.TheVariants as what
use Rattle.mon_world.specs.declared.event.Kind.{Kind}
use Rattle.mon_world.specs.declared.event.Kind.TheVariants as kind
use Rattle.mon_world.specs.declared.event.Side.TheVariants.{Switch}
use Rattle.mon_world.specs.declared.event.Note.TheVariants.{Verdict, Probe, Report}
use Rattle.mon_world.specs.declared.history.Entry.TheVariants.{Noted, Put}
use Rattle.mon_legal.specs.Runs.{Run}
use Rattle.mon_legal.specs.Messages.{own_barrier}
use Rattle.mon_legal.specs.Barriers.{edit_out, is_edit, count, is_barriered}
use Rattle.mon_legal.specs.Edits.{find_passed, unsettled, expected, changes_nothing}
use Rattle.mon_legal.specs.Held.{due_closing, postponed}
use Rattle.mon_legal.specs.Datapaths.{catching}
use Rattle.mon_legal.specs.Directly.{is_closing, is_over}
use Rattle.mon_legal.specs.Moments.{Moment}
use Rattle.mon_legal.specs.Moments.Moment.{Is}
use Rattle.mon_legal.specs.Jobs.{Job}
use Rattle.mon_legal.specs.Sessions.{part, OfEach}
use Rattle.mon_legal.specs.Answers.{current}
use Rattle.mon_legal.specs.Reports.{Exactly, is_what, is_of_passing, is_indistinguishable, is_closing as is_closing_line}
use Rattle.mon_legal.specs.Lines.{Line}

-- answers --------------------------------------------------------------------

abbrev pub answer_line : Option Job → Kind → Option ReportLine
answer_line (Some job) kind.Indistinguishable = if job.edit == 0 then None else Some (Fact job.session job.edit what.Indistinguishable)
answer_line job kind = None

-- the report that a current answer is followed by
abbrev pub answered_line : Run → List Moment → Option ReportLine
answered_line run (Is (Noted (Verdict job kind)) ∷ f) = answer_line (current run f job) kind
answered_line run f = None

-- a current answer with a probe is followed by its probe
abbrev pub BearsProbe : Option Job → Kind → Moment → Type 0
BearsProbe (Some job) kind.Probe (Is (Noted (Probe serial number e))) = number ≡ job.number
BearsProbe (Some job) kind.Probe m = ⊥
BearsProbe job kind m = Unit {0}

abbrev pub ProbeFollows : Run → List Moment → Moment → Type 0
ProbeFollows run (Is (Noted (Verdict job kind)) ∷ f) m = BearsProbe (current run f job) kind m
ProbeFollows run f m = Unit {0}

-- edits ----------------------------------------------------------------------

abbrev pub passing_line : ℕ → ℕ → List Rule → Edit → Option ReportLine
passing_line s k t x =
    if changes_nothing x then Some (Fact s k what.NoChange)
    else (if tie t x then Some (Fact s k what.Overlap) else None)

-- the report that the frame of an edit is followed by: the edit changed nothing, or it has a target that is tied in the
-- expected table. A closing has no target
abbrev pub passed_line : Run → List Moment → Option ReportLine
passed_line run (Is (Put s Switch frame lost) ∷ f) =
    if is_edit (part run s f) && not (is_closing (part run s f))
    then option_and_then
    (passing_line s (count (part run s f) + 1) (expected (catching run (part run s f)) (part run s (Is (Put s Switch frame lost) ∷ f))))
    (edit_out (part run s f))
    else None
passed_line run f = None

-- the one that the frame of a closing is followed by
abbrev pub closing_line : Run → List Moment → Option ReportLine
closing_line run (Is (Put s Switch frame lost) ∷ f) =
    if is_closing (part run s f) then Some (Fact s (count (part run s f) + 1) what.Closing) else None
closing_line run f = None

-- an own barrier follows at once
abbrev pub IsOwnBarrier : ℕ → Moment → Type 0
IsOwnBarrier s (Is (Put r Switch frame lost)) = (r ≡ s) × (frame ≡ own_barrier)
IsOwnBarrier s m = ⊥

abbrev pub Unless : Bool → Type 0 → Type 0
Unless true A = A
Unless false A = Unit {0}

-- behind each of these reports, and behind the confirmation of a put whose old rule may be gone
abbrev pub BarrierFollows : Run → List Moment → Moment → Type 0
BarrierFollows run (Is (Noted (Report (Fact s k w))) ∷ f) m = Unless (is_barriered w) (IsOwnBarrier s m)
BarrierFollows run (Is (Noted (Report (Confirmed s k n))) ∷ f) m = Unless (is_over (find_passed k (part run s f))) (IsOwnBarrier s m)
BarrierFollows run f m = Unit {0}

pub record Reported (run : Run) (f : List Moment) (m : Moment) : Type 0 where
  pub answer : Exactly (answered_line run f) (is_what is_indistinguishable) m
  pub probe : ProbeFollows run f m
  pub passing : Exactly (passed_line run f) (is_what is_of_passing) m
  pub closing : Exactly (closing_line run f) (is_what is_closing_line) m
  pub barrier : BarrierFollows run f m

-- at the end of a turn each edit that was passed as a stand-in and is settled has its closing
abbrev pub ClosingsCame : Run → List Moment → Type 0
ClosingsCame run f = OfEach run f (λ s. due_closing (unsettled (part run s f)) (postponed (part run s f)) ≡ None)

abbrev pub UnmonitorableAreReported : Run → List Moment → Type 0
UnmonitorableAreReported run f = Line (Reported run) (ClosingsCame run) f
