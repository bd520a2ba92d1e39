-- What a confirmation means: a probe came back that no table that is still possible emits without the update.
use Rattle.std.specs.Prelude.{◌≡◌, ℕ, Bool, false, if◌then◌else◌, List, [], ◌∷◌, Option, Some, None, option_map}
use Rattle.mon_table.specs.declared.rule.Rule.{Rule}
use Rattle.mon_shows.specs.Separation.{may_show}
use Rattle.mon_report.specs.declared.line.Line.{Line as ReportLine}
use Rattle.mon_report.specs.declared.line.Line.TheVariants.{Confirmed, Fact}
use Rattle.mon_report.specs.declared.line.What.TheVariants as what
use Rattle.mon_world.specs.declared.event.Side.TheVariants.{Controller, Switch}
use Rattle.mon_world.specs.declared.event.Note.TheVariants.{Report}
use Rattle.mon_world.specs.declared.history.Entry.TheVariants.{Noted, Put}
use Rattle.mon_legal.specs.Runs.{Run}
use Rattle.mon_legal.specs.Owns.{Own}
use Rattle.mon_legal.specs.Owns.Own.{Returns}
use Rattle.mon_legal.specs.Messages.{header_of_probe}
use Rattle.mon_legal.specs.Barriers.{answered_by, own_edit}
use Rattle.mon_legal.specs.Edits.{passed, is_unsettled, rejected_by}
use Rattle.mon_legal.specs.Possible.{KeepsSettled, possible}
use Rattle.mon_legal.specs.Probes.{confirmed_by}
use Rattle.mon_legal.specs.Datapaths.{catching}
use Rattle.mon_legal.specs.Moments.{Moment}
use Rattle.mon_legal.specs.Moments.Moment.{Is, Came}
use Rattle.mon_legal.specs.Sessions.{part, parts_of, returned, is_open, opened}
use Rattle.mon_legal.specs.Ordering.{first_with}
use Rattle.mon_legal.specs.Answers.{Sent, sent}
use Rattle.mon_legal.specs.Reports.{Exactly, is_confirmed_line, is_what, is_settled, is_rejected}
use Rattle.mon_legal.specs.Lines.{Line, Always}

-- a return fits: the unsettled edit of which a kept probe is to show just that
abbrev pub confirms_with : ℕ → List Own → List Own → Option ReportLine
confirms_with s own [] = None
confirms_with s own (Returns serial seen ∷ os) = option_map (λ k. Confirmed s k serial) (confirmed_by serial seen own)
confirms_with s own (o ∷ os) = None

abbrev pub confirms : Run → List Moment → List Own → ℕ → Option ReportLine
confirms run f returns s = if is_open (part run s f) then confirms_with s (part run s f) returns else None

abbrev pub line_in : Option (ℕ × ReportLine) → Option ReportLine
line_in None = None
line_in (Some p) = Some p.1

-- the confirmation that a frame of a switch is followed by
abbrev pub confirmed_line : Run → List Moment → Option ReportLine
confirmed_line run (Came r Switch frame ∷ f) =
    line_in (first_with (confirms run f (returned run (parts_of run f) r Switch frame)) (opened run f))
confirmed_line run f = None

-- no table that is possible and lacks the edit may emit what the probe's emission is, whichever unsure rules are gone
abbrev pub NoOther : Run → List Moment → ℕ → ℕ → Sent → Type 0
NoOther run f s k probe =
    (keep : ℕ → Bool) (goes : Rule → Bool) → KeepsSettled keep (passed (part run s f)) → keep k ≡ false
    → may_show (possible (catching run (part run s f)) keep goes (part run s f)) (header_of_probe probe.frame probe.emission) probe.emission ≡ false

abbrev pub IsSound : Run → List Moment → Moment → Type 0
IsSound run f (Is (Noted (Report (Confirmed s k serial)))) = (probe : Sent) × (sent serial f ≡ Some probe) × NoOther run f s k probe
IsSound run f m = Unit {0}

-- the reply of an own barrier settles an edit that is unsettled
abbrev pub settles : ℕ → List Own → Option ℕ → Option ReportLine
settles s own None = None
settles s own (Some k) = if is_unsettled own k then Some (Fact s k what.Settled) else None

abbrev pub settled_line : Run → List Moment → Option ReportLine
settled_line run (Came s Switch frame ∷ f) = settles s (part run s f) (own_edit (answered_by (part run s f) frame))
settled_line run f = None

-- an ERROR for an unsettled edit was passed on
abbrev pub rejected_line : Run → List Moment → Option ReportLine
rejected_line run (Is (Put r Controller error lost) ∷ Came s Switch frame ∷ f) =
    option_map (λ k. Fact s k what.Rejected) (rejected_by frame (passed (part run s f)))
rejected_line run f = None

pub record Confirms (run : Run) (f : List Moment) (m : Moment) : Type 0 where
  pub exact : Exactly (confirmed_line run f) is_confirmed_line m
  pub sound : IsSound run f m
  pub settled : Exactly (settled_line run f) (is_what is_settled) m
  pub rejected : Exactly (rejected_line run f) (is_what is_rejected) m

abbrev pub ConfirmationsAreSound : Run → List Moment → Type 0
ConfirmationsAreSound run f = Line (Confirms run) Always f
