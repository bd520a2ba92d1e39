-- A drop with a timeout over an unsure rule: its confirmation, the own barrier, and then the closing.
use Rattle.std.specs.Prelude.{◌≡◌, ℕ, true, false, List, [], ◌∷◌, Option, Some, refl}
use Rattle.mon_header.specs.declared.action.Action.TheVariants.{Output, SetDlDst}
use Rattle.mon_table.specs.declared.rule.Rule.{Rule}
use Rattle.mon_table.specs.declared.edit.Edit.TheVariants as edit
use Rattle.mon_report.specs.declared.line.Line.TheVariants.{Fact}
use Rattle.mon_report.specs.declared.line.What.TheVariants as what
use Rattle.mon_world.specs.declared.event.Side.TheVariants.{Controller, Switch}
use Rattle.mon_world.specs.declared.event.Event.TheVariants.{Piece}
use Rattle.mon_world.specs.declared.event.Note.TheVariants.{Offer, Report}
use Rattle.mon_world.specs.declared.history.Entry.TheVariants.{Given, Noted, Put}
use Rattle.mon_legal.specs.Moments.{Moment}
use Rattle.mon_legal.specs.Moments.Moment.{Is, Did}
use Rattle.mon_legal.specs.Owns.Act.{Closing}
use Rattle.mon_legal.specs.Owns.{Close, Change}
use Rattle.mon_legal.specs.Sessions.{part}
use Rattle.mon_legal.specs.Edits.{entries}
use Rattle.mon_legal.specs.Ordering.{next}
use Rattle.mon_legal.specs.Ordering.Next.{Nothing}
use Rattle.mon_legal.specs.Passing.{FramesGoInOrder}
use Rattle.mon_legal.specs.Story.{run, rule_of_add, own_request, own_reply, comes, passes, is_probed, is_confirmed}
use Rattle.mon_legal.proofs.Samples.{shows_stand_in, timed_rule, timed, until_timed, out_2}
use Rattle.mon_legal.proofs.Computed.{computed}

-- the drop, its stand-in, the closing, and the stand-in's probe as it comes back
abbrev pub timed_drop : List ℕ
timed_drop = 1 ∷ 14 ∷ 0 ∷ 72 ∷ 0 ∷ 0 ∷ 0 ∷ 17 ∷ 0 ∷ 50 ∷ 32 ∷ 239 ∷ 0 ∷ 0 ∷ 0 ∷ 0 ∷ 0 ∷ 0 ∷ 0 ∷ 0 ∷ 0 ∷ 0 ∷ 0 ∷ 0 ∷ 0 ∷ 0 ∷ 0 ∷ 0 ∷ 0 ∷ 0 ∷ 8 ∷ 0 ∷ 0 ∷ 0 ∷ 0 ∷ 0 ∷ 0 ∷ 0 ∷ 0 ∷ 0 ∷ 10 ∷ 0 ∷ 0 ∷ 0 ∷ 0 ∷ 0 ∷ 0 ∷ 0 ∷ 0 ∷ 0 ∷ 0 ∷ 0 ∷ 0 ∷ 0 ∷ 0 ∷ 0 ∷ 0 ∷ 0 ∷ 0 ∷ 10 ∷ 0 ∷ 0 ∷ 0 ∷ 100 ∷ 255 ∷ 255 ∷ 255 ∷ 255 ∷ 255 ∷ 255 ∷ 0 ∷ 0 ∷ []

abbrev pub dropping : Rule
dropping = record rule_of_add { actions = []; unsure = true }

abbrev pub stand_in : List ℕ
stand_in = 1 ∷ 14 ∷ 0 ∷ 96 ∷ 0 ∷ 0 ∷ 0 ∷ 17 ∷ 0 ∷ 50 ∷ 32 ∷ 239 ∷ 0 ∷ 0 ∷ 0 ∷ 0 ∷ 0 ∷ 0 ∷ 0 ∷ 0 ∷ 0 ∷ 0 ∷ 0 ∷ 0 ∷ 0 ∷ 0 ∷ 0 ∷ 0 ∷ 0 ∷ 0 ∷ 8 ∷ 0 ∷ 0 ∷ 0 ∷ 0 ∷ 0 ∷ 0 ∷ 0 ∷ 0 ∷ 0 ∷ 10 ∷ 0 ∷ 0 ∷ 0 ∷ 0 ∷ 0 ∷ 0 ∷ 0 ∷ 0 ∷ 0 ∷ 0 ∷ 0 ∷ 0 ∷ 0 ∷ 0 ∷ 0 ∷ 0 ∷ 0 ∷ 0 ∷ 10 ∷ 0 ∷ 0 ∷ 0 ∷ 100 ∷ 255 ∷ 255 ∷ 255 ∷ 255 ∷ 255 ∷ 255 ∷ 0 ∷ 1 ∷ 0 ∷ 5 ∷ 0 ∷ 16 ∷ 2 ∷ 77 ∷ 79 ∷ 78 ∷ 79 ∷ 0 ∷ 0 ∷ 0 ∷ 0 ∷ 0 ∷ 0 ∷ 0 ∷ 0 ∷ 0 ∷ 0 ∷ 8 ∷ 0 ∷ 1 ∷ 0 ∷ 0 ∷ []

abbrev pub standing_in : Rule
standing_in = record rule_of_add { actions = SetDlDst 2531066269440 ∷ Output 1 0 ∷ []; unsure = true }

abbrev pub shut : List ℕ
shut = 1 ∷ 14 ∷ 0 ∷ 72 ∷ 0 ∷ 0 ∷ 0 ∷ 17 ∷ 0 ∷ 50 ∷ 32 ∷ 239 ∷ 0 ∷ 0 ∷ 0 ∷ 0 ∷ 0 ∷ 0 ∷ 0 ∷ 0 ∷ 0 ∷ 0 ∷ 0 ∷ 0 ∷ 0 ∷ 0 ∷ 0 ∷ 0 ∷ 0 ∷ 0 ∷ 8 ∷ 0 ∷ 0 ∷ 0 ∷ 0 ∷ 0 ∷ 0 ∷ 0 ∷ 0 ∷ 0 ∷ 10 ∷ 0 ∷ 0 ∷ 0 ∷ 0 ∷ 0 ∷ 0 ∷ 0 ∷ 0 ∷ 0 ∷ 0 ∷ 0 ∷ 0 ∷ 0 ∷ 0 ∷ 0 ∷ 0 ∷ 2 ∷ 0 ∷ 10 ∷ 0 ∷ 0 ∷ 0 ∷ 100 ∷ 255 ∷ 255 ∷ 255 ∷ 255 ∷ 255 ∷ 255 ∷ 0 ∷ 1 ∷ []

abbrev pub back : List ℕ
back = 1 ∷ 10 ∷ 0 ∷ 82 ∷ 0 ∷ 0 ∷ 0 ∷ 0 ∷ 255 ∷ 255 ∷ 255 ∷ 255 ∷ 0 ∷ 64 ∷ 0 ∷ 1 ∷ 1 ∷ 0 ∷ 2 ∷ 77 ∷ 79 ∷ 78 ∷ 79 ∷ 0 ∷ 2 ∷ 0 ∷ 0 ∷ 0 ∷ 0 ∷ 1 ∷ 129 ∷ 0 ∷ 0 ∷ 100 ∷ 8 ∷ 0 ∷ 69 ∷ 0 ∷ 0 ∷ 44 ∷ 0 ∷ 0 ∷ 0 ∷ 0 ∷ 64 ∷ 255 ∷ 101 ∷ 203 ∷ 10 ∷ 0 ∷ 0 ∷ 9 ∷ 10 ∷ 0 ∷ 0 ∷ 0 ∷ 77 ∷ 79 ∷ 78 ∷ 79 ∷ 67 ∷ 76 ∷ 69 ∷ 49 ∷ 0 ∷ 0 ∷ 0 ∷ 0 ∷ 0 ∷ 0 ∷ 0 ∷ 1 ∷ 0 ∷ 0 ∷ 0 ∷ 0 ∷ 0 ∷ 0 ∷ 0 ∷ 2 ∷ 0 ∷ 0 ∷ []

abbrev pub closing : Close
closing = record { edit = edit.Put dropping (Some standing_in); frame = shut }

abbrev pub change : Option Change
change = Some (record { edit = edit.Put standing_in (Some timed_rule); closing = Some closing })

-- the stand-in is confirmed
abbrev pub confirmed : List Moment
confirmed =
    is_confirmed 2 1 back (is_probed 2 shows_stand_in 2 out_2 (Is (Noted (Offer 2 0 2 5))
    ∷ passes timed_drop stand_in change (Is (Given (Piece 0 Controller timed_drop)) ∷ timed)))

-- a barrier goes out, then the closing and a second barrier, and both are answered
abbrev pub row : List Moment
row =
    Is (Noted (Report (Fact 0 3 what.Settled)))
    ∷ comes 0 own_reply (comes 0 own_reply (Is (Put 0 Switch own_request false) ∷ Is (Noted (Report (Fact 0 3 what.Closing)))
    ∷ Is (Put 0 Switch shut false) ∷ Did 0 (Closing 2 closing) ∷ Is (Put 0 Switch own_request false) ∷ confirmed))

stands : FramesGoInOrder run row
unfolding computed
stands = (tt, refl, (tt, refl, (refl, refl, (tt, refl, (refl, refl, (tt, (false, refl), (tt, refl, (tt, (false, refl), (tt, refl, (tt, (false, refl), (tt, refl, (tt, refl, (refl, refl, (tt, (2, out_2, false, refl), (tt, (shows_stand_in, refl), (refl, refl, (refl, refl, (tt, refl, (tt, (false, refl), (tt, refl, (tt, refl, (tt, refl, (refl, refl, until_timed)))))))))))))))))))))))

the_drop_stands : entries (part run 0 row) ≡ dropping ∷ []
unfolding computed
the_drop_stands = refl

ended : next run row ≡ Nothing
unfolding computed
ended = refl
