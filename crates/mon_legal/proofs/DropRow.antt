-- A drop that is postponed: its stand-in is confirmed, the closing follows, and its barrier is answered.
use Rattle.std.specs.Prelude.{◌≡◌, ℕ, false, List, [], ◌∷◌, Option, Some, None, refl}
use Rattle.mon_header.specs.declared.action.Action.TheVariants.{Output, SetDlDst}
use Rattle.mon_table.specs.declared.rule.Rule.{Rule}
use Rattle.mon_table.specs.declared.edit.Edit.TheVariants as edit
use Rattle.mon_report.specs.declared.line.Line.TheVariants.{Fact}
use Rattle.mon_report.specs.declared.line.What.TheVariants as what
use Rattle.mon_world.specs.declared.event.Side.TheVariants.{Controller, Switch}
use Rattle.mon_world.specs.declared.event.Event.TheVariants.{Piece}
use Rattle.mon_world.specs.declared.event.Note.TheVariants.{Offer, Report}
use Rattle.mon_world.specs.declared.history.Entry.TheVariants.{Given, Noted, Put}
use Rattle.mon_legal.specs.Moments.{Moment}
use Rattle.mon_legal.specs.Moments.Moment.{Is, Did}
use Rattle.mon_legal.specs.Owns.Act.{Closing}
use Rattle.mon_legal.specs.Owns.{Close, Change}
use Rattle.mon_legal.specs.Ordering.{next}
use Rattle.mon_legal.specs.Ordering.Next.{Nothing}
use Rattle.mon_legal.specs.Passing.{FramesGoInOrder}
use Rattle.mon_legal.specs.Story.{run, rule_of_add, own_request, own_reply, probe_out, armed, comes, passes, is_probed, is_confirmed}
use Rattle.mon_legal.proofs.Samples.{shows_stand_in}
use Rattle.mon_legal.proofs.Computed.{computed}
use Rattle.mon_legal.proofs.OrderStands

abbrev pub drop : List ℕ
drop = 1 ∷ 14 ∷ 0 ∷ 72 ∷ 0 ∷ 0 ∷ 0 ∷ 17 ∷ 0 ∷ 50 ∷ 32 ∷ 239 ∷ 0 ∷ 0 ∷ 0 ∷ 0 ∷ 0 ∷ 0 ∷ 0 ∷ 0 ∷ 0 ∷ 0 ∷ 0 ∷ 0 ∷ 0 ∷ 0 ∷ 0 ∷ 0 ∷ 0 ∷ 0 ∷ 8 ∷ 0 ∷ 0 ∷ 0 ∷ 0 ∷ 0 ∷ 0 ∷ 0 ∷ 0 ∷ 0 ∷ 10 ∷ 0 ∷ 0 ∷ 0 ∷ 0 ∷ 0 ∷ 0 ∷ 0 ∷ 0 ∷ 0 ∷ 0 ∷ 0 ∷ 0 ∷ 0 ∷ 0 ∷ 0 ∷ 0 ∷ 0 ∷ 0 ∷ 0 ∷ 0 ∷ 0 ∷ 0 ∷ 100 ∷ 255 ∷ 255 ∷ 255 ∷ 255 ∷ 255 ∷ 255 ∷ 0 ∷ 0 ∷ []

abbrev pub stand_in : List ℕ
stand_in = 1 ∷ 14 ∷ 0 ∷ 96 ∷ 0 ∷ 0 ∷ 0 ∷ 17 ∷ 0 ∷ 50 ∷ 32 ∷ 239 ∷ 0 ∷ 0 ∷ 0 ∷ 0 ∷ 0 ∷ 0 ∷ 0 ∷ 0 ∷ 0 ∷ 0 ∷ 0 ∷ 0 ∷ 0 ∷ 0 ∷ 0 ∷ 0 ∷ 0 ∷ 0 ∷ 8 ∷ 0 ∷ 0 ∷ 0 ∷ 0 ∷ 0 ∷ 0 ∷ 0 ∷ 0 ∷ 0 ∷ 10 ∷ 0 ∷ 0 ∷ 0 ∷ 0 ∷ 0 ∷ 0 ∷ 0 ∷ 0 ∷ 0 ∷ 0 ∷ 0 ∷ 0 ∷ 0 ∷ 0 ∷ 0 ∷ 0 ∷ 0 ∷ 0 ∷ 0 ∷ 0 ∷ 0 ∷ 0 ∷ 100 ∷ 255 ∷ 255 ∷ 255 ∷ 255 ∷ 255 ∷ 255 ∷ 0 ∷ 0 ∷ 0 ∷ 5 ∷ 0 ∷ 16 ∷ 2 ∷ 77 ∷ 79 ∷ 78 ∷ 79 ∷ 0 ∷ 0 ∷ 0 ∷ 0 ∷ 0 ∷ 0 ∷ 0 ∷ 0 ∷ 0 ∷ 0 ∷ 8 ∷ 0 ∷ 1 ∷ 0 ∷ 0 ∷ []

abbrev pub shut : List ℕ
shut = 1 ∷ 14 ∷ 0 ∷ 72 ∷ 0 ∷ 0 ∷ 0 ∷ 17 ∷ 0 ∷ 50 ∷ 32 ∷ 239 ∷ 0 ∷ 0 ∷ 0 ∷ 0 ∷ 0 ∷ 0 ∷ 0 ∷ 0 ∷ 0 ∷ 0 ∷ 0 ∷ 0 ∷ 0 ∷ 0 ∷ 0 ∷ 0 ∷ 0 ∷ 0 ∷ 8 ∷ 0 ∷ 0 ∷ 0 ∷ 0 ∷ 0 ∷ 0 ∷ 0 ∷ 0 ∷ 0 ∷ 10 ∷ 0 ∷ 0 ∷ 0 ∷ 0 ∷ 0 ∷ 0 ∷ 0 ∷ 0 ∷ 0 ∷ 0 ∷ 0 ∷ 0 ∷ 0 ∷ 0 ∷ 0 ∷ 0 ∷ 2 ∷ 0 ∷ 0 ∷ 0 ∷ 0 ∷ 0 ∷ 100 ∷ 255 ∷ 255 ∷ 255 ∷ 255 ∷ 255 ∷ 255 ∷ 0 ∷ 0 ∷ []

abbrev pub back : List ℕ
back = 1 ∷ 10 ∷ 0 ∷ 82 ∷ 0 ∷ 0 ∷ 0 ∷ 0 ∷ 255 ∷ 255 ∷ 255 ∷ 255 ∷ 0 ∷ 64 ∷ 0 ∷ 1 ∷ 1 ∷ 0 ∷ 2 ∷ 77 ∷ 79 ∷ 78 ∷ 79 ∷ 0 ∷ 2 ∷ 0 ∷ 0 ∷ 0 ∷ 0 ∷ 1 ∷ 129 ∷ 0 ∷ 0 ∷ 100 ∷ 8 ∷ 0 ∷ 69 ∷ 0 ∷ 0 ∷ 44 ∷ 0 ∷ 0 ∷ 0 ∷ 0 ∷ 64 ∷ 255 ∷ 101 ∷ 203 ∷ 10 ∷ 0 ∷ 0 ∷ 9 ∷ 10 ∷ 0 ∷ 0 ∷ 0 ∷ 77 ∷ 79 ∷ 78 ∷ 79 ∷ 67 ∷ 76 ∷ 69 ∷ 49 ∷ 0 ∷ 0 ∷ 0 ∷ 0 ∷ 0 ∷ 0 ∷ 0 ∷ 1 ∷ 0 ∷ 0 ∷ 0 ∷ 0 ∷ 0 ∷ 0 ∷ 0 ∷ 1 ∷ 0 ∷ 0 ∷ []

abbrev pub dropping : Rule
dropping = record rule_of_add { actions = [] }

abbrev pub standing_in : Rule
standing_in = record rule_of_add { actions = SetDlDst 2531066269440 ∷ Output 1 0 ∷ [] }

abbrev pub closing : Close
closing = record { edit = edit.Put dropping (Some standing_in); frame = shut }

abbrev pub change : Option Change
change = Some (record { edit = edit.Put standing_in None; closing = Some closing })

abbrev pub row : List Moment
row =
    Is (Noted (Report (Fact 0 2 what.Settled)))
    ∷ comes 0 own_reply (Is (Put 0 Switch own_request false) ∷ Is (Noted (Report (Fact 0 2 what.Closing))) ∷ Is (Put 0 Switch shut false) ∷ Did 0 (Closing 1 closing)
    ∷ is_confirmed 1 1 back (is_probed 1 shows_stand_in 2 probe_out (Is (Noted (Offer 1 0 1 4))
    ∷ passes drop stand_in change (Is (Given (Piece 0 Controller drop)) ∷ armed))))

stands : FramesGoInOrder run row
unfolding computed
stands = (tt, refl, (tt, refl, (refl, refl, (tt, (false, refl), (tt, refl, (tt, (false, refl), (tt, refl, (tt, refl, (tt, refl, (refl, refl, (tt, (2, probe_out, false, refl), (tt, (shows_stand_in, refl), (refl, refl, (refl, refl, (tt, refl, (tt, (false, refl), (tt, refl, (tt, refl, (tt, refl, (refl, refl, OrderStands.until_armed))))))))))))))))))))

ended : next run row ≡ Nothing
unfolding computed
ended = refl
