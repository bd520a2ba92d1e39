-- A rejected update: the ERROR passes, and the answer to its job is stale.
use Rattle.std.specs.Prelude.{◌≡◌, ℕ, false, List, [], ◌∷◌, refl}
use Rattle.mon_report.specs.declared.line.Line.TheVariants.{Fact}
use Rattle.mon_report.specs.declared.line.What.TheVariants as what
use Rattle.mon_world.specs.declared.event.Side.TheVariants.{Controller}
use Rattle.mon_world.specs.declared.event.Event.TheVariants.{Piece, Answer}
use Rattle.mon_world.specs.declared.event.Note.TheVariants.{Offer, Verdict, Report}
use Rattle.mon_world.specs.declared.history.Entry.TheVariants.{Given, Noted, Put}
use Rattle.mon_legal.specs.Moments.{Moment}
use Rattle.mon_legal.specs.Moments.Moment.{Is}
use Rattle.mon_world.specs.declared.event.Kind.TheVariants as kind
use Rattle.mon_legal.specs.Ordering.{next}
use Rattle.mon_legal.specs.Ordering.Next.{Nothing}
use Rattle.mon_legal.specs.Passing.{FramesGoInOrder}
use Rattle.mon_legal.specs.Story.{run, add, change_of_add, armed, comes, passes}
use Rattle.mon_legal.proofs.Computed.{computed}
use Rattle.mon_legal.proofs.OrderStands

abbrev pub error : List ℕ
error = 1 ∷ 1 ∷ 0 ∷ 76 ∷ 0 ∷ 0 ∷ 0 ∷ 17 ∷ 0 ∷ 3 ∷ 0 ∷ 0 ∷ 1 ∷ 14 ∷ 0 ∷ 80 ∷ 0 ∷ 0 ∷ 0 ∷ 17 ∷ 0 ∷ 50 ∷ 32 ∷ 239 ∷ 0 ∷ 0 ∷ 0 ∷ 0 ∷ 0 ∷ 0 ∷ 0 ∷ 0 ∷ 0 ∷ 0 ∷ 0 ∷ 0 ∷ 0 ∷ 0 ∷ 0 ∷ 0 ∷ 0 ∷ 0 ∷ 8 ∷ 0 ∷ 0 ∷ 0 ∷ 0 ∷ 0 ∷ 0 ∷ 0 ∷ 0 ∷ 0 ∷ 10 ∷ 0 ∷ 0 ∷ 0 ∷ 0 ∷ 0 ∷ 0 ∷ 0 ∷ 0 ∷ 0 ∷ 0 ∷ 0 ∷ 0 ∷ 0 ∷ 0 ∷ 0 ∷ 0 ∷ 0 ∷ 0 ∷ 0 ∷ 0 ∷ 0 ∷ 0 ∷ 100 ∷ []

abbrev pub row : List Moment
row =
    Is (Noted (Verdict 1 kind.Probe)) ∷ Is (Given (Answer 0))
    ∷ Is (Noted (Report (Fact 0 1 what.Rejected))) ∷ Is (Put 0 Controller error false)
    ∷ comes 0 error (Is (Noted (Offer 1 0 1 4)) ∷ passes add add change_of_add (Is (Given (Piece 0 Controller add)) ∷ armed))

stands : FramesGoInOrder run row
unfolding computed
stands = (refl, refl, (refl, refl, (tt, refl, (tt, (false, refl), (tt, refl, (refl, refl, (tt, refl, (tt, (false, refl), (tt, refl, (tt, refl, (tt, refl, (refl, refl, OrderStands.until_armed))))))))))))

ended : next run row ≡ Nothing
unfolding computed
ended = refl
