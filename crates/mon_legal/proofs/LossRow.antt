-- A frame that is lost ends its session.
use Rattle.std.specs.Prelude.{◌≡◌, true, List, [], ◌∷◌, refl}
use Rattle.mon_report.specs.declared.line.Line.TheVariants.{Closed}
use Rattle.mon_world.specs.declared.event.Side.TheVariants.{Controller, Switch}
use Rattle.mon_world.specs.declared.event.Event.TheVariants.{Opened, Piece}
use Rattle.mon_world.specs.declared.event.Note.TheVariants.{Report}
use Rattle.mon_world.specs.declared.history.Entry.TheVariants.{Given, Noted, Put, End}
use Rattle.mon_legal.specs.Moments.{Moment}
use Rattle.mon_legal.specs.Moments.Moment.{Is, Came}
use Rattle.mon_report.specs.declared.line.Cause.TheVariants as why
use Rattle.mon_legal.specs.Ordering.{next}
use Rattle.mon_legal.specs.Ordering.Next.{Nothing}
use Rattle.mon_legal.specs.Passing.{FramesGoInOrder}
use Rattle.mon_legal.specs.Story.{run, hello}
use Rattle.mon_legal.proofs.Computed.{computed}

abbrev pub row : List Moment
row =
    Is (Noted (Report (Closed 0 why.Lost))) ∷ Is (End 0) ∷ Is (Put 0 Switch hello true)
    ∷ Came 0 Controller hello ∷ Is (Given (Piece 0 Controller hello)) ∷ Is (Given Opened) ∷ []

stands : FramesGoInOrder run row
unfolding computed
stands = (tt, refl, (tt, refl, (tt, (true, refl), (tt, refl, (refl, refl, (refl, refl, tt))))))

ended : next run row ≡ Nothing
unfolding computed
ended = refl
