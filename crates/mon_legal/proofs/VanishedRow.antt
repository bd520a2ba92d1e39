-- An entry with a timeout is confirmed, and vanishes.
use Rattle.std.specs.Prelude.{◌≡◌, ℕ, false, List, [], ◌∷◌, refl}
use Rattle.mon_world.specs.declared.event.Side.TheVariants.{Controller}
use Rattle.mon_world.specs.declared.history.Entry.TheVariants.{Put}
use Rattle.mon_legal.specs.Moments.{Moment}
use Rattle.mon_legal.specs.Moments.Moment.{Is}
use Rattle.mon_legal.specs.Sessions.{part}
use Rattle.mon_legal.specs.Edits.{entries}
use Rattle.mon_legal.specs.Ordering.{next}
use Rattle.mon_legal.specs.Ordering.Next.{Nothing}
use Rattle.mon_legal.specs.Passing.{FramesGoInOrder}
use Rattle.mon_legal.specs.Story.{run, comes}
use Rattle.mon_legal.proofs.Samples.{timed_rule, timed, until_timed}
use Rattle.mon_legal.proofs.Computed.{computed}

abbrev pub removed : List ℕ
removed = 1 ∷ 11 ∷ 0 ∷ 88 ∷ 0 ∷ 0 ∷ 0 ∷ 0 ∷ 0 ∷ 50 ∷ 32 ∷ 239 ∷ 0 ∷ 0 ∷ 0 ∷ 0 ∷ 0 ∷ 0 ∷ 0 ∷ 0 ∷ 0 ∷ 0 ∷ 0 ∷ 0 ∷ 0 ∷ 0 ∷ 0 ∷ 0 ∷ 0 ∷ 0 ∷ 8 ∷ 0 ∷ 0 ∷ 0 ∷ 0 ∷ 0 ∷ 0 ∷ 0 ∷ 0 ∷ 0 ∷ 10 ∷ 0 ∷ 0 ∷ 0 ∷ 0 ∷ 0 ∷ 0 ∷ 0 ∷ 0 ∷ 0 ∷ 0 ∷ 0 ∷ 0 ∷ 0 ∷ 0 ∷ 0 ∷ 0 ∷ 100 ∷ 0 ∷ 0 ∷ 0 ∷ 0 ∷ 0 ∷ 0 ∷ 0 ∷ 0 ∷ 0 ∷ 0 ∷ 0 ∷ 0 ∷ 0 ∷ 0 ∷ 0 ∷ 0 ∷ 0 ∷ 0 ∷ 0 ∷ 0 ∷ 0 ∷ 0 ∷ 0 ∷ 0 ∷ 0 ∷ 0 ∷ 0 ∷ 0 ∷ 0 ∷ 0 ∷ []

abbrev pub row : List Moment
row = Is (Put 0 Controller removed false) ∷ comes 0 removed timed

stands : FramesGoInOrder run row
unfolding computed
stands = (tt, (false, refl), (tt, refl, (refl, refl, until_timed)))

there_before : entries (part run 0 timed) ≡ timed_rule ∷ []
unfolding computed
there_before = refl

gone_behind : entries (part run 0 row) ≡ []
unfolding computed
gone_behind = refl

ended : next run row ≡ Nothing
unfolding computed
ended = refl
