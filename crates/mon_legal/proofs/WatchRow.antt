-- The ordinary use with a watch of each tick: the rule is probed again, and seen.
use Rattle.std.specs.Prelude.{◌≡◌, ℕ, true, false, List, [], ◌∷◌, Some, refl}
use Rattle.mon_report.specs.declared.line.Line.TheVariants.{Watch}
use Rattle.mon_world.specs.declared.event.Event.TheVariants.{Answer, Tick}
use Rattle.mon_world.specs.declared.event.Kind.TheVariants as kind
use Rattle.mon_world.specs.declared.event.Note.TheVariants.{Offer, Verdict, Probe, Report}
use Rattle.mon_world.specs.declared.history.Entry.TheVariants.{Given, Noted}
use Rattle.mon_legal.specs.Moments.{Moment}
use Rattle.mon_legal.specs.Moments.Moment.{Is, Went}
use Rattle.mon_report.specs.declared.line.WatchWhat.TheVariants as watch_what
use Rattle.mon_shows.specs.declared.target.Target.TheVariants as target
use Rattle.mon_shows.specs.Separation.{separates}
use Rattle.mon_legal.specs.Runs.{Run}
use Rattle.mon_legal.specs.Targets.{target_of_job}
use Rattle.mon_legal.specs.Sessions.{part, view}
use Rattle.mon_legal.specs.Edits.{expected}
use Rattle.mon_legal.specs.Datapaths.{catching}
use Rattle.mon_legal.specs.Messages.{header_of_probe}
use Rattle.mon_legal.specs.Ordering.{next}
use Rattle.mon_legal.specs.Ordering.Next.{Nothing}
use Rattle.mon_legal.specs.Passing.{FramesGoInOrder}
use Rattle.mon_legal.specs.Story.{run, emission, rule_of_add, probe_out, confirmed, comes}
use Rattle.mon_legal.proofs.Samples.{out_2, in_2}
use Rattle.mon_legal.proofs.Computed.{computed, compared}

abbrev pub run_watched : Run
run_watched = record run { watch_ticks = 1 }

abbrev pub spelled_match : List ℕ
spelled_match = 0 ∷ 50 ∷ 32 ∷ 239 ∷ 0 ∷ 0 ∷ 0 ∷ 0 ∷ 0 ∷ 0 ∷ 0 ∷ 0 ∷ 0 ∷ 0 ∷ 0 ∷ 0 ∷ 0 ∷ 0 ∷ 0 ∷ 0 ∷ 0 ∷ 0 ∷ 8 ∷ 0 ∷ 0 ∷ 0 ∷ 0 ∷ 0 ∷ 0 ∷ 0 ∷ 0 ∷ 0 ∷ 10 ∷ 0 ∷ 0 ∷ 0 ∷ 0 ∷ 0 ∷ 0 ∷ 0 ∷ []

-- a tick, and the job of the watch is answered by a probe
abbrev pub noted : List Moment
noted = Is (Noted (Probe 2 2 emission)) ∷ Is (Noted (Verdict 2 kind.Probe)) ∷ Is (Given (Answer 0)) ∷ Is (Noted (Offer 2 0 0 4)) ∷ Is (Given Tick) ∷ confirmed

abbrev pub row : List Moment
row = Is (Noted (Report (Watch 0 spelled_match 100 (Some 2) watch_what.Seen))) ∷ comes 2 in_2 (Went 0 2 1 out_2 false ∷ noted)

until_confirmed : FramesGoInOrder run_watched confirmed
unfolding computed
until_confirmed = (tt, (false, refl), (tt, refl, (tt, refl, (tt, refl, (refl, refl, (tt, (1, probe_out, false, refl), (tt, (emission, refl), (refl, refl, (refl, refl, (tt, refl, (refl, refl, (tt, refl, (tt, (false, refl), (tt, refl, (tt, refl, (tt, refl, (tt, (false, refl), (tt, refl, (tt, refl, (tt, refl, (refl, refl, (tt, refl, (tt, refl, (refl, refl, (tt, refl, (tt, refl, (refl, refl, (tt, refl, (tt, refl, (refl, refl, (tt, (false, refl), (tt, (false, refl), (tt, (false, refl), (tt, (false, refl), (tt, (false, refl), (tt, refl, (refl, refl, (tt, (false, refl), (tt, (false, refl), (tt, (false, refl), (tt, (false, refl), (tt, (false, refl), (tt, refl, (refl, refl, (tt, (false, refl), (tt, (false, refl), (tt, (false, refl), (tt, (false, refl), (tt, (false, refl), (tt, refl, (refl, refl, (tt, (false, refl), (tt, (false, refl), (tt, refl, (refl, refl, (tt, (false, refl), (tt, (false, refl), (tt, refl, (refl, refl, (tt, (false, refl), (tt, (false, refl), (tt, refl, (refl, refl, (refl, refl, (refl, refl, (refl, refl, tt))))))))))))))))))))))))))))))))))))))))))))))))))))))))))))))))))

stands : FramesGoInOrder run_watched row
unfolding computed
stands = (tt, refl, (tt, refl, (refl, refl, (tt, (1, out_2, false, refl), (tt, (emission, refl), (refl, refl, (refl, refl, (tt, refl, (refl, refl, until_confirmed)))))))))

ended : next run_watched row ≡ Nothing
unfolding computed
ended = refl

is_asked : target_of_job run_watched (view run_watched 0 noted) (part run_watched 0 noted) 0 ≡ Some (target.Watch rule_of_add)
unfolding computed
is_asked = refl

separating : separates (view run_watched 0 noted) (expected (catching run_watched (part run_watched 0 noted)) (part run_watched 0 noted)) (target.Watch rule_of_add) (header_of_probe out_2 emission) emission ≡ true
unfolding compared
separating = refl
