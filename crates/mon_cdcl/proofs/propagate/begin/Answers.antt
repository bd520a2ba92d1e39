use Rattle.std.proofs.Common.{subst, sym, length, ◌+◌}
use Rattle.mon_cnf.specs.Truth.{Within}
use Rattle.mon_cdcl.specs.Search.{Grown}
use Rattle.mon_cdcl.proofs.Searching.{within_marks, grown_unit}
use Rattle.mon_cdcl.proofs.propagate.begin.Goals as goal
use Rattle.mon_cdcl.proofs.propagate.begin.Goals.{in-Unit+in_ok-enter-in-Unit, in-On, in-Open}

pub look_at-requires : goal.look_at-requires
look_at-requires c =
    subst (λ ms. Within (length ms) c.in-Some.clause.now) (sym c.deref.ensures.value)
    (within_marks c.args.f.now c.args.log.now c.loop-place.trail.entries.items c.loop-place.trail.marks.items c.in-Some.clause.now c.loop-place.invariant.stands (c.in-Some.ensures.within c.loop-place.invariant.stands.follow))

pub loop-place-preserved : goal.loop-place-preserved
loop-place-preserved c =
    elim c.match-look_at.branch [
      | in-Unit+in_ok-enter-in-Unit w ↦ subst (λ t. Grown c.args.f.now c.args.log.now c.args.trail.now t) (sym w.trail-is)
          (grown_unit c.args.f.now c.args.log.now c.args.trail.now c.loop-place.trail w.enter.new.self w.in-Unit.literal (c.loop-place.place + 1) c.in-Some.clause.now c.deref.result.now c.loop-place.invariant c.in-Some.ensures.named
          c.deref.ensures.value w.in-Unit.ensures w.in_ok-enter-in-Unit.ensures.0 w.in_ok-enter-in-Unit.ensures.1)
      | in-On w ↦ subst (λ t. Grown c.args.f.now c.args.log.now c.args.trail.now t) (sym w.trail-is) c.loop-place.invariant
      | in-Open w ↦ subst (λ t. Grown c.args.f.now c.args.log.now c.args.trail.now t) (sym w.trail-is) c.loop-place.invariant
    ]
