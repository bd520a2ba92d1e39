use Rattle.std.proofs.Common.{subst, sym, length}
use Rattle.mon_cnf.specs.Truth.{Within}
use Rattle.mon_cdcl.proofs.Steps.{grown_none}
use Rattle.mon_cdcl.proofs.Searching.{within_marks, grown_unit}
use Rattle.mon_cdcl.proofs.propagate.look_again.Goals as goal

pub look_at-requires : goal.look_at-requires
look_at-requires c =
    subst (λ ms. Within (length ms) c.in-Some.clause.now) (sym c.deref-2.ensures.value)
    (within_marks c.args.f.now c.args.log.now c.args.trail.now.entries.items c.args.trail.now.marks.items c.in-Some.clause.now c.requires (c.in-Some.ensures.within c.requires.follow))

pub returns-in-Unit : goal.returns-in-Unit
returns-in-Unit c =
    grown_unit c.args.f.now c.args.log.now c.args.trail.now c.args.trail.now c.enter.new.self c.in-Unit.literal c.args.watch.clause c.in-Some.clause.now c.deref-2.result.now (grown_none c.args.f.now c.args.log.now c.args.trail.now c.requires)
    c.in-Some.ensures.named c.deref-2.ensures.value c.in-Unit.ensures c.in_ok-enter-in-Unit.ensures.0 c.in_ok-enter-in-Unit.ensures.1
