use Rattle.std.proofs.Common.{subst, sym, arith, length}
use Rattle.mon_trail.proofs.Popping.{popped_within}
use Rattle.mon_cdcl.specs.Back.{FellBack}
use Rattle.mon_cdcl.proofs.Targets.{fell_pop, one_shorter}
use Rattle.mon_cdcl.proofs.backtrack.fall_back.Goals as goal

pub pop-requires : goal.pop-requires
pop-requires c = λ es e t. popped_within c.args.f.now c.args.log.now c.loop-trail.trail.entries.items es e c.loop-trail.trail.marks.items c.loop-trail.invariant.1.stands t

pub loop-trail-preserved : goal.loop-trail-preserved
loop-trail-preserved c =
    let f = c.args.f.now in
    let es = c.pop.new.self.entries.items in (
      one_shorter c.loop-trail.trail.entries.items es c.in-Some.entry c.args.len c.in-Some.ensures.1 (omega arith),
      subst (λ ms. FellBack f c.args.log.now c.args.trail.now.entries.items c.args.trail.now.marks.items es ms (length es)) (sym c.in-Some.ensures.0)
          (fell_pop f c.args.log.now c.args.trail.now.entries.items c.args.trail.now.marks.items c.loop-trail.trail.entries.items es c.in-Some.entry c.loop-trail.trail.marks.items _ c.loop-trail.invariant.1 c.in-Some.ensures.1),
    )
