use Rattle.mon_refute.specs.Follow.{literals_of}
use Rattle.mon_trail.proofs.Popping.{stands_length}
use Rattle.mon_cdcl.proofs.Searching.{restarted, went_entered}
use Rattle.mon_cdcl.proofs.solver.go_on.Goals as goal

pub returns-then-is_due : goal.returns-then-is_due
returns-then-is_due c =
    restarted c.args.f.now c.args.log.now c.args.restarts.now.left c.is_due.new.self.left c.first_decision-len.result c.args.trail.now c.fall_back.new.trail c.in_ok-fall_back.ensures (c.is_due.ensures.due c.if-is_due.true)

pub decide-requires : goal.decide-requires
decide-requires c = stands_length c.args.f.now c.args.log.now c.args.trail.now.entries.items c.args.trail.now.marks.items c.requires

pub enter-requires : goal.enter-requires
enter-requires c = (c.in-Enter.ensures (literals_of c.args.log.now)).0.0

pub returns-in-Done : goal.returns-in-Done
returns-in-Done c = (stands_length c.args.f.now c.args.log.now c.args.trail.now.entries.items c.args.trail.now.marks.items c.requires, c.in-Done.ensures (literals_of c.args.log.now))

pub returns-in_ok-enter-in-Enter : goal.returns-in_ok-enter-in-Enter
returns-in_ok-enter-in-Enter c =
    went_entered c.args.f.now c.args.log.now c.args.restarts.now.left c.is_due.new.self.left c.args.trail.now c.enter.new.self c.in-Enter.entry c.requires (c.in-Enter.ensures (literals_of c.args.log.now))
    c.in_ok-enter-in-Enter.ensures.0 c.in_ok-enter-in-Enter.ensures.1 (c.is_due.ensures.same c.if-is_due.false)
