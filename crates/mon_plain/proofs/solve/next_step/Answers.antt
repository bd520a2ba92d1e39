use Rattle.mon_refute.specs.Follow.{literals_of}
use Rattle.mon_plain.proofs.Backing.{stands_length}
use Rattle.mon_plain.proofs.Stepping.{step_enter, step_forced, step_refuted}
use Rattle.mon_plain.proofs.solve.next_step.Goals as goal

pub pick_next-requires : goal.pick_next-requires
pick_next-requires c = stands_length c.args.f.now c.args.log.now.items c.args.trail.now.items c.args.marks.now c.requires

pub returns-in-Done : goal.returns-in-Done
returns-in-Done c = (stands_length c.args.f.now c.args.log.now.items c.args.trail.now.items c.args.marks.now c.requires, c.in-Done.ensures (literals_of c.args.log.now.items))

pub returns-in-Enter : goal.returns-in-Enter
returns-in-Enter c = step_enter c.args.f.now c.args.log.now.items c.args.trail.now.items c.args.marks.now c.in-Enter.entry c.requires (c.in-Enter.ensures (literals_of c.args.log.now.items))

pub returns-in-Refutes : goal.returns-in-Refutes
returns-in-Refutes c = step_refuted c.args.f.now c.args.trail.now.items c.back_up.new.log.items c.back_up.new.trail.items c.back_up.new.marks _ c.in-Refutes.number c.in_ok-number-in-Close.ensures c.in-Refutes.is

pub returns-in-Forces : goal.returns-in-Forces
returns-in-Forces c = step_forced c.args.f.now c.args.trail.now.items c.back_up.new.log.items c.back_up.new.trail.items c.back_up.new.marks _ c.in-Forces.entry c.in_ok-number-in-Close.ensures c.in-Forces.is
