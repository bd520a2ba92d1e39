use Rattle.std.proofs.Common.{◌∙◌, ◌≡◌, ◌++◌, sym, subst, Some}
use Rattle.mon_refute.specs.Follow.{named, literals_of}
use Rattle.mon_plain.proofs.Backing.{popped_within, back_skip, back_jump, back_resolve, reason_named}
use Rattle.mon_plain.proofs.back.back_up.Goals as goal

pub bounds-marks-var : goal.bounds-marks-var
bounds-marks-var c = popped_within c.args.f.now c.loop-entry.log.items c.loop-entry.trail.items c.pop.new.self.items c.in-Some.entry c.loop-entry.marks c.loop-entry.invariant.stands c.in-Some.ensures.items

pub loop-entry-preserved-then-not-mentions : goal.loop-entry-preserved-then-not-mentions
loop-entry-preserved-then-not-mentions c =
    back_skip c.args.f.now c.args.trail.now.items c.loop-entry.log.items c.loop-entry.trail.items c.pop.new.self.items c.in-Some.entry c.loop-entry.marks c.loop-entry.number c.clause_at.result.now c.loop-entry.invariant c.in-Some.ensures.items
    (subst (λ ls. named (c.args.f.now.clauses ++ literals_of ls) c.loop-entry.number ≡ Some c.clause_at.result.now) c.deref.ensures.value c.clause_at.ensures)
    (sym c.mentions.ensures ∙ c.if-not-mentions.true)

pub returns-in-None : goal.returns-in-None
returns-in-None c =
    back_jump c.args.f.now c.args.trail.now.items c.loop-entry.log.items c.loop-entry.trail.items c.pop.new.self.items c.in-Some.entry c.loop-entry.marks c.loop-entry.number c.clause_at.result.now c.loop-entry.invariant c.in-Some.ensures.items
    (subst (λ ls. named (c.args.f.now.clauses ++ literals_of ls) c.loop-entry.number ≡ Some c.clause_at.result.now) c.deref.ensures.value c.clause_at.ensures)
    (sym c.mentions.ensures ∙ c.if-not-mentions.false) c.in-None.is

pub add_resolvent-requires-clause-one : goal.add_resolvent-requires-clause-one
add_resolvent-requires-clause-one c =
    reason_named c.args.f.now c.loop-entry.log.items c.loop-entry.trail.items c.pop.new.self.items c.in-Some.entry c.loop-entry.marks c.in-Some-reason.reason c.loop-entry.invariant.stands c.in-Some.ensures.items c.in-Some-reason.is

pub loop-entry-preserved : goal.loop-entry-preserved
loop-entry-preserved c =
    back_resolve c.args.f.now c.args.trail.now.items c.loop-entry.log.items c.add_resolvent.new.log.items c.loop-entry.trail.items c.pop.new.self.items c.in-Some.entry c.loop-entry.marks c.loop-entry.number c.in-Some-reason.reason _ c.loop-entry.invariant c.in-Some.ensures.items
    c.in-Some-reason.is c.in_ok-number-in-Some-reason.ensures
