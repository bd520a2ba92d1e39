use Rattle.std.proofs.Common.{sym, subst, ap, ◌∙◌}
use Rattle.mon_cdcl.specs.Back.{IsTarget}
use Rattle.mon_trail.proofs.Popping.{popped_within}
use Rattle.mon_cdcl.proofs.Walks.{walk_skip_as, walk_turn_as, walk_named, reason_flags_as, walk_resolve_as}
use Rattle.mon_cdcl.proofs.analyse.walk.Goals as goal

pub pop-requires : goal.pop-requires
pop-requires c = λ es e t. popped_within c.args.f.now c.args.log.now c.loop-entry.trail.entries.items es e c.loop-entry.trail.marks.items c.loop-entry.invariant.stands t

pub loop-entry-preserved-then-not-has : goal.loop-entry-preserved-then-not-has
loop-entry-preserved-then-not-has c =
    walk_skip_as c.args.f.now c.args.trail.now.entries.items c.args.log.now c.loop-entry.trail.entries.items c.pop.new.self.entries.items c.in-Some.entry c.loop-entry.trail.marks.items c.pop.new.self.marks.items
    c.loop-entry.seen.flags.items c.loop-entry.seen.vars.items c.loop-entry.hints c.loop-entry.invariant c.in-Some.ensures.1 (sym c.has.ensures ∙ c.if-not-has.true) c.in-Some.ensures.0

pub returns-in-Some-target : goal.returns-in-Some-target
returns-in-Some-target c =
    walk_turn_as c.args.f.now c.args.trail.now.entries.items c.args.log.now c.loop-entry.trail.entries.items c.pop.new.self.entries.items c.in-Some.entry c.loop-entry.trail.marks.items c.pop.new.self.marks.items
    c.loop-entry.seen.flags.items c.forget.new.self.flags.items c.loop-entry.seen.vars.items c.forget.new.self.vars.items c.loop-entry.hints c.opposite.result c.in-Some-target.len c.loop-entry.invariant c.in-Some.ensures.1 c.in-Some.ensures.0
    c.forget.ensures.0 (ap (λ v. v.items) c.forget.ensures.1) c.opposite.ensures (subst (λ es. IsTarget c.forget.new.self.flags.items es c.in-Some.entry c.in-Some-target.len) c.deref.ensures.value c.in-Some-target.ensures)

pub clause_at-requires : goal.clause_at-requires
clause_at-requires c =
    walk_named c.args.f.now c.args.trail.now.entries.items c.args.log.now c.loop-entry.trail.entries.items c.pop.new.self.entries.items c.in-Some.entry c.loop-entry.trail.marks.items
    c.loop-entry.seen.flags.items c.loop-entry.seen.vars.items c.loop-entry.hints c.in-Some-reason.reason c.loop-entry.invariant c.in-Some.ensures.1 c.in-Some-reason.is

pub note-requires : goal.note-requires
note-requires c =
    reason_flags_as c.args.f.now c.args.trail.now.entries.items c.args.log.now c.loop-entry.trail.entries.items c.pop.new.self.entries.items c.in-Some.entry c.loop-entry.trail.marks.items
    c.loop-entry.seen.flags.items c.forget.new.self.flags.items c.loop-entry.seen.vars.items c.loop-entry.hints c.in-Some-reason.reason c.clause_at.result.now c.loop-entry.invariant c.in-Some.ensures.1 c.in-Some-reason.is c.clause_at.ensures c.forget.ensures.0

pub loop-entry-preserved : goal.loop-entry-preserved
loop-entry-preserved c =
    walk_resolve_as c.args.f.now c.args.trail.now.entries.items c.args.log.now c.loop-entry.trail.entries.items c.pop.new.self.entries.items c.in-Some.entry c.loop-entry.trail.marks.items c.pop.new.self.marks.items
    c.loop-entry.seen.flags.items c.forget.new.self.flags.items c.note.new.self.flags.items c.loop-entry.seen.vars.items c.forget.new.self.vars.items c.note.new.self.vars.items c.loop-entry.hints c.push.new.self c.in-Some-reason.reason c.clause_at.result.now
    c.loop-entry.invariant c.in-Some.ensures.1 c.in-Some.ensures.0 c.forget.ensures.0 (ap (λ v. v.items) c.forget.ensures.1) c.in-Some-reason.is c.clause_at.ensures c.in_ok-note-in-Some-reason.ensures c.in_ok-push-in-Some-reason.ensures.pushed
