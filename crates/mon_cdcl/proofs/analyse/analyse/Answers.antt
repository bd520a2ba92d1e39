use Rattle.std.proofs.Common.{length}
use Rattle.mon_cdcl.proofs.Walks.{start_walking, start_within}
use Rattle.mon_cdcl.proofs.analyse.analyse.Goals as goal

pub note-requires : goal.note-requires
note-requires c =
    start_within c.args.f.now c.args.log.now c.args.trail.now.entries.items c.args.trail.now.marks.items c.args.conflict c.clause_at.result.now c.args.seen.now.flags.items c.clear.new.self.flags.items
    c.requires.stands c.requires.closed c.clause_at.ensures c.requires.sized c.clear.ensures.0

pub walk-requires : goal.walk-requires
walk-requires c =
    start_walking c.args.f.now c.args.log.now c.args.trail.now.entries.items c.args.trail.now.marks.items c.args.conflict c.clause_at.result.now (length c.args.seen.now.flags.items) c.clear.new.self.flags.items c.clear.new.self.vars.items c.vars.result
    c.note.new.self.flags.items c.note.new.self.vars.items c.args.hints.now c.push.new.self
    c.requires.stands c.requires.closed c.clause_at.ensures c.requires.sized c.clear.ensures.0 c.clear.ensures.1 c.vars.ensures c.in_ok-note.ensures c.requires.empty c.in_ok-push.ensures.pushed
