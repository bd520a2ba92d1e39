use Rattle.std.proofs.Common.{take}
use Rattle.mon_cdcl.specs.Seen.{Noted}
use Rattle.mon_cdcl.proofs.seen.Seen.note.Given as goal

abbrev pub invariant-loop-literal : goal.invariant-loop-literal
invariant-loop-literal l = Noted l.fn.self.flags.items l.fn.self.vars.items (take l.literal-index l.clause) l.but l.self.flags.items l.self.vars.items
