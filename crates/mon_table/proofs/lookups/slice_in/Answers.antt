use Rattle.std.proofs.Common.{◌∙◌, sym, ap}
use Rattle.mon_table.specs.Chunks.{part_rules}
use Rattle.mon_table.specs.Tables.{slice}
use Rattle.std.specs.Arc.{arc_value}
use Rattle.mon_table.proofs.Looking.{pushed-rules}
use Rattle.mon_table.proofs.lookups.slice_in.Goals as goal

pub returns-in_ok-push-in-Some-clause-rules : goal.returns-in_ok-push-in-Some-clause-rules
returns-in_ok-push-in-Some-clause-rules c =
    pushed-rules c.args.parts.now.items c.push.new.self.items c.in-Some.part (slice c.args.m.now (arc_value c.args.chunk.now)) c.in_ok-push-in-Some.ensures.items (ap part_rules (sym c.in-Some.is) ∙ c.in_ok-part.ensures.rules)
