use Rattle.std.proofs.Common.{length}
use Rattle.mon_table_file.proofs.Linking.{LinksSoFar}
use Rattle.mon_table_file.proofs.sections.links_at.Given as goal

abbrev pub invariant-loop-near : goal.invariant-loop-near
invariant-loop-near l = LinksSoFar l.head.tag l.head.tags l.text l.links l.least l.rest

abbrev pub decreases-loop-near : goal.decreases-loop-near
decreases-loop-near l = length l.rest
