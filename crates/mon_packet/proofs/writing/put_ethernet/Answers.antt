use Rattle.std.proofs.Common.{rules}
use Rattle.mon_packet.proofs.Fitting.{class-parts, tag-fits}
use Rattle.mon_packet.proofs.writing.put_ethernet.Goals as goal

pub untagged-requires-clause-src : goal.untagged-requires-clause-src
untagged-requires-clause-src c = (class-parts c.args.h.now (search rules)).1.range.dl_src

pub untagged-requires-clause-dst : goal.untagged-requires-clause-dst
untagged-requires-clause-dst c = (class-parts c.args.h.now (search rules)).1.range.dl_dst

pub tagged-requires-clause-src : goal.tagged-requires-clause-src
tagged-requires-clause-src c = (class-parts c.args.h.now (search rules)).1.range.dl_src

pub tagged-requires-clause-dst : goal.tagged-requires-clause-dst
tagged-requires-clause-dst c = (class-parts c.args.h.now (search rules)).1.range.dl_dst

pub tagged-requires-clause-vlan : goal.tagged-requires-clause-vlan
tagged-requires-clause-vlan c = (tag-fits c.args.h.now (class-parts c.args.h.now (search rules)).1.tag c.if-h.false).vlan

pub tagged-requires-clause-pcp : goal.tagged-requires-clause-pcp
tagged-requires-clause-pcp c = (tag-fits c.args.h.now (class-parts c.args.h.now (search rules)).1.tag c.if-h.false).pcp
