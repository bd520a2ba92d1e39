use Rattle.std.proofs.Common.{sym, ◌∙◌, arith}
use Rattle.mon_packet.proofs.Fitting.{Whole, ipv4-whole}
use Rattle.mon_packet.proofs.reading.packet_of.Goals as goal

pub u16_at-requires : goal.u16_at-requires
u16_at-requires c =
    let w : Whole c.args.packet.now = ipv4-whole c.args.packet.now (sym c.is_ipv4.ensures ∙ c.if-not-is_ipv4.false) in
    omega arith

pub whole_packet-requires-clause-header : goal.whole_packet-requires-clause-header
whole_packet-requires-clause-header c =
    let w : Whole c.args.packet.now = ipv4-whole c.args.packet.now (sym c.is_ipv4.ensures ∙ c.if-not-is_ipv4.false) in
    omega (arith, c.u16_at.ensures, c.from.ensures)

pub whole_packet-requires-clause-within : goal.whole_packet-requires-clause-within
whole_packet-requires-clause-within c =
    let w : Whole c.args.packet.now = ipv4-whole c.args.packet.now (sym c.is_ipv4.ensures ∙ c.if-not-is_ipv4.false) in
    omega (arith, c.u16_at.ensures, c.from.ensures)
