use Rattle.std.proofs.Common.{sym, ◌∙◌}
use Rattle.mon_packet.proofs.Arp.{arp_found}
use Rattle.mon_packet.proofs.reading.arp_of.Goals as goal

pub returns : goal.returns
returns c = arp_found c.args.e c.args.packet.now _ _ (sym c.is_arp.ensures ∙ c.if-not-is_arp.false) c.arp_fields.ensures c.nonce_of.ensures
