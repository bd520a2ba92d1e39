use Rattle.mon_session.proofs.Lengths.{packet_short}
use Rattle.mon_session.proofs.verdicts.probe_frame.Goals as goal

pub packet_out-requires : goal.packet_out-requires
packet_out-requires c =
    packet_short c.args.header.now (record { key = c.args.key; serial = c.args.serial }) c.deref.result.now c.in_ok-packet.packet.items
    c.deref.ensures.value c.in_ok-packet.ensures
