use Rattle.mon_packet.proofs.Summing.{sum-step}
use Rattle.mon_packet.proofs.sums.+sum_from.Goals as goal

pub returns-in-len2-up : goal.returns-in-len2-up
returns-in-len2-up t c =
    sum-step c.args.sum c.args.bytes.now _ _ _ _ c.in-len2-up.len_at_least c.sum_from.ensures c.plus-in-len2-up.ensures
    c.from-in-len2-up.ensures c.from-in-len2-up-2.ensures
