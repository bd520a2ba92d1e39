use denote.Param.Send.{sendable}
use Rattle.std.proofs.Crossing.{crosses}
use Rattle.mon_pool.proofs.Crossing.{pass_send, pool_sync}
use Rattle.mon_pool.proofs.tests.two_beside.Goals as goal

pub join_mut-came-requires-send-F : goal.join_mut-came-requires-send-F
join_mut-came-requires-send-F g c κs within = let r = c.type_bounds.sync-R in search (sendable, crosses, pass_send, pool_sync) depth 20
