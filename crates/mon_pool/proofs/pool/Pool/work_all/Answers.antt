use denote.Param.Send.{sendable}
use Rattle.std.proofs.Crossing.{crosses}
use Rattle.mon_pool.proofs.Crossing.{pass_send, pool_sync}
use Rattle.mon_pool.proofs.pool.Pool.work_all.Goals as goal

pub for_each_mut-requires-send-T : goal.for_each_mut-requires-send-T
for_each_mut-requires-send-T g c κs within = search (sendable, pass_send) depth 20

pub for_each_mut-requires-sync-F : goal.for_each_mut-requires-sync-F
for_each_mut-requires-sync-F g c κs within =
    let r = c.type_bounds.sync-R in
    let t = c.type_bounds.sync-G in
    search (sendable, crosses, pool_sync) depth 20
