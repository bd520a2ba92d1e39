use Rattle.std.proofs.Common.{◌≤◌, length, drop, ap, arith}
use Rattle.std.proofs.lemmas.List.{drop_all}
use Rattle.mon_core.proofs.Arming.{all-seen}
use Rattle.mon_core.proofs.sessions.Core.armed.Goals as goal

pub returns : goal.returns
returns c =
    let past : length c.args.self.now ≤ c.loop-number.number = omega (arith, ap length c.self.view_is, ap length c.deref-session-items.ensures.value) in
    all-seen c.args.self.now (drop c.loop-number.number c.args.self.now) c.loop-number.number c.loop-number.ahead c.args.place
    (drop_all c.loop-number.number c.args.self.now past) c.loop-number.invariant
