use Rattle.std.proofs.Common.{◌≤◌, List, length, drop, map, filter, ap, arith}
use Rattle.std.proofs.lemmas.List.{drop_all}
use Rattle.mon_turns.specs.Core.{Connected, Cored, armed, is_armed, shown_of}
use Rattle.mon_turns.proofs.Shown.{all-seen}
use Rattle.mon_turns.proofs.sessions.Core.armed.Goals as goal

pub returns : goal.returns
returns c =
    let sessions = c.args.self.now.state.sessions in
    let past : length sessions ≤ c.loop-connection.connection-index =
    omega (arith, ap (λ (v : Cored). length v.state.sessions) c.self.view_is, ap length c.deref-connection-items.ensures.value) in
    all-seen (armed c.args.self.now.state) (map shown_of (filter is_armed (drop c.loop-connection.connection-index sessions))) c.loop-connection.ahead c.args.place
    (ap (λ (cs : List Connected). map shown_of (filter is_armed cs)) (drop_all c.loop-connection.connection-index sessions past)) c.loop-connection.invariant
