use Rattle.std.proofs.Common.{◌≤◌, length, sym, arith}
use Rattle.std.proofs.lemmas.List.{length-take-le, take_all}
use Rattle.mon_session.proofs.unsettled.front.Goals as goal

pub slice_bounds-result-end : goal.slice_bounds-result-end
slice_bounds-result-end c =
    let long : 64 ≤ length c.args.bytes.now = omega (arith, c.if-bytes-gt64.true) in
    sym (length-take-le 64 c.args.bytes.now long)

pub returns : goal.returns
returns c = sym (take_all 64 c.args.bytes.now c.if-bytes-gt64.false)
