use Rattle.std.proofs.Common.{◌<◌, ◌≤◌, length, refl, arith}
use Rattle.mon_session.proofs.Armings.{frames_at, frames_end}
use Rattle.mon_session.proofs.arming.opening_frames.Goals as goal

pub loop-other-preserved : goal.loop-other-preserved
loop-other-preserved c =
    let less : c.loop-other.other-index < length c.args.in_use.now = omega arith in
    frames_at c.args.tag c.loop-other.other-index _ 0 c.args.in_use.now c.loop-other.frames c.push_other.new.frames _ less refl c.in_ok-push_other.ensures c.loop-other.invariant

pub returns : goal.returns
returns c =
    let all : length c.args.in_use.now ≤ c.loop-other.other-index = omega arith in
    frames_end c.args.tag c.loop-other.other-index c.args.in_use.now c.loop-other.frames _ all c.loop-other.invariant
