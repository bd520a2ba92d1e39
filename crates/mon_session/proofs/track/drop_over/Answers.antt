use Rattle.std.proofs.Common.{arith, ◌≡◌, ◌≤◌, ◌∙◌, length, true, ap, sym, subst}
use Rattle.std.specs.Prelude.{not}
use Rattle.mon_legal.specs.Probes.{Live}
use Rattle.mon_session.specs.Tracks.{is_over}
use Rattle.mon_session.proofs.Maps.{kept_before}
use Rattle.mon_session.proofs.track.drop_over.Goals as goal

pub loop-place-preserved : goal.loop-place-preserved
loop-place-preserved c =
    let le : c.loop-place.place ≤ length c.args.live.now.items = omega arith in
    let stays : not (is_over c.args.retry c.args.version c.args.reported c.index.result.now) ≡ true = ap not (sym c.is_over.ensures ∙ c.if-is_over.false) in
    kept_before (λ (l : Live). not (is_over c.args.retry c.args.version c.args.reported l)) c.loop-place.live.items c.args.live.now.items c.loop-place.place
    c.index.result.now c.loop-place-test.true le c.loop-place.invariant
    (subst (λ (l : Live). not (is_over c.args.retry c.args.version c.args.reported l) ≡ true) c.index.ensures stays)
