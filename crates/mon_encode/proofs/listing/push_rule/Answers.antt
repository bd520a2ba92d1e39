use Rattle.std.proofs.Common.{length, Some, ◌∙◌, ap, arith}
use Rattle.mon_outcome.specs.Shaping.{shapes_of}
use Rattle.mon_encode.proofs.Casing.{position-more}
use Rattle.mon_encode.proofs.listing.push_rule.Goals as goal

pub loop-emission-preserved : goal.loop-emission-preserved
loop-emission-preserved c =
    let shapes = shapes_of c.args.rule.now.actions c.args.class c.args.in_port in
    let n = ap length (c.items-count.ensures ∙ c.in_ok-shapes.ensures.value) in
    position-more c.loop-emission.cases c.push.new.self c.args.class c.args.in_port (Some c.args.place) c.loop-emission.emission shapes _ (omega arith) c.in_ok-push.ensures.pushed c.loop-emission.invariant
