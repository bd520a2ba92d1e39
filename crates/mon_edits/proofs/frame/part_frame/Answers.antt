use Rattle.std.proofs.Common.{◌∙◌}
use Rattle.std.proofs.lemmas.Result.{IfOk-weaker}
use Rattle.mon_edits.proofs.Parts.{part-frame}
use Rattle.mon_edits.proofs.frame.part_frame.Goals as goal

pub returns : goal.returns
returns c = IfOk-weaker c.write_flow_mod.result _ _ (λ frame e. e ∙ part-frame c.args.m.now c.in_ok-part.part c.args.e.now c.args.first c.in_ok-part.ensures) c.write_flow_mod.ensures.bytes
