use Rattle.std.proofs.Common.{◌∙◌, subst}
use Rattle.std.proofs.lemmas.Result.{IfOk-weaker}
use Rattle.mon_edits.specs.Frames.{IsFlagged}
use Rattle.mon_edits.proofs.Parts.{flagged-frame}
use Rattle.mon_edits.proofs.frame.flagged_frame.Goals as goal

pub returns : goal.returns
returns c =
    IfOk-weaker c.write_flow_mod.result _ _ (λ frame e. e ∙ flagged-frame c.args.m.now c.in_ok-part.part c.args.e.now
    (subst (λ f. IsFlagged c.args.m.now f c.in_ok-part.part) c.flags_for.ensures c.in_ok-part.ensures)) c.write_flow_mod.ensures.bytes
