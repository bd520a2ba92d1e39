use Rattle.std.proofs.Common.{◌≡◌, true, Some, ap, sym, ◌∙◌}
use Rattle.mon_header.specs.Matching.{Matching}
use Rattle.std.specs.Prelude.{Option}
use Rattle.mon_legal.specs.Runs.{Run}
use Rattle.mon_legal.specs.Held.{may_if}
use Rattle.mon_session.specs.Walks.{Known}
use Rattle.mon_session.specs.Ordered.{awaited_in, output_of}
use Rattle.mon_session.specs.Outputs.{act_if}
use Rattle.mon_session.specs.Acting.{frames_due}
use Rattle.mon_session.proofs.Doing.{due_some, went_at}
use Rattle.mon_session.proofs.session.Session.go_on.Goals as goal

pub returns-clause-walk : goal.returns-clause-walk
returns-clause-walk c =
    let k : Known = c.args.self.now in
    let parts : c.self.inside.ordered.parts ≡ k.now.under_way = ap (λ (x : Known). x.now.under_way) c.self.view_is in
    let free : may_if (awaited_in k.now.under_way) k.now.unsettled ≡ true =
    sym (c.is_free.ensures ∙ ap (λ (m : Option Matching). may_if m k.now.unsettled) (c.awaited.ensures ∙ ap awaited_in parts)) ∙ c.if-not-is_free.false in
    let due : frames_due k.now ≡ act_if (Some c.in-Some.output) =
    due_some k.now c.requires.some free ∙ (ap output_of (sym parts) ∙ (sym c.in_ok-output.ensures.output ∙ ap act_if c.in-Some.is)) in
    λ (run : Run). went_at run k _ c.put_out.new.self c.next.new.self c.in-Some.output c.self.view_is c.in_ok-output.ensures.rest due (c.in_ok-put_out.ensures.walk run)
