use Rattle.std.proofs.Common.{◌≡◌, ◌∙◌, ◌+◌, List, ℕ, Some, length, ap, sym, subst, rules}
use Rattle.mon_world.specs.declared.event.Out.{Out}
use Rattle.mon_world.specs.declared.event.Out.TheVariants.{Send}
use Rattle.mon_world.specs.Logs.{entry_of}
use Rattle.mon_trace.specs.declared.outputs.Output.TheVariants.{Frame}
use Rattle.mon_text.specs.Hex.{hex, unhex}
use Rattle.mon_trace.specs.Run.{put_head, put_line}
use Rattle.mon_trace.specs.Outputs.{Placed, IsPlaceIn}
use Rattle.mon_trace.proofs.Decoding.{frame_placed}
use Rattle.mon_trace.proofs.outputs.write_line.Goals as goal

pub returns-in_ok-push_frame-in-Send-clause-place : goal.returns-in_ok-push_frame-in-Send-clause-place
returns-in_ok-push_frame-in-Send-clause-place c =
    let sent = c.in-Send in
    let size = c.size_of.result in
    let place = Frame sent.to c.args.lost size c.args.after c.args.number sent.session (c.args.before + c.len.result) in
    let head : c.push_head.new.line.items ≡ put_head c.args.number sent.session sent.to c.args.lost = search rules in
    let line : put_line c.args.number sent.session sent.to sent.frame c.args.lost ≡ c.push_frame.new.line.items = search rules in
    let start : c.args.before + c.len.result ≡ c.args.before + length (put_head c.args.number sent.session sent.to c.args.lost) = ap (λ (n : ℕ). c.args.before + n) (let sized : c.len.result ≡ length c.push_head.new.line.items = search rules in sized ∙ ap length head) in
    let says : unhex (hex sent.frame) ≡ Some sent.frame = subst (λ (xs : List ℕ). unhex (hex xs) ≡ Some xs) c.bytes.ensures.value c.in_ok-push_frame-in-Send.ensures.digits in
    let placed = frame_placed c.args.before c.args.after c.args.number sent.session sent.to c.args.lost sent.frame (c.args.before + c.len.result) size says start (c.size_of.ensures ∙ ap length c.bytes-in-Send.ensures.value) in
    subst (λ (out : Out). IsPlaceIn c.args.before c.push_frame.new.line.items (record { after = c.args.after; number = c.args.number; entry = entry_of c.args.lost out }) place) (sym sent.is)
    (subst (λ (line : List ℕ). IsPlaceIn c.args.before line (record { after = c.args.after; number = c.args.number; entry = entry_of c.args.lost (Send sent.session sent.to sent.frame) }) place) line placed)
