use Rattle.std.proofs.Common.{◌∙◌, ◌∷◌, List, ap, rules}
use Rattle.mon_world.specs.Logs.{entry_of}
use Rattle.mon_trace.specs.Outputs.{Placed}
use Rattle.mon_trace.proofs.Decoding.{pushed}
use Rattle.mon_trace.proofs.outputs.Outputs.push.Goals as goal

pub invariant_of-self-2 : goal.invariant_of-self-2
invariant_of-self-2 c =
    let placed : Placed = record { after = c.args.after; number = c.args.number; entry = entry_of c.args.lost c.args.out.now } in
    let more = pushed c.extend_from_slice.new.self.items c.self.inside.text.items c.write_line.new.line.items c.self.inside.places.items c.push.new.self.items placed c.in_ok-place.place c.len.result (search rules) (search rules) c.in_ok-place.ensures.line c.in_ok-place.ensures.place (search rules) c.self.invariant.within c.self.invariant.printed in
    record { within = more.within; printed = more.printed }

pub returns-clause-pushed : goal.returns-clause-pushed
returns-clause-pushed c =
    let placed : Placed = record { after = c.args.after; number = c.args.number; entry = entry_of c.args.lost c.args.out.now } in
    let more = pushed c.extend_from_slice.new.self.items c.self.inside.text.items c.write_line.new.line.items c.self.inside.places.items c.push.new.self.items placed c.in_ok-place.place c.len.result (search rules) (search rules) c.in_ok-place.ensures.line c.in_ok-place.ensures.place (search rules) c.self.invariant.within c.self.invariant.printed in
    more.view ∙ ap (λ (outs : List Placed). placed ∷ outs) c.self.view_is
