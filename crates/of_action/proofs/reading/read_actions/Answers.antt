use Rattle.std.proofs.Common.{◌-◌, length, take, drop, sym, ◌∙◌, arith}
use Rattle.std.proofs.lemmas.List.{take_rest, length-take}
use Rattle.of_action.proofs.Front.{front}
use Rattle.of_action.proofs.Loop.{goes_on}
use Rattle.of_action.proofs.reading.read_actions.Goals as goal

pub u16_at-requires : goal.u16_at-requires
u16_at-requires c = let f = front _ (sym c.if-is_faulty.ensures) in omega (arith, f.least, f.within)

pub slice_bounds-read_action-end : goal.slice_bounds-read_action-end
slice_bounds-read_action-end c =
    let rest = take (length c.args.bytes.now - c.loop-place.place) (drop c.loop-place.place c.args.bytes.now) in
    let f = front rest (sym c.if-is_faulty.ensures) in
    omega (arith, f.within, c.from-len.ensures ∙ c.u16_at.ensures, length-take c.from-len.result rest)

pub read_action-requires : goal.read_action-requires
read_action-requires c = rw (c.from-len.ensures ∙ c.u16_at.ensures) (front _ (sym c.if-is_faulty.ensures)).action

pub loop-place-smaller : goal.loop-place-smaller
loop-place-smaller c =
    let f = front _ (sym c.if-is_faulty.ensures) in
    omega (arith, f.least, c.from-len.ensures ∙ c.u16_at.ensures)

pub loop-place-preserved : goal.loop-place-preserved
loop-place-preserved c =
    let bytes = c.args.bytes.now in
    let f = front _ (sym c.if-is_faulty.ensures) in
    record {
      within = omega (arith, f.within, c.from-len.ensures ∙ c.u16_at.ensures);
      told = goes_on c.loop-place.actions c.push.new.self c.in_ok-action.action c.loop-place.place c.from-len.result _ bytes _
          (take_rest bytes c.loop-place.place) (sym c.if-is_faulty.ensures) (c.from-len.ensures ∙ c.u16_at.ensures) c.in_ok-action.ensures.value c.in_ok-push.ensures.pushed
          c.loop-place.invariant.told;
    }
