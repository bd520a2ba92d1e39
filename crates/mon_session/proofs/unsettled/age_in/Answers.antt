use Rattle.std.proofs.Common.{arith, ◌≡◌, ◌<◌, ◌∙◌, length, ap}
use Rattle.mon_legal.specs.Edits.{older, Passed}
use Rattle.mon_session.proofs.Maps.{mapped_more, as_long}
use Rattle.mon_session.proofs.Passings.{falls_set}
use Rattle.mon_session.proofs.unsettled.age_in.Goals as goal

pub returns-in_err-age-clause-falls : goal.returns-in_err-age-clause-falls
returns-in_err-age-clause-falls c = λ n f.
    let long : length c.loop-place.edits.items ≡ length c.args.edits.now.items =
    as_long older c.loop-place.edits.items c.args.edits.now.items c.loop-place.place c.loop-place.invariant.later in
    let less : c.loop-place.place < length c.loop-place.edits.items = omega arith in
    falls_set n c.loop-place.edits.items c.loop-place.place c.index_mut.result.now c.age.new.self (c.loop-place.invariant.falls n f) less
    (c.age.ensures.number ∙ ap (λ (p : Passed). p.number) c.index_mut.ensures.value) c.age.ensures.unsettled

pub loop-place-preserved : goal.loop-place-preserved
loop-place-preserved c =
    let first : c.loop-place.place < length c.args.edits.now.items = omega arith in
    let long : length c.loop-place.edits.items ≡ length c.args.edits.now.items =
    as_long older c.loop-place.edits.items c.args.edits.now.items c.loop-place.place c.loop-place.invariant.later in
    let less : c.loop-place.place < length c.loop-place.edits.items = omega arith in
    record {
      later = mapped_more older _ _ _ _ _ c.loop-place.invariant.later first (c.in_ok-age.ensures.later ∙ ap older c.index_mut.ensures.value);
      falls = λ n f. falls_set n c.loop-place.edits.items c.loop-place.place c.index_mut.result.now c.age.new.self (c.loop-place.invariant.falls n f) less
          (c.age.ensures.number ∙ ap (λ (p : Passed). p.number) c.index_mut.ensures.value) c.age.ensures.unsettled;
    }
