use Rattle.std.proofs.Common.{◌++◌, ◌∷◌, [], Bool, false, List, take, sym, ◌∙◌, ap, arith}
use Rattle.std.proofs.lemmas.List.{take_more, take_all}
use Rattle.mon_header.specs.Places.{header_bits}
use Rattle.mon_header.proofs.Spelling.{header-long}
use Rattle.mon_encode.proofs.decoding.bits_of.Goals as goal

pub loop-place-preserved : goal.loop-place-preserved
loop-place-preserved c =
    let bits = header_bits c.args.h.now in
    let n = header-long c.args.h.now in
    c.in_ok-push.ensures.pushed
    ∙ (ap (λ (bs : List Bool). bs ++ c.bit.result ∷ []) c.loop-place.invariant
    ∙ (ap (λ (b : Bool). take c.loop-place.place bits ++ b ∷ []) c.bit.ensures
    ∙ sym (take_more bits c.loop-place.place false (omega arith))))

pub returns : goal.returns
returns c =
    let n = header-long c.args.h.now in
    c.loop-place.invariant ∙ take_all c.loop-place.place (header_bits c.args.h.now) (omega arith)
