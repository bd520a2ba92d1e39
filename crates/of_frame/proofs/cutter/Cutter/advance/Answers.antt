use Rattle.std.proofs.Common.{◌≡◌, ℕ, List, ◌++◌, length, ap, sym, subst, ◌∙◌, arith}
use Rattle.std.specs.Prelude.{take}
use Rattle.std.specs.Option.{option_to_list}
use Rattle.of_frame.specs.Cut.{Pending, IsPending, cut}
use Rattle.of_frame.proofs.Slices.{advance-step, whole-step}
use Rattle.of_frame.proofs.cutter.Cutter.advance.Goals as goal

pub returns-in-Some-clause-cut : goal.returns-in-Some-clause-cut
returns-in-Some-clause-cut c =
    let slice : c.deref.result.now ≡ c.args.self.now.rest = c.deref.ensures.value ∙ ap (λ (p : Pending). p.rest) c.self.view_is in
    whole-step c.args.self.now c.in-Some.length c.args.piece.now c.of_bytes.result (ap length (sym slice) ∙ c.in-Some.ensures.0) c.requires.open
    c.in-Some.ensures.1 (c.of_bytes.ensures ∙ c.in_ok-bytes.ensures.items)

-- what the step leads to, over the value as it was
stepped : (c : goal.After-judge-frame) → let q : Pending = record { rest = c.judge-frame.new.rest.items; fault = c.judge-frame.new.fault } in
    IsPending q × (cut c.args.self.now (take c.min-count.result c.args.piece.now) ≡ (q, option_to_list c.judge-frame.result))
stepped c =
    advance-step c.args.self.now c.deref-2.result.now c.args.piece.now c.wanted-missing.result c.min-count.result c.extend_from_slice.new.self.items _ c.judge-frame.result
    (subst IsPending c.self.view_is c.self.invariant) c.requires.open (c.deref-2.ensures.value ∙ ap (λ (p : Pending). p.rest) c.self.view_is)
    c.requires.some c.wanted-missing.ensures.some c.wanted-missing.ensures.header c.wanted-missing.ensures.frame
    (omega (arith, c.min-count.ensures)) (omega (arith, c.min-count.ensures)) (omega (arith, c.min-count.ensures, c.requires.some, c.wanted-missing.ensures.some))
    (c.in_ok-extend_from_slice.ensures.items ∙ ap (λ (xs : List ℕ). xs ++ take c.min-count.result c.args.piece.now) (c.in_ok-reserve_exact.ensures.items ∙ ap (λ (p : Pending). p.rest) c.self.view_is))
    c.judge-frame.ensures

pub invariant_of-self-2 : goal.invariant_of-self-2
invariant_of-self-2 c = (stepped c).0

pub returns-clause-cut : goal.returns-clause-cut
returns-clause-cut c = (stepped c).1
