use Rattle.std.proofs.Common.{ap, ◌∙◌, arith}
use Rattle.std.proofs.lemmas.List.{drop_all}
use Rattle.std.specs.Prelude.{option_map}
use Rattle.mon_plan.specs.Sharing.{IsPlanned}
use Rattle.mon_plan.proofs.Sharing.{next-count, next-shares, next-fits, never-ends, fits-whole}
use Rattle.mon_plan.proofs.plan.in_order.Goals as goal

pub returns-in_default : goal.returns-in_default
returns-in_default c = λ v t is some a.
    absurd (never-ends v t _ c.loop-place.place c.loop-place.shares.items (omega (arith, is, c.loop-place-test.true)) (omega (arith, some, c.loop-place.invariant.count))
    (c.loop-place.invariant.shares v t is a) (c.in_ok-certificate.ensures ∙ ap (option_map _) c.in_default.is))

pub loop-place-preserved : goal.loop-place-preserved
loop-place-preserved c =
    let next = c.in_ok-certificate.ensures ∙ ap (option_map _) c.in-Some.is in record {
      count = next-count _ _ _ next ∙ c.loop-place.invariant.count;
      shares = λ v t is a. next-shares v t _ c.loop-place.place _ _ _ (omega (arith, is, c.loop-place-test.true)) c.loop-place.invariant.count (c.loop-place.invariant.shares v t is a) next;
      fits = λ v t is a. next-fits v t _ c.loop-place.place _ _ _ _ _ (omega (arith, is, c.loop-place-test.true)) c.loop-place.invariant.count (c.loop-place.invariant.shares v t is a) next
          (c.loop-place.invariant.fits v t is a) c.in_ok-push.ensures.pushed;
    }

pub returns : goal.returns
returns c = λ v t is some a.
    fits-whole (IsPlanned v t) t _ _ (drop_all c.loop-place.place t (omega (arith, is, c.loop-place-test.false))) (c.loop-place.invariant.fits v t is a)
