use Rattle.std.proofs.Common.{sym, subst, ◌∙◌, arith}
use Rattle.mon_plan.specs.Sharing.{AreShares}
use Rattle.mon_plan.proofs.Sharing.{found-all}
use Rattle.mon_plan.proofs.plan.planned.Goals as goal

pub returns : goal.returns
returns g c =
    let v = c.args.v.now in
    let t = c.args.t.now in
    let count = c.in_ok-all_found.ensures.count ∙ sym c.in_ok-shares.shares.ok.0 ∙ c.in_ok-shares.ensures.len in
    let found = found-all v t c.args.workers c.in_ok-shares.shares.items
    (λ i d lt. (c.in_ok-shares.ensures.each i d (omega (arith, lt, c.in_ok-shares.shares.ok.0, c.in_ok-shares.ensures.len))).1.met) in
    c.in_order.ensures v t c.len.ensures.value (omega (arith, count, c.requires))
    (subst (λ n. AreShares v t n 0 t c.in_ok-all_found.field-0.items) (sym count) (c.in_ok-all_found.ensures.shares v t c.args.workers found))
