use Rattle.std.proofs.Common.{◌≡◌, ◌+◌, ◌*◌, [], ◌∷◌, List, length, take, true, false, sym, ap, ◌∙◌, subst, arith, length-append}
use Rattle.mon_cnf.specs.Truth.{Within}
use Rattle.mon_table.specs.declared.rule.Rule.{Rule}
use Rattle.mon_table.specs.Rules.{rank}
use Rattle.mon_literals.proofs.Reaching.{both_within}
use Rattle.mon_encode.specs.Clauses.{true_at, unmatched, sures, listed}
use Rattle.mon_encode.proofs.Above.{Told, above-fits, place-above, told-next, sures-grown, sures-same, sures-room}
use Rattle.mon_encode.proofs.Pushing.{unmatched-fits, hidden-more}
use Rattle.mon_encode.proofs.hidden.push_hidden.Goals as goal

pub push_or_hidden-requires-clause-within : goal.push_or_hidden-requires-clause-within
push_or_hidden-requires-clause-within c =
    let i = c.loop-place.invariant in
    let v = i.vars in
    let n = c.requires in
    let r = c.rule-rule.result in
    let h = place-above c.args.u.now c.loop-place.place c.loop-place.before c.rank-own.result c.loop-place.above c.loop-place.last c.higher-hider.result r c.keeps-2.ensures.table.order (omega arith) c.rule-rule.ensures i.told c.rank-own.ensures c.higher-hider.ensures in
    subst (Within c.loop-place.f.vars) (sym c.in_ok-base.ensures)
    (both_within c.loop-place.f.vars (unmatched r) (listed c.higher-hider.result)
    (unmatched-fits c.loop-place.f.vars r (omega arith))
    (subst (Within c.loop-place.f.vars) h (above-fits c.loop-place.f.vars 264 [] (rank r) (sures c.args.u.now) tt (omega arith))))

pub loop-place-preserved-then-is_unsure : goal.loop-place-preserved-then-is_unsure
loop-place-preserved-then-is_unsure c =
    let i = c.loop-place.invariant in
    let u = c.args.u.now in
    let n = c.loop-place.place in
    let r = c.rule-rule.result in
    let unsure : r.unsure ≡ true = sym c.is_unsure.ensures ∙ c.if-is_unsure.true in
    let h = place-above u n c.loop-place.before c.rank-own.result c.loop-place.above c.loop-place.last c.higher-hider.result r c.keeps-2.ensures.table.order (omega arith) c.rule-rule.ensures i.told c.rank-own.ensures c.higher-hider.ensures in
    let same : sures (take (n + 1) u) ≡ sures (take n u) = sures-same u n r (omega arith) c.rule-rule.ensures unsure in
    record {
      vars = c.push_or_hidden.ensures.vars ∙ i.vars;
      var = i.var ∙ sym (ap (λ (s : List Rule). 264 + 2 * length s) same);
      told = subst (λ (s : List Rule). Told s c.loop-place.before (listed c.loop-place.above) (listed c.loop-place.last)) (sym same) i.told;
      so_far = hidden-more c.loop-place.f c.push_or_hidden.new.f c.args.class c.args.in_port c.args.shape n c.in_ok-base.base (listed c.higher-hider.result) (sures u) u r _ (omega arith) c.rule-rule.ensures c.in_ok-base.ensures h
          c.in_ok-push_or_hidden.ensures.pushed i.so_far;
    }

pub overflow_add-var-in-loop-place : goal.overflow_add-var-in-loop-place
overflow_add-var-in-loop-place c =
    let i = c.loop-place.invariant in
    let v = i.vars in
    let w = i.var in
    let n = c.requires in
    let room = sures-room c.args.u.now c.loop-place.place c.rule-rule.result (omega arith) c.rule-rule.ensures (sym c.is_unsure.ensures ∙ c.if-is_unsure.false) in
    omega arith

pub loop-place-preserved : goal.loop-place-preserved
loop-place-preserved c =
    let i = c.loop-place.invariant in
    let u = c.args.u.now in
    let n = c.loop-place.place in
    let r = c.rule-rule.result in
    let sure : r.unsure ≡ false = sym c.is_unsure.ensures ∙ c.if-is_unsure.false in
    let h = place-above u n c.loop-place.before c.rank-own.result c.loop-place.above c.loop-place.last c.higher-hider.result r c.keeps-2.ensures.table.order (omega arith) c.rule-rule.ensures i.told c.rank-own.ensures c.higher-hider.ensures in
    let grown = ap length (sures-grown u n r (omega arith) c.rule-rule.ensures sure) ∙ length-append (sures (take n u)) (r ∷ []) in
    let v = i.var in
    let m : c.loop-place.var + 1 ≡ 264 + 2 * length (sures (take n u)) + 1 = omega arith in
    record {
      vars = c.push_or_hidden.ensures.vars ∙ i.vars;
      var = omega arith;
      told = told-next u n c.loop-place.before c.rank-own.result c.loop-place.above c.loop-place.last c.higher-hider.result r c.true_at.result c.keeps-2.ensures.table.order (omega arith) c.rule-rule.ensures sure
          i.told c.rank-own.ensures c.higher-hider.ensures (c.true_at.ensures ∙ ap true_at m);
      so_far = hidden-more c.loop-place.f c.push_or_hidden.new.f c.args.class c.args.in_port c.args.shape n c.in_ok-base.base (listed c.higher-hider.result) (sures u) u r _ (omega arith) c.rule-rule.ensures c.in_ok-base.ensures h
          c.in_ok-push_or_hidden.ensures.pushed i.so_far;
    }
