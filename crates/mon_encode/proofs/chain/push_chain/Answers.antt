use Rattle.std.proofs.Common.{◌≡◌, ◌+◌, ◌++◌, ◌∷◌, [], false, length, drop, sym, subst, ap, ◌∙◌, arith, add-one}
use Rattle.mon_cnf.specs.declared.clause.Lit.{Lit}
use Rattle.mon_cnf.specs.Truth.{Within}
use Rattle.mon_literals.specs.Patterns.{pattern_of}
use Rattle.mon_encode.specs.Clauses.{true_at, sures, chain, listed}
use Rattle.mon_encode.proofs.Pushing.{pattern-fits, sures-more, chain-more}
use Rattle.mon_encode.proofs.chain.push_chain.Goals as goal

pub push_implied-requires-clause-within : goal.push_implied-requires-clause-within
push_implied-requires-clause-within c =
    subst (Within c.loop-place.f.vars) (sym (c.items.ensures ∙ c.in_ok-pattern.ensures))
    (pattern-fits c.loop-place.f.vars c.matching.result.now (let v = c.loop-place.invariant.vars in omega arith))

pub loop-place-preserved : goal.loop-place-preserved
loop-place-preserved c =
    let i = c.loop-place.invariant in
    let u = c.args.u.now in
    let n = c.loop-place.place in
    let r = c.rule-rule.result in
    let sure : r.unsure ≡ false = sym c.is_unsure.ensures ∙ c.if-is_unsure.false in
    let more : sures (drop n u) ≡ r ∷ sures (drop (n + 1) u) = sures-more u n r (omega arith) c.rule-rule.ensures sure in
    let long : length (sures (drop n u)) ≡ length (sures (drop (n + 1) u)) + 1 = ap length more ∙ sym (add-one (length (sures (drop (n + 1) u)))) in
    let room = i.room in
    let y : c.true_at.result ≡ true_at (c.loop-place.var + 1) = c.true_at.ensures in
    let v : (c.true_at.result).var ≡ c.loop-place.var + 1 = ap (λ (l : Lit). l.var) y in
    record {
      vars = c.push_link.ensures.vars ∙ (c.push_implied.ensures.vars ∙ i.vars);
      room = omega arith;
      within = (omega arith, tt);
      so_far =
          ap (λ (l : Lit). c.push_link.new.f.clauses ++ chain (c.loop-place.var + 2) (l ∷ []) (sures (drop (n + 1) u))) y
          ∙ chain-more c.loop-place.f c.push_implied.new.f c.push_link.new.f c.loop-place.var n (listed c.loop-place.earlier) c.items.result.now u r _ (omega arith) c.rule-rule.ensures sure
          (c.items.ensures ∙ (c.in_ok-pattern.ensures ∙ ap pattern_of c.matching.ensures)) c.in_ok-push_implied.ensures.pushed c.in_ok-push_link.ensures.pushed i.so_far;
    }
