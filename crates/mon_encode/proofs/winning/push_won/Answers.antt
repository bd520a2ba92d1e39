use Rattle.std.proofs.Common.{ℕ, get_or, sym, ◌∙◌, subst, ap, Some}
use Rattle.std.proofs.lemmas.Option.{slice_get-get_or}
use Rattle.mon_cnf.specs.Truth.{Within}
use Rattle.mon_literals.specs.Patterns.{pattern_of}
use Rattle.mon_encode.proofs.Pushing.{pattern-fits, on-ok, won-pushed}
use Rattle.mon_encode.proofs.winning.push_won.Goals as goal

pub push_alone-requires : goal.push_alone-requires
push_alone-requires c =
    subst (Within c.args.f.now.vars) (sym (c.items.ensures ∙ c.in_ok-pattern.ensures)) (pattern-fits c.args.f.now.vars c.matching.result.now c.requires.vars)

pub returns-clause-pushed : goal.returns-clause-pushed
returns-clause-pushed c =
    on-ok c.push_beaten.result _ _
    (won-pushed c.args.f.now c.push_alone.new.f c.push_beaten.new.f c.args.winner c.rank.result c.rule-rule.result c.items.result.now c.args.t.now
    (slice_get-get_or c.args.t.now c.args.winner c.rule-rule.result c.requires.within ∙ ap Some (ap (λ (k : ℕ). get_or c.args.t.now k c.rule-rule.result) (sym c.from.ensures) ∙ sym c.rule-rule.ensures))
    (c.items.ensures ∙ (c.in_ok-pattern.ensures ∙ ap pattern_of c.matching.ensures)) c.rank.ensures c.in_ok-push_alone.ensures.pushed)
    c.push_beaten.ensures.pushed
