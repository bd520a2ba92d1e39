use Rattle.std.proofs.Common.{ap, sym, ◌∙◌, Some}
use Rattle.std.specs.Prelude.{option_copied}
use Rattle.mon_table.specs.declared.rule.Rule.{Rule}
use Rattle.mon_table.specs.Rules.{identity, identity_of, same_identity}
use Rattle.mon_session.proofs.Removing.{found_at, found_none}
use Rattle.mon_session.proofs.removals.rule_at.Goals as goal

pub returns-in_err-place : goal.returns-in_err-place
returns-in_err-place c =
    ap option_copied c.from_residual.ensures
    ∙ sym (found_none (λ (r : Rule). same_identity (identity_of r) (identity c.args.m.now c.args.priority)) c.args.table.now (sym c.place.ensures ∙ c.in_err-place.was))

pub returns : goal.returns
returns c =
    ap (λ (r : Rule). Some r) c.rule.ensures
    ∙ sym (found_at (λ (r : Rule). same_identity (identity_of r) (identity c.args.m.now c.args.priority)) c.args.table.now c.in_ok-place.place c.rule.result.now
    (sym c.place.ensures ∙ c.in_ok-place.was))
