use Rattle.std.proofs.Common.{ℕ, List, get_or, sym, ◌∙◌, ap, Some}
use Rattle.std.proofs.lemmas.Option.{slice_get-get_or}
use Rattle.mon_header.specs.declared.action.Action.{Action}
use Rattle.mon_outcome.specs.Emitting.{emissions, emission_at}
use Rattle.mon_encode.proofs.Emitting.{some-given, none-given}
use Rattle.mon_encode.proofs.Bearing.{placed-within}
use Rattle.mon_encode.proofs.decoding.emission_of.Goals as goal

pub returns-in-Some-emission_at : goal.returns-in-Some-emission_at
returns-in-Some-emission_at c =
    some-given c.args.t.now c.args.c.now c.args.h.now c.in-Some.place c.rule.result c.emission_at.result c.in-Some-emission_at.emission c.in-Some.is
    (slice_get-get_or c.args.t.now c.in-Some.place c.rule.result (placed-within c.args.t.now c.args.c.now.winner c.in-Some.place c.in-Some.is c.requires.within) ∙ ap Some (ap (λ (k : ℕ). get_or c.args.t.now k c.rule.result) (sym c.from.ensures) ∙ sym c.rule.ensures))
    (record { is_class = c.requires.class; came_in = c.requires.in_port; has_tag = c.requires.tag }) (c.emission_at.ensures ∙ ap (λ (actions : List Action). emission_at (emissions actions c.args.h.now) c.args.c.now.emission) c.actions.ensures) c.in-Some-emission_at.is

pub returns-in-None-emission_at : goal.returns-in-None-emission_at
returns-in-None-emission_at c =
    none-given c.args.t.now c.args.c.now c.args.h.now c.in-Some.place c.rule.result c.emission_at.result c.in-Some.is
    (slice_get-get_or c.args.t.now c.in-Some.place c.rule.result (placed-within c.args.t.now c.args.c.now.winner c.in-Some.place c.in-Some.is c.requires.within) ∙ ap Some (ap (λ (k : ℕ). get_or c.args.t.now k c.rule.result) (sym c.from.ensures) ∙ sym c.rule.ensures))
    (record { is_class = c.requires.class; came_in = c.requires.in_port; has_tag = c.requires.tag }) (c.emission_at.ensures ∙ ap (λ (actions : List Action). emission_at (emissions actions c.args.h.now) c.args.c.now.emission) c.actions.ensures) c.in-None-emission_at.is
