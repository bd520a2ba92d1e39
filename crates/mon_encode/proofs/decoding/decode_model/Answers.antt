use Rattle.std.proofs.Common.{◌≡◌, ◌≢◌, List, true, sym, ap, subst, ◌∙◌}
use Rattle.mon_cnf.specs.Truth.{values_of}
use Rattle.mon_header.specs.declared.header.Header.{Header}
use Rattle.mon_header.specs.Classes.{is_in_class}
use Rattle.mon_outcome.specs.declared.emission.Emission.{Emission}
use Rattle.mon_shows.specs.Separation.{separates}
use Rattle.mon_table.specs.declared.rule.Rule.{Rule}
use Rattle.mon_encode.specs.Cases.{HasWinner, shape_of, given, present, BelongsTo}
use Rattle.mon_encode.proofs.Bearing.{decoded-shows, winner-within, model-meets, decoded-is}
use Rattle.mon_encode.proofs.decoding.decode_model.Goals as goal

pub emission_of-emission-requires-clause-within : goal.emission_of-emission-requires-clause-within
emission_of-emission-requires-clause-within c =
    subst (λ (t : List Rule). HasWinner t c.args.c.now.winner) (sym (c.with_update.ensures ∙ ap present c.j.view_is)) (winner-within c.args.j.now c.args.c.now c.keeps.ensures c.requires.of)

pub emission_of-emission-requires-clause-class : goal.emission_of-emission-requires-clause-class
emission_of-emission-requires-clause-class c =
    subst (λ (h : Header). is_in_class c.args.c.now.class h ≡ true) (sym c.borne-header.ensures.value)
    (model-meets c.args.j.now c.args.c.now (values_of c.args.values.now) c.keeps-2.ensures c.keeps.ensures c.requires.of c.requires.model).is_class

pub emission_of-emission-requires-clause-in_port : goal.emission_of-emission-requires-clause-in_port
emission_of-emission-requires-clause-in_port c =
    subst (λ (h : Header). h.in_port ≡ c.args.c.now.in_port) (sym c.borne-header.ensures.value)
    (model-meets c.args.j.now c.args.c.now (values_of c.args.values.now) c.keeps-2.ensures c.keeps.ensures c.requires.of c.requires.model).came_in

pub emission_of-emission-requires-clause-tag : goal.emission_of-emission-requires-clause-tag
emission_of-emission-requires-clause-tag c =
    subst (λ (h : Header). h.dl_vlan ≢ 0xffff) (sym c.borne-header.ensures.value)
    (model-meets c.args.j.now c.args.c.now (values_of c.args.values.now) c.keeps-2.ensures c.keeps.ensures c.requires.of c.requires.model).has_tag

pub returns-clause-value : goal.returns-clause-value
returns-clause-value c =
    decoded-is c.args.j.now c.args.c.now (values_of c.args.values.now) c.borne-header.result c.emission_of-emission.result c.borne-header.ensures.value (c.emission_of-emission.ensures ∙ ap (λ (t : List Rule). (given (shape_of t c.args.c.now) c.borne-header.result).0) (c.with_update.ensures ∙ ap present c.j.view_is))

pub returns-clause-separates : goal.returns-clause-separates
returns-clause-separates c =
    subst (λ (p : Header × Emission). separates c.args.j.now.view c.args.j.now.table c.args.j.now.target p.0 p.1 ≡ true)
    (sym (decoded-is c.args.j.now c.args.c.now (values_of c.args.values.now) c.borne-header.result c.emission_of-emission.result c.borne-header.ensures.value (c.emission_of-emission.ensures ∙ ap (λ (t : List Rule). (given (shape_of t c.args.c.now) c.borne-header.result).0) (c.with_update.ensures ∙ ap present c.j.view_is))))
    (decoded-shows c.args.j.now c.args.c.now (values_of c.args.values.now) c.keeps-2.ensures c.keeps.ensures c.requires.of c.requires.model).0

pub returns-clause-belongs : goal.returns-clause-belongs
returns-clause-belongs c =
    subst (λ (p : Header × Emission). BelongsTo c.args.j.now c.args.c.now p.0 p.1)
    (sym (decoded-is c.args.j.now c.args.c.now (values_of c.args.values.now) c.borne-header.result c.emission_of-emission.result c.borne-header.ensures.value (c.emission_of-emission.ensures ∙ ap (λ (t : List Rule). (given (shape_of t c.args.c.now) c.borne-header.result).0) (c.with_update.ensures ∙ ap present c.j.view_is))))
    (decoded-shows c.args.j.now c.args.c.now (values_of c.args.values.now) c.keeps-2.ensures c.keeps.ensures c.requires.of c.requires.model).1
