use Rattle.std.proofs.Common.{Bool, List, length, sym, ◌∙◌, ap, subst}
use Rattle.mon_cnf.specs.Truth.{values_of, formula_true}
use Rattle.mon_literals.specs.Bearing.{Bears}
use Rattle.mon_encode.specs.Formulas.{clauses_of}
use Rattle.mon_encode.proofs.Bearing.{encoded-satisfies, encoded-bears-header}
use Rattle.mon_encode.proofs.Helping.{encoded-long}
use Rattle.mon_encode.proofs.Pushing.{if-ok}
use Rattle.mon_encode.proofs.decoding.encode_header.Goals as goal

pub returns-clause-whole : goal.returns-clause-whole
returns-clause-whole c =
    if-ok c.values.result _ _ (λ bits e. ap length e ∙ encoded-long c.args.j.now c.args.h.now) c.values.ensures

pub returns-clause-model : goal.returns-clause-model
returns-clause-model c =
    if-ok c.values.result _ _ (λ bits e. ap (λ (x : List Bool). formula_true (values_of x) (clauses_of c.args.j.now c.args.c.now)) e
    ∙ encoded-satisfies c.args.j.now c.args.c.now c.args.h.now c.requires.shows.0 c.keeps-2.ensures c.keeps.ensures c.requires.of c.requires.shows.1 c.requires.shows.2) c.values.ensures

pub returns-clause-bears : goal.returns-clause-bears
returns-clause-bears c =
    if-ok c.values.result _ _ (λ bits e. subst (λ (x : List Bool). Bears (values_of x) c.args.h.now) (sym e) (encoded-bears-header c.args.j.now c.args.c.now c.args.h.now c.requires.shows.0 c.requires.shows.2)) c.values.ensures
