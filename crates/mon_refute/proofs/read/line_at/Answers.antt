use Rattle.std.proofs.lemmas.Result.{err_from_is_err_and}
use Rattle.mon_refute.proofs.LineTexts.{no_literals, no_hints, no_end}
use Rattle.mon_refute.proofs.read.line_at.Goals as goal

pub returns-in_err-literals : goal.returns-in_err-literals
returns-in_err-literals c =
    let p = err_from_is_err_and c.from_residual.result c.from_residual.ensures.1 in
    rw (p.1, p.2) (no_literals c.args.bytes.now c.in-Some.rest.now c.in_err-literals.field-0.0 c.in-Some.ensures.found c.in_err-literals.ensures)

pub returns-in_err-hints : goal.returns-in_err-hints
returns-in_err-hints c =
    let p = err_from_is_err_and c.from_residual-in_err-hints.result c.from_residual-in_err-hints.ensures.1 in
    rw (p.1, p.2) (no_hints c.args.bytes.now c.in-Some.rest.now c.in_ok-literals.rest.now c.in_ok-literals.literals c.in_err-hints.field-0.0 c.in-Some.ensures.found c.in_ok-literals.ensures c.in_err-hints.ensures)

pub returns-in-None : goal.returns-in-None
returns-in-None c = no_end c.args.bytes.now c.in-Some.rest.now c.in_ok-literals.rest.now c.in_ok-hints.rest.now c.in_ok-literals.literals c.in_ok-hints.hints c.in-Some.ensures.found c.in_ok-literals.ensures c.in_ok-hints.ensures c.in-None.ensures.found
