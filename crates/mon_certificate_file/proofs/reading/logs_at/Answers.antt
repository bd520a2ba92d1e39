use Rattle.std.proofs.lemmas.Result.{err_from_is_err_and}
use Rattle.mon_refute.specs.Text.{log_text, FitsLog}
use Rattle.mon_certificate_file.proofs.Rows.{one_more, no_more, all_read}
use Rattle.mon_certificate_file.proofs.Leaving.{logs_stop}
use Rattle.mon_certificate_file.proofs.reading.logs_at.Goals as goal

pub returns-in_err-log-clause-only : goal.returns-in_err-log-clause-only
returns-in_err-log-clause-only c logs rest a =
    let p = err_from_is_err_and c.from_residual.result c.from_residual.ensures.1 in
    rw (p.1, p.2) (no_more (λ _. log_text) FitsLog c.args.count c.loop.counter c.in_err-log.field-0.0 c.args.text.now c.loop.rest.now c.loop.logs c.loop-test.true c.loop.invariant c.in_err-log.ensures.only logs rest a)

pub returns-in_err-log-clause-stops : goal.returns-in_err-log-clause-stops
returns-in_err-log-clause-stops c =
    let p = err_from_is_err_and c.from_residual.result c.from_residual.ensures.1 in
    rw (p.1, p.2) (logs_stop c.args.count c.loop.counter c.in_err-log.field-0.0 c.args.text.now c.loop.rest.now c.loop.logs c.loop-test.true c.loop.invariant c.in_err-log.ensures.stops)

pub loop-preserved : goal.loop-preserved
loop-preserved c =
    one_more (λ _. log_text) FitsLog c.args.count c.loop.counter c.args.text.now c.loop.rest.now c.in_ok-log.after.now c.loop.logs c.push.new.self c.in_ok-log.log
    c.loop-test.true c.loop.invariant c.in_ok-log.ensures.found c.in_ok-log.ensures.only c.in_ok-push.ensures.pushed

pub returns-clause-only : goal.returns-clause-only
returns-clause-only c logs rest a = all_read (λ _. log_text) FitsLog c.args.count c.loop.counter c.args.text.now c.loop.rest.now c.loop.logs c.loop-test.false c.loop.invariant logs rest a
