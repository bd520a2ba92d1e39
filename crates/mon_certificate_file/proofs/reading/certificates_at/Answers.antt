use Rattle.std.proofs.lemmas.Result.{err_from_is_err_and}
use Rattle.mon_certificate_file.specs.CertificateFile.{certificate_text, FitsCertificate}
use Rattle.mon_certificate_file.proofs.Rows.{one_more, no_more, all_read}
use Rattle.mon_certificate_file.proofs.Leaving.{certificates_stop}
use Rattle.mon_certificate_file.proofs.reading.certificates_at.Goals as goal

pub returns-in_err-certificate-clause-only : goal.returns-in_err-certificate-clause-only
returns-in_err-certificate-clause-only c cs rest a =
    let p = err_from_is_err_and c.from_residual.result c.from_residual.ensures.1 in
    rw (p.1, p.2) (no_more certificate_text FitsCertificate c.args.count c.loop-rule.rule c.in_err-certificate.field-0.0 c.args.text.now c.loop-rule.rest.now c.loop-rule.certificates c.loop-rule-test.true c.loop-rule.invariant c.in_err-certificate.ensures.only cs rest a)

pub returns-in_err-certificate-clause-stops : goal.returns-in_err-certificate-clause-stops
returns-in_err-certificate-clause-stops c =
    let p = err_from_is_err_and c.from_residual.result c.from_residual.ensures.1 in
    rw (p.1, p.2) (certificates_stop c.args.count c.loop-rule.rule c.in_err-certificate.field-0.0 c.args.text.now c.loop-rule.rest.now c.loop-rule.certificates c.loop-rule-test.true c.loop-rule.invariant c.in_err-certificate.ensures.stops)

pub loop-rule-preserved : goal.loop-rule-preserved
loop-rule-preserved c =
    one_more certificate_text FitsCertificate c.args.count c.loop-rule.rule c.args.text.now c.loop-rule.rest.now c.in_ok-certificate.after.now c.loop-rule.certificates c.push.new.self c.in_ok-certificate.certificate
    c.loop-rule-test.true c.loop-rule.invariant c.in_ok-certificate.ensures.found c.in_ok-certificate.ensures.only c.in_ok-push.ensures.pushed

pub returns-clause-only : goal.returns-clause-only
returns-clause-only c cs rest a = all_read certificate_text FitsCertificate c.args.count c.loop-rule.rule c.args.text.now c.loop-rule.rest.now c.loop-rule.certificates c.loop-rule-test.false c.loop-rule.invariant cs rest a
