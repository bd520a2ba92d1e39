use Rattle.std.proofs.Common.{length}
use Rattle.mon_certificate_file.proofs.Written.{more_text, more_fit}
use Rattle.mon_certificate_file.proofs.writing.write_certificates.Goals as goal

pub loop-rule-preserved : goal.loop-rule-preserved
loop-rule-preserved c =
    let cs = c.items-certificates.result.now in
    let certificate = c.index-certificates-rule.result in
    record {
      text = more_text cs c.loop-rule.rule (length cs) certificate c.loop-rule.out.items c.push_certificate.new.out.items c.loop-rule-test.true c.index-certificates-rule.is c.loop-rule.invariant.text c.in_ok-push_certificate.ensures.text;
      fits = more_fit cs c.loop-rule.rule certificate c.loop-rule-test.true c.index-certificates-rule.is c.loop-rule.invariant.fits c.in_ok-push_certificate.ensures.fits;
    }
