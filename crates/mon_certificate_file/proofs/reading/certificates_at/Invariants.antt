use Rattle.mon_certificate_file.specs.CertificateFile.{certificate_text, FitsCertificate}
use Rattle.mon_certificate_file.proofs.Rows.{SoFar}
use Rattle.mon_certificate_file.proofs.reading.certificates_at.Given as goal

abbrev pub invariant-loop-rule : goal.invariant-loop-rule
invariant-loop-rule l = SoFar certificate_text FitsCertificate l.count l.rule l.text l.certificates l.rest
