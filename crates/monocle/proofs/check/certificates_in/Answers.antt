use Rattle.std.proofs.Common.{◌≡◌, List, subst}
use Rattle.mon_certificate.specs.declared.certificate.Certificate.{Certificate}
use Rattle.mon_text.specs.Faults.{FileReadsAs, FailsIn}
use Rattle.mon_certificate_file.specs.CertificateFile.{IsCertificateFile}
use Rattle.monocle.proofs.check.certificates_in.Goals as goal

pub returns-clause-bad : goal.returns-clause-bad
returns-clause-bad c offset bad cs is = subst (FileReadsAs {X = List Certificate} (λ read. read ≡ cs)) bad (c.read_certificates.ensures.only cs is)

pub returns-clause-at : goal.returns-clause-at
returns-clause-at c offset bad = subst (FailsIn {X = List Certificate} IsCertificateFile c.args.text.now) bad c.read_certificates.ensures.fails
