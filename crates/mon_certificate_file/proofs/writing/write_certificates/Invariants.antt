use Rattle.std.proofs.Common.{◌≡◌, ◌++◌, take, length, codes, decimal}
use Rattle.std.specs.List.{AllByRecursion}
use Rattle.mon_certificate_file.specs.CertificateFile.{row, certificate_text, IsCertificateInRange, FitsCertificate}
use Rattle.mon_certificate_file.proofs.writing.write_certificates.Given as goal
use Rattle.mon_text.specs.Parts.{feed}

abbrev pub invariant-loop-rule : goal.invariant-loop-rule
invariant-loop-rule l = record {
  text : l.out.items ≡ codes "monocle-certificates 1" ++ (feed ++ (codes "rules " ++ (decimal (length l.certificates) ++ (feed ++ row certificate_text 0 (take l.rule l.certificates)))));
  fits : AllByRecursion IsCertificateInRange l.certificates → AllByRecursion FitsCertificate (take l.rule l.certificates);
}
