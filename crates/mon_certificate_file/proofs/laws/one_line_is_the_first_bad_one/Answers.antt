use Rattle.mon_text.proofs.OneOffset.{one_offset}
use Rattle.mon_certificate_file.specs.CertificateFile.{IsCertificateFile}
use Rattle.mon_certificate_file.proofs.laws.one_line_is_the_first_bad_one.Goals as goal

pub returns : goal.returns
returns c = one_offset IsCertificateFile
