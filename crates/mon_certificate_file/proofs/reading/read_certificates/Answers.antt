use Rattle.std.proofs.Common.{ℕ, List, [], length, ap, ◌∙◌}
use Rattle.std.specs.Prelude.{◌==◌}
use Rattle.std.proofs.lemmas.Bool.{false≢true}
use Rattle.mon_text.proofs.Faulting.{fault_at, fault_none}
use Rattle.mon_certificate_file.specs.CertificateFile.{IsCertificateFile}
use Rattle.mon_certificate_file.proofs.Certifying.{file_alone}
use Rattle.mon_certificate_file.proofs.Leaving.{trailed}
use Rattle.mon_certificate_file.proofs.reading.read_certificates.Goals as goal

pub returns-then-not-is_empty-clause-only : goal.returns-then-not-is_empty-clause-only
returns-then-not-is_empty-clause-only c cs s =
    let k = c.in-Ok.ensures.only cs [] (file_alone c.args.text.now cs s) in
    absurd (false≢true (c.if-not-is_empty.ensures ∙ ap (λ (xs : List ℕ). length xs == 0) k.1))

pub returns-then-not-is_empty-clause-fails : goal.returns-then-not-is_empty-clause-fails
returns-then-not-is_empty-clause-fails c = trailed c.args.text.now c.in-Ok.rest c.in-Ok.certificates c.within.result c.in-Ok.ensures.found c.within.ensures

pub returns-in-Err-clause-only : goal.returns-in-Err-clause-only
returns-in-Err-clause-only c cs s = fault_none (length c.args.text.now) c.in-Err.fault c.within-in-Err.result (c.in-Err.ensures.only cs [] (file_alone c.args.text.now cs s)) c.within-in-Err.ensures

pub returns-in-Err-clause-fails : goal.returns-in-Err-clause-fails
returns-in-Err-clause-fails c = fault_at IsCertificateFile c.args.text.now c.in-Err.fault c.within-in-Err.result c.in-Err.ensures.stops c.within-in-Err.ensures

pub returns-else-not-is_empty-clause-only : goal.returns-else-not-is_empty-clause-only
returns-else-not-is_empty-clause-only c cs s = (c.in-Ok.ensures.only cs [] (file_alone c.args.text.now cs s)).0
