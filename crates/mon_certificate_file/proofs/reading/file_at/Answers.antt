use Rattle.std.proofs.Common.{ℕ, List, Bor, sym}
use Rattle.mon_certificate.specs.declared.certificate.Certificate.{Certificate}
use Rattle.mon_certificate_file.specs.Reading.{FileAt}
use Rattle.mon_certificate_file.proofs.Rows.{ok_more}
use Rattle.mon_certificate_file.proofs.Certifying.{CertificatesAt, file_part, front_rows, front_none}
use Rattle.mon_certificate_file.proofs.Leaving.{file_stops}
use Rattle.mon_certificate_file.proofs.reading.file_at.Goals as goal

pub returns-in-Some-clause-found : goal.returns-in-Some-clause-found
returns-in-Some-clause-found c =
    ok_more {A = List Certificate × Bor (List ℕ)} (λ p. CertificatesAt c.in-Some.count c.in-Some.rest.now p.0 p.1.now) (λ p. FileAt c.args.text.now p.0 p.1.now)
    (λ p a. file_part c.args.text.now c.in-Some.rest.now c.in-Some.count p.0 p.1.now (sym c.in-Some.ensures) a) c.certificates_at.result c.certificates_at.ensures.found

pub returns-in-Some-clause-only : goal.returns-in-Some-clause-only
returns-in-Some-clause-only c cs rest a = c.certificates_at.ensures.only cs rest (front_rows c.args.text.now c.in-Some.rest.now c.in-Some.count cs rest (sym c.in-Some.ensures) a)

pub returns-in-Some-clause-stops : goal.returns-in-Some-clause-stops
returns-in-Some-clause-stops c = file_stops c.args.text.now c.in-Some.rest.now c.in-Some.count c.certificates_at.result (sym c.in-Some.ensures) c.certificates_at.ensures.stops

pub returns-in-None-clause-only : goal.returns-in-None-clause-only
returns-in-None-clause-only c cs rest a = front_none c.args.text.now cs rest (sym c.in-None.ensures) a
