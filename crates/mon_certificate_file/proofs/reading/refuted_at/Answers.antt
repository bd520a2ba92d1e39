use Rattle.std.proofs.Common.{ℕ, List, Bor, sym, ◌<◌, ◌^◌, rules}
use Rattle.mon_refute.specs.declared.lines.LogLine.{LogLine}
use Rattle.mon_certificate_file.specs.CertificateFile.{nothing_text, FitsLogs}
use Rattle.mon_certificate_file.specs.Reading.{PartAt}
use Rattle.mon_certificate_file.proofs.Rows.{ok_more}
use Rattle.mon_certificate_file.proofs.Certifying.{LogsAt, rows_found, rows_part, rows_none}
use Rattle.mon_certificate_file.proofs.Leaving.{refuted_stops, nothing_stops}
use Rattle.mon_certificate_file.proofs.reading.refuted_at.Goals as goal

pub returns-in-Some-clause-found : goal.returns-in-Some-clause-found
returns-in-Some-clause-found c =
    ok_more {A = List (List LogLine) × Bor (List ℕ)} (λ p. LogsAt c.in-Some.count c.in-Some.rest.now p.0 p.1.now) (λ p. PartAt (nothing_text c.args.rule) FitsLogs c.args.text.now p.0 p.1.now)
    (λ p a. rows_found c.args.rule c.args.text.now c.in-Some.rest.now c.in-Some.count p.0 p.1.now (sym c.in-Some.ensures) a) c.logs_at.result c.logs_at.ensures.found

pub returns-in-Some-clause-only : goal.returns-in-Some-clause-only
returns-in-Some-clause-only c logs rest a = c.logs_at.ensures.only logs rest (rows_part c.args.rule c.args.text.now c.in-Some.rest.now c.in-Some.count logs rest (sym c.in-Some.ensures) a)

pub returns-in-Some-clause-stops : goal.returns-in-Some-clause-stops
returns-in-Some-clause-stops c = refuted_stops c.args.rule c.args.line.now c.args.text.now c.in-Some.rest.now c.in-Some.count c.logs_at.result c.requires (sym c.in-Some.ensures) c.logs_at.ensures.stops

pub returns-in-None-clause-only : goal.returns-in-None-clause-only
returns-in-None-clause-only c logs rest a = rows_none c.args.rule c.args.text.now logs rest (sym c.in-None.ensures) a

pub returns-in-None-clause-stops : goal.returns-in-None-clause-stops
returns-in-None-clause-stops c =
    let w : c.args.rule < 2 ^ 64 = search rules in
    nothing_stops c.args.rule c.args.line.now c.args.text.now w c.requires (sym c.in-None.ensures)
