use Rattle.mon_refute.specs.Text.{log_text, FitsLog}
use Rattle.mon_certificate_file.proofs.Rows.{SoFar}
use Rattle.mon_certificate_file.proofs.reading.logs_at.Given as goal

abbrev pub invariant-loop : goal.invariant-loop
invariant-loop l = SoFar (λ _. log_text) FitsLog l.count l.counter l.text l.logs l.rest
