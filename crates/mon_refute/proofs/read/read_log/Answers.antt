use Rattle.std.proofs.Common.{length, ap, ◌∙◌, subst, sym, [], List, ℕ}
use Rattle.std.specs.Prelude.{◌==◌}
use Rattle.std.proofs.lemmas.Bool.{false≢true}
use Rattle.mon_text.specs.BadLines.{IsFirstBadLine}
use Rattle.mon_text.specs.Faults.{OnBadAt}
use Rattle.mon_text.proofs.Faulting.{fault_at, fault_none}
use Rattle.mon_refute.specs.Text.{IsLogText}
use Rattle.mon_refute.specs.Reading.{LogAt}
use Rattle.mon_refute.proofs.LineTexts.{log_alone}
use Rattle.mon_refute.proofs.Leaving.{trailed}
use Rattle.mon_refute.proofs.read.read_log.Goals as goal

pub returns-then-not-is_empty-clause-only : goal.returns-then-not-is_empty-clause-only
returns-then-not-is_empty-clause-only c log s =
    let k = c.in-Ok.ensures.only log [] (subst (λ t. LogAt t log []) (sym c.as_bytes-bytes.ensures.value) (log_alone c.args.text.now log s)) in
    absurd (false≢true (c.if-not-is_empty.ensures ∙ ap (λ (xs : List ℕ). length xs == 0) k.1))

pub returns-then-not-is_empty-clause-fails : goal.returns-then-not-is_empty-clause-fails
returns-then-not-is_empty-clause-fails c = trailed c.args.text.now c.as_bytes-bytes.result.now c.in-Ok.rest c.in-Ok.log c.within.result c.as_bytes-bytes.ensures.value c.in-Ok.ensures.found c.within.ensures

pub returns-in-Err-clause-only : goal.returns-in-Err-clause-only
returns-in-Err-clause-only c log s =
    fault_none (length c.as_bytes-bytes.result.now) c.in-Err.fault c.within-in-Err.result (c.in-Err.ensures.only log [] (subst (λ t. LogAt t log []) (sym c.as_bytes-bytes.ensures.value) (log_alone c.args.text.now log s))) c.within-in-Err.ensures

pub returns-in-Err-clause-fails : goal.returns-in-Err-clause-fails
returns-in-Err-clause-fails c =
    subst (λ t. OnBadAt c.within-in-Err.result (IsFirstBadLine IsLogText t)) c.as_bytes-bytes.ensures.value
    (fault_at IsLogText c.as_bytes-bytes.result.now c.in-Err.fault c.within-in-Err.result c.in-Err.ensures.stops c.within-in-Err.ensures)
