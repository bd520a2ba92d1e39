use Rattle.std.proofs.Common.{◌∙◌, ap, sym, subst, map, [], ◌∷◌, ◌++◌}
use Rattle.mon_refute.specs.declared.lines.LogLine.{LogLine}
use Rattle.mon_plain.specs.Marks.{value_of}
use Rattle.mon_plain.specs.Search.{Ended}
use Rattle.mon_plain.proofs.Solved.{model_true, log_refuted, taken}
use Rattle.mon_plain.proofs.solve.solve_plain.Goals as goal

pub returns-in_ok-values-in-AllTrue : goal.returns-in_ok-values-in-AllTrue
returns-in_ok-values-in-AllTrue c =
    let k = subst (Ended c.args.f.now c.search.new.log.items c.search.new.marks) c.in-AllTrue.is c.in_ok-search.ensures in
    model_true c.args.f.now c.search.new.marks c.in_ok-values-in-AllTrue.field-0 (c.in_ok-values-in-AllTrue.ensures ∙ ap (map value_of) (c.deref.ensures.value ∙ taken c.search.new.marks _ c.in_ok-marks.marks.len (k.0 ∙ sym c.vars.ensures ∙ sym c.in_ok-marks.ensures.len))) k

pub returns-in_ok-push-in-Conflict-2 : goal.returns-in_ok-push-in-Conflict-2
returns-in_ok-push-in-Conflict-2 c =
    let k = subst (Ended c.args.f.now c.search.new.log.items c.search.new.marks) c.in-Conflict.is c.in_ok-search.ensures in
    let line : LogLine = record { literals = c.new.result; hints = c.push.new.self } in
    log_refuted c.args.f.now c.search.new.log.items c.of.result c.in-Conflict.number line k (c.of.ensures ∙ c.in_ok-push-in-Conflict-2.ensures.items) c.new.ensures (c.in_ok-push-in-Conflict.ensures.pushed ∙ ap (λ h. h ++ (c.in-Conflict.number ∷ [])) c.new-hints.ensures)
