use Rattle.std.proofs.Common.{◌≡◌, sym, ◌∙◌}
use Rattle.mon_core.specs.declared.fate.Fate.TheVariants.{Refused}
use Rattle.mon_core.specs.Fates.{fate}
use Rattle.mon_core.proofs.controller.handle.Goals as goal

pub returns-in_ok-error-in-Refused-clause-outs : goal.returns-in_ok-error-in-Refused-clause-outs
returns-in_ok-error-in-Refused-clause-outs c =
    let is : fate c.args.table.now c.args.frame ≡ Refused c.in-Refused.kind c.in-Refused.code = sym c.in_ok-fate_of.ensures.value ∙ c.in-Refused.is in
    rw (is, ← c.in_ok-error-in-Refused.ensures.bytes) c.push-in-Refused.ensures
