use Rattle.std.proofs.Common.{ap, sym, ◌∙◌}
use Rattle.of_frame.specs.Cut.{Pending}
use Rattle.of_frame.proofs.Slices.{faulty-stays}
use Rattle.of_frame.proofs.cutter.Cutter.goes_on.Goals as goal

pub returns-in-Some : goal.returns-in-Some
returns-in-Some c = faulty-stays c.args.self.now c.in-Some.field-0 c.args.rest.now (ap (λ (p : Pending). p.fault) (sym c.self.view_is) ∙ c.in-Some.is)
