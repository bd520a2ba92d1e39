use Rattle.std.proofs.Common.{sym, ◌∙◌}
use Rattle.std.proofs.lemmas.Bool.{eqb-true}
use Rattle.of_frame.proofs.Slices.{whole-at}
use Rattle.of_frame.proofs.cutter.whole_at.Goals as goal

pub returns-then-length-bytes : goal.returns-then-length-bytes
returns-then-length-bytes c = (
  eqb-true _ _ (sym c.is_empty.ensures ∙ c.if-not-is_empty.false),
  whole-at _ _ _ c.fault_of.ensures (sym c.is_some.ensures ∙ c.if-is_some.false) c.length_of-length.ensures.value c.if-length-bytes.true,
)
