use Rattle.std.proofs.Common.{◌≡◌, ◌∙◌, ◌<◌, true, length, sym, ap, subst}
use Rattle.mon_table.specs.Tables.{slice}
use Rattle.mon_table.specs.Chunks.{all_overlap}
use Rattle.std.specs.Arc.{arc_value}
use Rattle.mon_table.proofs.Chunking.{whole-slice}
use Rattle.mon_table.proofs.lookups.overlapping.Goals as goal

pub returns-then-is_apart-clause-rules : goal.returns-then-is_apart-clause-rules
returns-then-is_apart-clause-rules c = sym (ap (slice c.args.m.now) (sym c.deref.ensures) ∙ c.is_apart.ensures c.if-is_apart.true)

pub returns-then-all_overlap-clause-rules : goal.returns-then-all_overlap-clause-rules
returns-then-all_overlap-clause-rules c =
    c.in_ok-whole.ensures
    ∙ sym (whole-slice c.args.m.now (arc_value c.args.chunk.now) (subst (λ t. all_overlap c.args.m.now t ≡ true) c.deref-2.ensures (sym c.all_overlap.ensures.value ∙ c.if-all_overlap.true)))

pub returns-then-all_overlap-clause-some : goal.returns-then-all_overlap-clause-some
returns-then-all_overlap-clause-some c = subst (λ t. 0 < length t) (c.deref-2.ensures ∙ sym c.in_ok-whole.ensures) c.all_overlap.ensures.some
