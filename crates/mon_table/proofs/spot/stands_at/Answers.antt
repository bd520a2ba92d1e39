use Rattle.std.proofs.Common.{sym, ◌∙◌, arith}
use Rattle.std.proofs.lemmas.Bool.{le-ltb}
use Rattle.mon_table.proofs.Placing.{stands-at-read, stands-past}
use Rattle.mon_table.proofs.spot.stands_at.Goals as goal

pub returns-then-place-rules-clause-value : goal.returns-then-place-rules-clause-value
returns-then-place-rules-clause-value c =
    c.has_identity.ensures ∙ sym (stands-at-read _ c.args.rules.now c.args.place _ (omega arith) c.index-rules-place.is)

pub returns-else-place-rules-clause-value : goal.returns-else-place-rules-clause-value
returns-else-place-rules-clause-value c = le-ltb _ _ (omega arith) ∙ sym (stands-past _ c.args.rules.now c.args.place (omega arith))
