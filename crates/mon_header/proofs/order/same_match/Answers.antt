use Rattle.std.proofs.Common.{arith}
use Rattle.mon_header.proofs.Sorting.{same-by-numbers}
use Rattle.mon_header.proofs.order.same_match.Goals as goal

pub returns-then-wild : goal.returns-then-wild
returns-then-wild c =
    same-by-numbers c.args.a.now c.args.b.now _ _ _ _ _ c.wildcards.ensures.normal c.wildcards-2.ensures.normal
    c.wildcards.ensures.value c.wildcards-2.ensures.value (omega arith)
    c.fields.ensures.value c.fields-2.ensures.value c.same_header-fields.ensures.equal
