use Rattle.std.proofs.Common.{◌≡◌, ◌++◌, drop, Some}
use Rattle.mon_outcome.specs.Shaping.{shapes_of}
use Rattle.mon_encode.specs.Cases.{by_position}
use Rattle.mon_encode.proofs.listing.push_rule.Given as goal

abbrev pub invariant-loop-emission : goal.invariant-loop-emission
invariant-loop-emission l =
    l.cases ++ by_position l.class l.in_port (Some l.place) l.emission (drop l.emission (shapes_of l.rule.actions l.class l.in_port))
    ≡ l.fn.cases ++ by_position l.class l.in_port (Some l.place) 0 (shapes_of l.rule.actions l.class l.in_port)
