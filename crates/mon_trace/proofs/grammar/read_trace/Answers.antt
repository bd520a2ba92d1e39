use Rattle.std.proofs.Common.{◌+◌, arith}
use Rattle.mon_trace.proofs.Named.{are_named}
use Rattle.mon_trace.proofs.grammar.read_trace.Goals as goal

pub invariant_of-result : goal.invariant_of-result
invariant_of-result c =
    let fit = are_named (c.in-Some.end + 1) c.in_ok-events.losing c.behind.result.now c.in_ok-events.events c.in_ok-events.ensures in
    record { named = fit.0; unstopped = fit.1; few = omega arith }
