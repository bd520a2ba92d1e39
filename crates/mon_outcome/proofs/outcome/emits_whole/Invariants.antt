use Rattle.std.proofs.Common.{◌≡◌, drop}
use Rattle.mon_outcome.specs.Emitting.{emissions, is_among_whole}
use Rattle.mon_outcome.proofs.outcome.emits_whole.Given as goal

-- the emission is none of those so far that show the whole packet
abbrev pub invariant-loop-action : goal.invariant-loop-action
invariant-loop-action l =
    is_among_whole l.e (emissions (drop l.action-index l.actions) l.header) ≡ is_among_whole l.e (emissions l.actions l.h)
