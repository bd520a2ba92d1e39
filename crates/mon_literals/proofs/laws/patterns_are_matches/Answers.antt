use Rattle.mon_literals.proofs.Patterns.{pattern_true}
use Rattle.mon_literals.proofs.laws.patterns_are_matches.Goals as goal

pub returns : goal.returns
returns c = pattern_true
