use Rattle.std.proofs.Common.{◌≡◌, drop}
use Rattle.mon_words.specs.Words.{numbers_in, given_in}
use Rattle.mon_words.specs.Reading.{given_after}
use Rattle.mon_words.proofs.given.given_in.Given as goal

abbrev pub invariant-loop-argument : goal.invariant-loop-argument
invariant-loop-argument l =
    given_after l.given (numbers_in l.kind (drop l.argument-index l.arguments)) ≡ given_in l.kind l.arguments
