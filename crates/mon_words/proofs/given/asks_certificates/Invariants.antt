use Rattle.std.proofs.Common.{◌≡◌, ◌+◌, drop}
use Rattle.mon_words.specs.Words.{certificates_in}
use Rattle.mon_words.specs.Reading.{count_of}
use Rattle.mon_words.proofs.given.asks_certificates.Given as goal

abbrev pub invariant-loop-argument : goal.invariant-loop-argument
invariant-loop-argument l =
    count_of l.asked + certificates_in (drop l.argument-index l.arguments) ≡ certificates_in l.arguments
