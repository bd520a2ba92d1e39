use Rattle.std.proofs.Common.{◌≡◌, drop}
use Rattle.mon_words.specs.declared.reading.State.TheVariants.{Arguments}
use Rattle.mon_words.specs.Reading.{onto, arguments_of}
use Rattle.mon_words.proofs.reading.arguments_of.Given as goal

abbrev pub invariant-loop-word : goal.invariant-loop-word
invariant-loop-word l =
    onto l.arguments.items (arguments_of l.state (drop l.word-index l.words)) ≡ arguments_of Arguments l.words
