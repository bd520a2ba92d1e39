use Rattle.std.proofs.Common.{◌≡◌, ◌++◌}
use Rattle.std.specs.Vec.Iter.{into_iter_items}
use Rattle.mon_words.specs.Words.{names_in}
use Rattle.mon_words.proofs.given.names_in.Given as goal

abbrev pub invariant-loop-argument : goal.invariant-loop-argument
invariant-loop-argument l =
    l.names.items ++ names_in (into_iter_items l.argument-iterator) ≡ names_in l.fn.arguments.items
