use Rattle.std.proofs.Common.{◌≡◌, ◌++◌, drop}
use Rattle.mon_encode.specs.Cases.{by_class, all_classes}
use Rattle.mon_encode.proofs.listing.listed.Given as goal

abbrev pub invariant-loop-class : goal.invariant-loop-class
invariant-loop-class l = l.cases ++ by_class l.j.table l.j.target l.j.view.links (drop l.class-index all_classes) ≡ by_class l.j.table l.j.target l.j.view.links all_classes
