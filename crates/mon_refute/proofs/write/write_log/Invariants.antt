use Rattle.std.proofs.Common.{◌≡◌, ◌++◌, ◌∷◌, take, length, codes, decimal, string_bytes}
use Rattle.std.specs.List.{flat_map, AllByRecursion}
use Rattle.mon_refute.specs.Text.{line_text, FitsLine}
use Rattle.mon_refute.proofs.write.write_log.Given as goal

abbrev pub invariant-loop-line : goal.invariant-loop-line
invariant-loop-line l = record {
  text : string_bytes l.text ≡ codes "log " ++ (decimal (length l.lines) ++ (10 ∷ flat_map line_text (take l.line-index l.lines)));
  fits : AllByRecursion FitsLine (take l.line-index l.lines);
}
