use Rattle.std.proofs.Common.{◌≡◌, ◌++◌, take, string_bytes}
use Rattle.std.specs.List.{flat_map}
use Rattle.mon_refute.specs.Text.{hint_text, FitsHints}
use Rattle.mon_refute.proofs.write.put_hints.Given as goal

abbrev pub invariant-loop-hint : goal.invariant-loop-hint
invariant-loop-hint l = record {
  text : string_bytes l.text ≡ string_bytes l.fn.text ++ flat_map hint_text (take l.hint-index l.hints);
  fits : FitsHints (take l.hint-index l.hints);
}
