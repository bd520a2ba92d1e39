use Rattle.std.proofs.Common.{◌≡◌, ◌++◌, take, string_bytes}
use Rattle.std.specs.List.{flat_map}
use Rattle.mon_refute.specs.Text.{literal_text, FitsLiterals}
use Rattle.mon_refute.proofs.write.put_literals.Given as goal

abbrev pub invariant-loop-literal : goal.invariant-loop-literal
invariant-loop-literal l = record {
  text : string_bytes l.text ≡ string_bytes l.fn.text ++ flat_map literal_text (take l.literal-index l.literals);
  fits : FitsLiterals (take l.literal-index l.literals);
}
