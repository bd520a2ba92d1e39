use Rattle.std.proofs.Common.{◌∙◌}
use Rattle.mon_text.specs.Hex.{hex}
use Rattle.mon_text.proofs.Decoding.{all_bytes}
use Rattle.mon_text.proofs.Encoding.{encoded, appended}
use Rattle.mon_text.proofs.hexadecimal.push_digits.Goals as goal

pub returns : goal.returns
returns c =
    appended c.extend_from_slice.result c.args.out.now.items c.extend_from_slice.new.self.items c.as_bytes.result.now (hex c.args.bytes.now) c.extend_from_slice.ensures.items
    (c.as_bytes.ensures.value ∙ c.in_ok-digits.ensures ∙ encoded c.args.bytes.now (all_bytes c.args.bytes.now (λ k. (c.type_inv.bytes k).fits)))
