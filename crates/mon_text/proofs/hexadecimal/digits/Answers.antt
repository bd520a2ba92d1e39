use Rattle.std.proofs.Common.{◌∙◌}
use Rattle.mon_text.proofs.Decoding.{all_bytes}
use Rattle.mon_text.proofs.Encoding.{encoded}
use Rattle.mon_text.proofs.hexadecimal.digits.Goals as goal

pub returns : goal.returns
returns c = c.in_ok-encode.ensures ∙ encoded c.args.bytes.now (all_bytes c.args.bytes.now (λ k. (c.type_inv.bytes k).fits))
