use Rattle.mon_text.proofs.Decoding.{unhex-hex, all_bytes}
use Rattle.mon_trace.proofs.printing.push_frame.Goals as goal

pub returns-clause-digits : goal.returns-clause-digits
returns-clause-digits c = unhex-hex c.args.frame.now (all_bytes c.args.frame.now (λ k. (c.type_inv.frame k).fits))
