use Rattle.std.proofs.Common.{sym}
use Rattle.mon_core.proofs.Refusing.{refused-is}
use Rattle.mon_core.proofs.fate.planned.Goals as goal

pub returns-in-Err-clause-value : goal.returns-in-Err-clause-value
returns-in-Err-clause-value c =
    refused-is c.of_refusal.result c.in-Err.refused c.args.table.now c.new-catching.result c.args.message (sym c.if-is_emergency.ensures) c.new-catching.ensures c.in-Err.ensures c.of_refusal.ensures.value c.of_refusal.ensures.found_memory
