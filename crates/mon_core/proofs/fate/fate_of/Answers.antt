use Rattle.std.proofs.Common.{◌≡◌, Err, refl, arith}
use Rattle.of_frame.specs.Kinds.{FLOW_MOD}
use Rattle.of_frame.specs.Header.{kind_of}
use Rattle.mon_core.proofs.Refusing.{unread-is}
use Rattle.mon_core.proofs.fate.fate_of.Goals as goal

pub returns-in-Err-clause-value : goal.returns-in-Err-clause-value
returns-in-Err-clause-value c =
    unread-is c.of_fault.result (Err c.in-Err.fault) c.in-Err.fault c.args.table.now c.args.frame.now (let kind : kind_of c.args.frame.now ≡ FLOW_MOD = grind arith in kind) refl c.in-Err.ensures.as_function c.of_fault.ensures.value c.of_fault.ensures.found_memory
