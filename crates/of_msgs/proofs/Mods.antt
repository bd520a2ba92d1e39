-- FLOW_MODs and their bytes.
use Rattle.std.proofs.Common.{◌≡◌, ℕ, ◌≤◌, List, length, drop, Result, Ok, Err, sym, subst, arith}
use Rattle.std.specs.Prelude.{IsErrAnd}
use Rattle.of_action.specs.declared.fault.ActionFault.{ActionFault}
use Rattle.of_action.specs.declared.fault.ActionFault.TheVariants as actions
use Rattle.of_action.specs.Reading.{actions_of, Reads}
use Rattle.of_msgs.specs.declared.fault.ModFault.{ModFault}
use Rattle.of_msgs.specs.declared.flow_mod.FlowMod.{FlowMod}
use Rattle.of_msgs.specs.FlowMods.{command_at, command_number, IsFlowMod, as_mod_fault, ReadsFlowMod}
use Rattle.of_msgs.specs.declared.command.Command.{Command}
use Rattle.of_msgs.specs.declared.command.Command.TheVariants.{Add, Modify, ModifyStrict, Delete, DeleteStrict}

pub moved : (a b : List ℕ) (m : FlowMod) → a ≡ b → IsFlowMod a m → IsFlowMod b m
moved a b m e p = subst (λ (bytes : List ℕ). IsFlowMod bytes m) e p

-- the commands are numbered from 0 to 4
pub few_commands : (command : Command) → command_number command ≤ 4
few_commands Add = omega arith
few_commands Modify = omega arith
few_commands ModifyStrict = omega arith
few_commands Delete = omega arith
few_commands DeleteStrict = omega arith

-- a fault of the actions is the message's
pub faulty_actions : (fault : ActionFault) (bytes : List ℕ) → 72 ≤ length bytes → command_at bytes ≤ 4
    → Reads (Err fault) (actions_of (drop 72 bytes)) → ReadsFlowMod bytes (Err (as_mod_fault fault))
faulty_actions (actions.ActionLength place) bytes long few reads = (long, few, reads)
faulty_actions actions.OutOfMemory bytes long few reads = tt

pub refused : (answer : Result FlowMod ModFault) (fault : ActionFault) (bytes frame : List ℕ) → bytes ≡ frame → 72 ≤ length bytes → command_at bytes ≤ 4
    → Reads (Err fault) (actions_of (drop 72 bytes)) → IsErrAnd answer (λ e. e ≡ as_mod_fault fault) → ReadsFlowMod frame answer
refused (Ok m) fault bytes frame same long few reads given = absurd given
refused (Err e) fault bytes frame same long few reads given =
    subst (λ (f : ModFault). ReadsFlowMod frame (Err f)) (sym given)
    (subst (λ (bs : List ℕ). ReadsFlowMod bs (Err (as_mod_fault fault))) same (faulty_actions fault bytes long few reads))
