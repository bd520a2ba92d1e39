-- Reading a FLOW_MOD as a function of its bytes: the message, or the first fault.
use Rattle.std.specs.Prelude.{◌≡◌, ℕ, ◌≤◌, Bool, true, false, nat_lt, ◌==◌, if◌then◌else◌, List, length, take, drop, Option, Some, None, Result, Ok, Err}
use Rattle.std.proofs.Common.{refl}
use Rattle.std.proofs.lemmas.Bool.{ltb-false}
use Rattle.mon_header.specs.declared.action.Action.{Action}
use Rattle.of_frame.specs.Header.{xid_of}
use Rattle.of_match.specs.Layout.{match_of}
use Rattle.mon_fields.specs.Fields.{number_at}
use Rattle.of_action.specs.Reading.{actions_of}
use Rattle.of_msgs.specs.declared.command.Command.{Command}
use Rattle.of_msgs.specs.declared.command.Command.TheVariants.{Add, Modify, ModifyStrict, Delete, DeleteStrict}
use Rattle.of_msgs.specs.declared.fault.ModFault.{ModFault}
use Rattle.of_msgs.specs.declared.fault.ModFault.TheVariants as faults
use Rattle.of_msgs.specs.declared.flow_mod.FlowMod.{FlowMod}
use Rattle.of_msgs.specs.Kept.{Means}
use Rattle.of_msgs.specs.FlowMods.{command_number, command_at}

-- the command of a number, where there is one
abbrev pub command_numbered : ℕ → Option Command
command_numbered number =
    if number == command_number Add then Some Add
    else (if number == command_number Modify then Some Modify
    else (if number == command_number ModifyStrict then Some ModifyStrict
    else (if number == command_number Delete then Some Delete
    else (if number == command_number DeleteStrict then Some DeleteStrict
    else None))))

-- the message of these bytes, whose command and actions were read, with the facts that a message keeps
abbrev pub mod_of : (bytes : List ℕ) → Command → (actions : List Action)
    → length (drop 72 bytes) ≤ 65463 → Means (drop 72 bytes) actions → FlowMod
mod_of bytes command actions short meant = record {
  xid = xid_of bytes;
  spelled = take 40 (drop 8 bytes);
  matching = match_of (take 40 (drop 8 bytes));
  cookie = number_at 8 48 bytes;
  command = command;
  idle = number_at 2 58 bytes;
  hard = number_at 2 60 bytes;
  priority = number_at 2 62 bytes;
  buffer = number_at 4 64 bytes;
  out_port = number_at 2 68 bytes;
  flags = number_at 2 70 bytes;
  actions = actions;
  raw = drop 72 bytes;
  short = short;
  matched = refl;
  meant = meant;
}

-- the message, by whether its actions are too long for a frame. Those of a frame never are, so the fault that stands here for them is of no frame: any would do
abbrev pub mod_in_frame : (bytes : List ℕ) → Command → (actions : List Action) → Means (drop 72 bytes) actions
    → (over : Bool) → nat_lt 65463 (length (drop 72 bytes)) ≡ over → Result FlowMod ModFault
mod_in_frame bytes command actions meant true long = Err faults.ModLength
mod_in_frame bytes command actions meant false fits =
    Ok (mod_of bytes command actions (ltb-false 65463 (length (drop 72 bytes)) fits) meant)

-- the message, or the fault of its actions, by what is read of them
abbrev pub mod_of_actions : (bytes : List ℕ) → Command → (read : Result (List Action) ℕ) → actions_of (drop 72 bytes) ≡ read → Result FlowMod ModFault
mod_of_actions bytes command (Ok actions) meant =
    mod_in_frame bytes command actions meant (nat_lt 65463 (length (drop 72 bytes))) refl
mod_of_actions bytes command (Err place) faulty = Err (faults.ActionLength place)

-- the message, or its fault, by the command of its number
abbrev pub mod_of_command : List ℕ → Option Command → Result FlowMod ModFault
mod_of_command bytes (Some command) = mod_of_actions bytes command (actions_of (drop 72 bytes)) refl
mod_of_command bytes None = Err faults.ModCommand

-- the message of a frame's bytes, or the first of the faults that they have
unfoldable pub flow_mod_in : List ℕ → Result FlowMod ModFault
flow_mod_in bytes =
    if nat_lt (length bytes) 72 then Err faults.ModLength
    else mod_of_command bytes (command_numbered (command_at bytes))
