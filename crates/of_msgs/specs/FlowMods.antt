-- A FLOW_MOD by its byte places (OpenFlow 1.0.0, modify flow entry message), and what one is refused for.
use Rattle.std.specs.Prelude.{◌≡◌, ℕ, ◌<◌, ◌≤◌, ◌^◌, List, ◌++◌, length, take, drop, slice_index, Result, Ok, Err}
use Rattle.std.specs.List.{AllByRecursion}
use Rattle.byteorder.specs.Endian.{big_bytes}
use Rattle.of_frame.specs.Kinds.{VERSION, FLOW_MOD}
use Rattle.of_frame.specs.Header.{IsFrame, kind_of, xid_of, made}
use Rattle.of_match.specs.Layout.{match_of}
use Rattle.mon_fields.specs.Fields.{number_at}
use Rattle.of_action.specs.Reading.{actions_of}
use Rattle.of_action.specs.declared.fault.ActionFault.{ActionFault}
use Rattle.of_action.specs.declared.fault.ActionFault.TheVariants as actions
use Rattle.of_msgs.specs.declared.command.Command.{Command}
use Rattle.of_msgs.specs.declared.command.Command.TheVariants.{Add, Modify, ModifyStrict, Delete, DeleteStrict}
use Rattle.of_msgs.specs.declared.fault.ModFault.{ModFault}
use Rattle.of_msgs.specs.declared.fault.ModFault.TheVariants as faults
use Rattle.of_msgs.specs.declared.flow_mod.FlowMod.{FlowMod}

-- the number of a command
abbrev pub command_number : Command → ℕ
command_number Add = 0
command_number Modify = 1
command_number ModifyStrict = 2
command_number Delete = 3
command_number DeleteStrict = 4

abbrev pub command_at : List ℕ → ℕ
command_at bytes = number_at 2 56 bytes

-- the numbers of a message fit their fields
pub record FitsMod (m : FlowMod) : Type 0 where
  pub xid : m.xid < 2 ^ 32
  pub spelled : length m.spelled ≡ 40
  pub cookie : m.cookie < 2 ^ 64
  pub idle : m.idle < 2 ^ 16
  pub hard : m.hard < 2 ^ 16
  pub priority : m.priority < 2 ^ 16
  pub buffer : m.buffer < 2 ^ 32
  pub out_port : m.out_port < 2 ^ 16
  pub flags : m.flags < 2 ^ 16

-- the bytes are a whole FLOW_MOD, and these are its fields
pub record IsFlowMod (bytes : List ℕ) (m : FlowMod) : Type 0 where
  pub long : 72 ≤ length bytes
  pub xid_at_4 : m.xid ≡ xid_of bytes
  pub match_at_8 : m.spelled ≡ take 40 (drop 8 bytes)
  pub matching : m.matching ≡ match_of (take 40 (drop 8 bytes))
  pub cookie_at_48 : m.cookie ≡ number_at 8 48 bytes
  pub command_at_56 : command_number m.command ≡ command_at bytes
  pub idle_at_58 : m.idle ≡ number_at 2 58 bytes
  pub hard_at_60 : m.hard ≡ number_at 2 60 bytes
  pub priority_at_62 : m.priority ≡ number_at 2 62 bytes
  pub buffer_at_64 : m.buffer ≡ number_at 4 64 bytes
  pub out_port_at_68 : m.out_port ≡ number_at 2 68 bytes
  pub flags_at_70 : m.flags ≡ number_at 2 70 bytes
  pub raw_from_72 : m.raw ≡ drop 72 bytes
  pub actions : actions_of (drop 72 bytes) ≡ Ok m.actions

-- a fault of the actions as one of the message
abbrev pub as_mod_fault : ActionFault → ModFault
as_mod_fault (actions.ActionLength place) = faults.ActionLength place
as_mod_fault actions.OutOfMemory = faults.OutOfMemory

-- what a reader of FLOW_MODs answers: the message, or the first of these faults that the bytes have, unless memory ran out
abbrev pub ReadsFlowMod : List ℕ → Result FlowMod ModFault → Type 0
ReadsFlowMod bytes (Ok m) = IsFlowMod bytes m
ReadsFlowMod bytes (Err faults.ModLength) = length bytes < 72
ReadsFlowMod bytes (Err faults.ModCommand) = (72 ≤ length bytes) × (command_number DeleteStrict < command_at bytes)
ReadsFlowMod bytes (Err (faults.ActionLength place)) =
    (72 ≤ length bytes) × (command_at bytes ≤ command_number DeleteStrict) × (actions_of (drop 72 bytes) ≡ Err place)
ReadsFlowMod bytes (Err faults.OutOfMemory) = Unit {0}

-- the fields between the match and the actions
abbrev pub fields_of_mod : FlowMod → List ℕ
fields_of_mod m =
    big_bytes 8 m.cookie ++ big_bytes 2 (command_number m.command) ++ big_bytes 2 m.idle ++ big_bytes 2 m.hard
    ++ big_bytes 2 m.priority ++ big_bytes 4 m.buffer ++ big_bytes 2 m.out_port ++ big_bytes 2 m.flags

-- the bytes are a whole frame, of the type FLOW_MOD
pub record IsFlowModFrame (bytes : List ℕ) : Type 0 where
  pub small : AllByRecursion (λ b. b < 256) bytes
  pub frame : IsFrame bytes
  pub version : slice_index bytes 0 ≡ VERSION
  pub kind : kind_of bytes ≡ FLOW_MOD

-- a frame with these flags in place of its own
abbrev pub with_flags : ℕ → List ℕ → List ℕ
with_flags set bytes = take 70 bytes ++ (big_bytes 2 set ++ drop 72 bytes)

-- the frame of a FLOW_MOD: the match and the actions as they were spelled
abbrev pub flow_mod_of : FlowMod → List ℕ
flow_mod_of m = made FLOW_MOD m.xid (m.spelled ++ fields_of_mod m ++ m.raw)
