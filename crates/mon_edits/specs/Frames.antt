-- The frame in which an edit of a FLOW_MOD goes to the switch.
use Rattle.std.specs.Prelude.{◌≡◌, ℕ, ◌+◌, Bool, true, false, not, ◌&&◌, if◌then◌else◌, List, [], ◌∷◌, ◌++◌, Some, None}
use Rattle.byteorder.specs.Endian.{big_bytes}
use Rattle.mon_header.specs.declared.action.Action.{Action}
use Rattle.mon_table.specs.declared.edit.Edit.{Edit}
use Rattle.mon_table.specs.declared.edit.Edit.TheVariants.{Put, Cut}
use Rattle.mon_table.specs.Edits.{edited}
use Rattle.of_frame.specs.Kinds.{FLOW_MOD}
use Rattle.of_frame.specs.Header.{made}
use Rattle.of_match.specs.Layout.{spelled}
use Rattle.of_msgs.specs.declared.command.Command.{Command}
use Rattle.of_msgs.specs.declared.command.Command.TheVariants.{Add, ModifyStrict, DeleteStrict}
use Rattle.of_msgs.specs.declared.flow_mod.FlowMod.{FlowMod}
use Rattle.of_msgs.specs.Absent.{NO_BUFFER, NO_PORT}
use Rattle.of_msgs.specs.Flags.{SEND_FLOW_REM, has_flag}
use Rattle.of_msgs.specs.FlowMods.{command_number, flow_mod_of}
use Rattle.mon_edits.specs.Naming.{has_timeout, is_add}

-- the edit takes an entry out
abbrev pub is_cut : Edit → Bool
is_cut (Put r old) = false
is_cut (Cut r) = true

-- the command that does the edit and touches no other entry
abbrev pub command_for : Edit → Command
command_for (Put r None) = Add
command_for (Put r (Some old)) = ModifyStrict
command_for (Cut r) = DeleteStrict

-- the bytes of the message's actions; a deletion has none
abbrev pub raw_for : FlowMod → Edit → List ℕ
raw_for m (Put r old) = m.raw
raw_for m (Cut r) = []

abbrev pub actions_for : FlowMod → Edit → List Action
actions_for m (Put r old) = m.actions
actions_for m (Cut r) = []

-- the first frame of a message bears its buffer, the others none
abbrev pub buffer_for : FlowMod → Bool → ℕ
buffer_for m first = if first then m.buffer else NO_BUFFER

-- the edit puts an unsure rule
abbrev pub puts_unsure : Edit → Bool
puts_unsure (Put r old) = r.unsure
puts_unsure (Cut r) = false

-- these flags with SEND_FLOW_REM
abbrev pub with_removal : ℕ → ℕ
with_removal flags = if has_flag SEND_FLOW_REM flags then flags else flags + SEND_FLOW_REM

-- the message's flags; where an unsure rule is put the switch shall say when it goes
abbrev pub flags_for : FlowMod → Edit → ℕ
flags_for m e = if puts_unsure e then with_removal m.flags else m.flags

-- the message as it came, but for those flags
abbrev pub message_for : FlowMod → Edit → FlowMod
message_for m e = record m { flags = flags_for m e }

-- the message's cookie, the command, its timeouts, the entry's priority field, the buffer, no out_port, and the flags
abbrev pub fields_for : FlowMod → Edit → Bool → List ℕ
fields_for m e first =
    big_bytes 8 m.cookie ++ big_bytes 2 (command_number (command_for e)) ++ big_bytes 2 m.idle ++ big_bytes 2 m.hard
    ++ big_bytes 2 (edited e).priority ++ big_bytes 4 (buffer_for m first) ++ big_bytes 2 NO_PORT ++ big_bytes 2 (flags_for m e)

-- the frame of one edit: the message's xid, the entry's normalised match, the fields, and the bytes of the actions
abbrev pub part_for : FlowMod → Edit → Bool → List ℕ
part_for m e first = made FLOW_MOD m.xid (spelled (edited e).matching ++ fields_for m e first ++ raw_for m e)

-- an ADD goes on as it came, but for that flag, and every other edit in a frame of its own
abbrev pub frame_for : FlowMod → Edit → Bool → List ℕ
frame_for m e first = if is_add m.command then flow_mod_of (message_for m e) else part_for m e first

-- a frame for each edit of a message, the first of which bears the message's buffer
abbrev pub parts : FlowMod → Bool → List Edit → List (List ℕ)
parts m first [] = []
parts m first (edit ∷ edits) = frame_for m edit first ∷ parts m false edits

-- the frames in which a message goes to the switch that has these edits: an ADD without a timeout goes on as it came,
-- and every other message in parts
abbrev pub frames_of : FlowMod → List Edit → List ℕ → List (List ℕ)
frames_of m edits frame = if is_add m.command && not (has_timeout m) then frame ∷ [] else parts m true edits

-- a message of those fields
pub record IsPart (m : FlowMod) (e : Edit) (first : Bool) (part : FlowMod) : Type 0 where
  pub xid : part.xid ≡ m.xid
  pub spelled : part.spelled ≡ spelled (edited e).matching
  pub cookie : part.cookie ≡ m.cookie
  pub command : part.command ≡ command_for e
  pub idle : part.idle ≡ m.idle
  pub hard : part.hard ≡ m.hard
  pub priority : part.priority ≡ (edited e).priority
  pub buffer : part.buffer ≡ buffer_for m first
  pub out_port : part.out_port ≡ NO_PORT
  pub flags : part.flags ≡ flags_for m e
  pub raw : part.raw ≡ raw_for m e

-- the same message with these flags
pub record IsFlagged (m : FlowMod) (set : ℕ) (part : FlowMod) : Type 0 where
  pub xid : part.xid ≡ m.xid
  pub spelled : part.spelled ≡ m.spelled
  pub cookie : part.cookie ≡ m.cookie
  pub command : part.command ≡ m.command
  pub idle : part.idle ≡ m.idle
  pub hard : part.hard ≡ m.hard
  pub priority : part.priority ≡ m.priority
  pub buffer : part.buffer ≡ m.buffer
  pub out_port : part.out_port ≡ m.out_port
  pub flags : part.flags ≡ set
  pub raw : part.raw ≡ m.raw
