-- The layouts of messages, by byte places (OpenFlow 1.0.0, the sections of each message). All numbers are big-endian.
use Rattle.std.specs.Prelude.{◌≡◌, ℕ, ◌≤◌, nat_lt, if◌then◌else◌, List, [], ◌∷◌, ◌++◌, length, take, drop, slice_index, Option, Some, None}
use Rattle.byteorder.specs.Endian.{big_bytes}
use Rattle.mon_header.specs.declared.action.Action.TheVariants.{Output}
use Rattle.of_frame.specs.Kinds.{ERROR, PACKET_OUT}
use Rattle.of_frame.specs.Header.{kind_of, xid_of, made}
use Rattle.of_action.specs.Layout.{spelled}
use Rattle.mon_fields.specs.Fields.{number_at}
use Rattle.of_msgs.specs.Absent.{NO_BUFFER, NO_PORT}

-- a FEATURES_REPLY begins with the datapath at 8; its ports begin at 32
abbrev pub datapath_of : List ℕ → Option ℕ
datapath_of bytes = if nat_lt (length bytes) 32 then None else Some (number_at 8 8 bytes)

-- a SET_CONFIG has its flags at 8 and its miss length at 10
abbrev pub miss_length_of : List ℕ → Option ℕ
miss_length_of bytes = if nat_lt (length bytes) 12 then None else Some (number_at 2 10 bytes)

-- a PACKET_IN has the port at 14, the reason at 16, and the packet from 18 on
pub record IsPacketIn (bytes : List ℕ) (port reason : ℕ) (packet : List ℕ) : Type 0 where
  pub long : 18 ≤ length bytes
  pub port_at_14 : port ≡ number_at 2 14 bytes
  pub reason_at_16 : reason ≡ slice_index bytes 16
  pub packet_from_18 : packet ≡ drop 18 bytes

-- an ERROR has its type at 8, its code at 10, and what failed from 12 on
pub record IsError (bytes : List ℕ) (kind code : ℕ) (failed : List ℕ) : Type 0 where
  pub long : 12 ≤ length bytes
  pub kind_at_8 : kind ≡ number_at 2 8 bytes
  pub code_at_10 : code ≡ number_at 2 10 bytes
  pub failed_from_12 : failed ≡ drop 12 bytes

-- the ERROR for a frame: its xid, and its first 64 bytes, or all of a shorter one
abbrev pub error_of : ℕ → ℕ → List ℕ → List ℕ
error_of kind code failed = made ERROR (xid_of failed) (big_bytes 2 kind ++ big_bytes 2 code ++ take 64 failed)

-- a PACKET_OUT has the buffer at 8, the port at which the packet came at 12, the length of the actions at 14, the actions from 16 on, and then the packet
pub record IsPacketOut (bytes : List ℕ) (xid buffer in_port : ℕ) (actions packet : List ℕ) : Type 0 where
  pub kind : kind_of bytes ≡ PACKET_OUT
  pub xid_at_4 : xid ≡ xid_of bytes
  pub buffer_at_8 : buffer ≡ number_at 4 8 bytes
  pub in_port_at_12 : in_port ≡ number_at 2 12 bytes
  pub len_at_14 : length actions ≡ number_at 2 14 bytes
  pub actions_from_16 : actions ++ packet ≡ drop 16 bytes

-- the transaction id of the monitor's own frames
abbrev pub own_xid : ℕ
own_xid = 0x4d6f6e6f

-- one output, with none of the packet for the controller
abbrev pub output_to : ℕ → List ℕ
output_to port = spelled (Output port 0 ∷ [])

-- the monitor's PACKET_OUT: no buffer, no port at which the packet came, eight bytes of actions, and the packet
abbrev pub packet_out_of : ℕ → List ℕ → List ℕ
packet_out_of port packet =
    made PACKET_OUT own_xid (big_bytes 4 NO_BUFFER ++ (big_bytes 2 NO_PORT ++ (big_bytes 2 8 ++ (output_to port ++ packet))))
