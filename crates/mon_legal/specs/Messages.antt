-- The frames of which sessions speak (OpenFlow 1.0.0), and those that the proxy makes by itself.
use Rattle.std.specs.Prelude.{ℕ, Bool, false, not, ◌==◌, nat_le, ◌&&◌, ◌||◌, if◌then◌else◌, List, [], ◌∷◌, ◌++◌, length, take, drop, map, filter, Some, None}
use Rattle.std.specs.Str.{bytes_eq}
use Rattle.byteorder.specs.Endian.{big_bytes}
use Rattle.mon_fields.specs.Fields.{number_at}
use Rattle.mon_header.specs.declared.header.Header.{Header}
use Rattle.mon_header.specs.declared.header.TheConstants.{BLANK}
use Rattle.mon_header.specs.Assigned.{CONTROLLER_PORT}
use Rattle.mon_header.specs.declared.action.Action.TheVariants.{Output}
use Rattle.mon_header.specs.Wild.{unpacked}
use Rattle.mon_header.specs.Matching.{Matching, normal}
use Rattle.mon_table.specs.declared.rule.Rule.{Rule}
use Rattle.mon_table.specs.Rules.{Identity, identity}
use Rattle.mon_table.specs.Tables.{with_rule}
use Rattle.of_frame.specs.Kinds.{HELLO, ERROR, FLOW_MOD}
use Rattle.of_frame.specs.Header.{kind_of, xid_of, made}
use Rattle.of_match.specs.Layout.{spelled, match_of}
use Rattle.of_action.specs.Layout as actions
use Rattle.of_msgs.specs.declared.command.Command.{Command}
use Rattle.of_msgs.specs.declared.command.Command.TheVariants.{Add, Delete}
use Rattle.of_msgs.specs.Absent.{NO_BUFFER, NO_PORT}
use Rattle.of_msgs.specs.FlowMods.{command_number}
use Rattle.of_msgs.specs.Layout.{own_xid, packet_out_of}
use Rattle.mon_outcome.specs.declared.emission.Emission.{Emission}
use Rattle.mon_outcome.specs.Emitting.{shown}
use Rattle.mon_packet.specs.Frames.{rendered}
use Rattle.mon_packet.specs.Reading.{Read, parsed}
use Rattle.mon_legal.specs.StandIns.{drop_mark}
use Rattle.mon_legal.specs.Kinds.{ECHO_REQUEST, ECHO_REPLY, FEATURES_REQUEST, FEATURES_REPLY, SET_CONFIG, PACKET_IN, FLOW_REMOVED, BARRIER_REQUEST, BARRIER_REPLY}

-- which type a frame has
abbrev pub is_error : List ℕ → Bool
is_error frame = kind_of frame == ERROR

abbrev pub is_features_reply : List ℕ → Bool
is_features_reply frame = kind_of frame == FEATURES_REPLY

abbrev pub is_set_config : List ℕ → Bool
is_set_config frame = kind_of frame == SET_CONFIG

abbrev pub is_packet_in : List ℕ → Bool
is_packet_in frame = kind_of frame == PACKET_IN

abbrev pub is_flow_removed : List ℕ → Bool
is_flow_removed frame = kind_of frame == FLOW_REMOVED

abbrev pub is_flow_mod : List ℕ → Bool
is_flow_mod frame = kind_of frame == FLOW_MOD

abbrev pub is_barrier_request : List ℕ → Bool
is_barrier_request frame = kind_of frame == BARRIER_REQUEST

abbrev pub is_barrier_reply : List ℕ → Bool
is_barrier_reply frame = kind_of frame == BARRIER_REPLY

-- a frame of the controller that may overtake those that wait: HELLO, ECHO_REQUEST or ECHO_REPLY
abbrev pub is_light : List ℕ → Bool
is_light frame = (kind_of frame == HELLO) || ((kind_of frame == ECHO_REQUEST) || (kind_of frame == ECHO_REPLY))

-- a FLOW_REMOVED that tells of a timeout (its reason is 0 or 1), and the identity of the entry that it names
abbrev pub is_vanished : List ℕ → Bool
is_vanished frame = is_flow_removed frame && (nat_le 88 (length frame) && nat_le (number_at 1 58 frame) 1)

abbrev pub identity_gone : List ℕ → Identity
identity_gone frame = identity (match_of (take 40 (drop 8 frame))) (number_at 2 56 frame)

-- an ERROR for a frame: it bears the frame's xid and its first 64 bytes
abbrev pub is_error_for : List ℕ → List ℕ → Bool
is_error_for error frame =
    is_error error && (nat_le 12 (length error) && ((xid_of error == xid_of frame) && bytes_eq (take 64 (drop 12 error)) (take 64 frame)))

-- any other ERROR with the proxy's own xid
abbrev pub is_own_error : List ℕ → Bool
is_own_error frame = is_error frame && (xid_of frame == own_xid)

-- what the data of a PACKET_IN reads as, where it is a packet that a probe can be: its header and its nonce
abbrev pub carried_in : List ℕ → Read
carried_in frame = if is_packet_in frame && nat_le 18 (length frame) then parsed (drop 18 frame) else None

-- the proxy's own FEATURES_REQUEST and BARRIER_REQUEST
abbrev pub features_request : List ℕ
features_request = made FEATURES_REQUEST own_xid []

abbrev pub own_barrier : List ℕ
own_barrier = made BARRIER_REQUEST own_xid []

-- wildcards: all, all but the tag, and all but the destination (OpenFlow 1.0.0, flow match structures)
abbrev pub ALL_WILD : ℕ
ALL_WILD = 0x003820ff

abbrev pub BUT_TAG : ℕ
BUT_TAG = 0x003820fd

abbrev pub BUT_DESTINATION : ℕ
BUT_DESTINATION = 0x003820f7

-- the priorities of the proxy's entries, the catching ones above the one that drops
abbrev pub CATCHING_PRIORITY : ℕ
CATCHING_PRIORITY = 65535

abbrev pub DROPPING_PRIORITY : ℕ
DROPPING_PRIORITY = 65534

-- how many bytes of a packet go to the controller: as many as it has, where it is caught, and of a miss
abbrev pub WHOLE : ℕ
WHOLE = 65535

abbrev pub MISS_LENGTH : ℕ
MISS_LENGTH = 128

-- the match of every packet, of the packets with a tag, and of those with the address that marks drops
abbrev pub all_packets : Matching
all_packets = normal (unpacked ALL_WILD) BLANK

abbrev pub with_tag : ℕ → Matching
with_tag tag = normal (unpacked BUT_TAG) (record BLANK { dl_vlan = tag })

abbrev pub with_drop_mark : Matching
with_drop_mark = normal (unpacked BUT_DESTINATION) (record BLANK { dl_dst = drop_mark })

-- the entry by which a switch hands the probes of another tag to the proxy, and the one that drops what is marked
abbrev pub catching_rule : ℕ → Rule
catching_rule tag = record { matching = with_tag tag; priority = CATCHING_PRIORITY; actions = Output CONTROLLER_PORT WHOLE ∷ []; unsure = false }

abbrev pub mark_rule : Rule
mark_rule = record { matching = with_drop_mark; priority = DROPPING_PRIORITY; actions = []; unsure = false }

-- the tags that a switch with this one catches
abbrev pub other_tags : ℕ → List ℕ → List ℕ
other_tags tag in_use = filter (λ other. not (other == tag)) in_use

-- the table with which a switch is armed
abbrev pub put_all : List Rule → List Rule → List Rule
put_all [] t = t
put_all (r ∷ rs) t = put_all rs (with_rule r t)

abbrev pub catching_table : ℕ → List ℕ → List Rule
catching_table tag in_use = put_all (map catching_rule (other_tags tag in_use) ++ mark_rule ∷ []) []

-- the fields of a FLOW_MOD of the proxy's own: no cookie, the command, no timeouts, the priority, no buffer, out_port or flags
abbrev pub own_fields : Command → ℕ → List ℕ
own_fields command priority =
    big_bytes 8 0 ++ big_bytes 2 (command_number command) ++ big_bytes 2 0 ++ big_bytes 2 0 ++ big_bytes 2 priority
    ++ big_bytes 4 NO_BUFFER ++ big_bytes 2 NO_PORT ++ big_bytes 2 0

-- a FLOW_MOD of the proxy's own
abbrev pub own_mod : Command → Rule → List ℕ
own_mod command r = made FLOW_MOD own_xid (spelled r.matching ++ own_fields command r.priority ++ actions.spelled r.actions)

-- what arms a switch with this tag: its table is cleared, misses are sent with 128 bytes, it gets its catching entries, and a
-- barrier says when all of this is done
abbrev pub arming_frames : ℕ → List ℕ → List (List ℕ)
arming_frames tag in_use =
    own_mod Delete (record { matching = all_packets; priority = 0; actions = []; unsure = false })
    ∷ made SET_CONFIG own_xid (big_bytes 2 0 ++ big_bytes 2 MISS_LENGTH)
    ∷ (map (λ other. own_mod Add (catching_rule other)) (other_tags tag in_use) ++ own_mod Add mark_rule ∷ own_barrier ∷ [])

-- the PACKET_OUT of a probe, for the neighbour's port
abbrev pub probe_frame : ℕ → ℕ → ℕ → Header → List ℕ
probe_frame key serial port h = packet_out_of port (rendered h (record { key = key; serial = serial }))

-- the header of the probe in a PACKET_OUT, which came in where its emission says
abbrev pub header_read : Read → ℕ → Header
header_read None in_port = record BLANK { in_port = in_port }
header_read (Some found) in_port = record found.0 { in_port = in_port }

abbrev pub header_of_probe : List ℕ → Emission → Header
header_of_probe frame e = header_read (parsed (drop 24 frame)) (shown e).in_port
