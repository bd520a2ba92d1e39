-- The bytes of actions: type, length, fields and pads (OpenFlow 1.0.0, flow action structures).
use Rattle.std.specs.Prelude.{ℕ, List, ◌∷◌, ◌++◌, replicate}
use Rattle.std.specs.List.{flat_map}
use Rattle.byteorder.specs.Endian.{big_bytes}
use Rattle.mon_header.specs.declared.action.Action.{Action}
use Rattle.mon_header.specs.declared.action.Action.TheVariants.{Output, SetVlanVid, SetVlanPcp, StripVlan, SetDlSrc, SetDlDst, SetNwSrc, SetNwDst, SetNwTos, SetTpSrc, SetTpDst, Enqueue, Unknown}
use Rattle.mon_header.specs.ActionTypes.{OUTPUT, SET_VLAN_VID, SET_VLAN_PCP, STRIP_VLAN, SET_DL_SRC, SET_DL_DST, SET_NW_SRC, SET_NW_DST, SET_NW_TOS, SET_TP_SRC, SET_TP_DST, ENQUEUE}

-- bytes that mean nothing
abbrev pub pad : ℕ → List ℕ
pad n = replicate n 0

-- a type, a length, and what follows them
abbrev pub spelled_as : ℕ → ℕ → List ℕ → List ℕ
spelled_as kind len fields = big_bytes 2 kind ++ big_bytes 2 len ++ fields

-- the bytes of one action; those of an unknown one are all kept
abbrev pub spelled_action : Action → List ℕ
spelled_action (Output port max_len) = spelled_as OUTPUT 8 (big_bytes 2 port ++ big_bytes 2 max_len)
spelled_action (SetVlanVid vid) = spelled_as SET_VLAN_VID 8 (big_bytes 2 vid ++ pad 2)
spelled_action (SetVlanPcp pcp) = spelled_as SET_VLAN_PCP 8 (pcp ∷ pad 3)
spelled_action StripVlan = spelled_as STRIP_VLAN 8 (pad 4)
spelled_action (SetDlSrc address) = spelled_as SET_DL_SRC 16 (big_bytes 6 address ++ pad 6)
spelled_action (SetDlDst address) = spelled_as SET_DL_DST 16 (big_bytes 6 address ++ pad 6)
spelled_action (SetNwSrc address) = spelled_as SET_NW_SRC 8 (big_bytes 4 address)
spelled_action (SetNwDst address) = spelled_as SET_NW_DST 8 (big_bytes 4 address)
spelled_action (SetNwTos tos) = spelled_as SET_NW_TOS 8 (tos ∷ pad 3)
spelled_action (SetTpSrc port) = spelled_as SET_TP_SRC 8 (big_bytes 2 port ++ pad 2)
spelled_action (SetTpDst port) = spelled_as SET_TP_DST 8 (big_bytes 2 port ++ pad 2)
spelled_action (Enqueue port queue) = spelled_as ENQUEUE 16 (big_bytes 2 port ++ pad 6 ++ big_bytes 4 queue)
spelled_action (Unknown bytes) = bytes

-- the bytes of a list of actions, one after the other
abbrev pub spelled : List Action → List ℕ
spelled actions = flat_map spelled_action actions
