-- The types of actions (OpenFlow 1.0.0, flow action structures), as they are numbered from 0 on.
use Rattle.std.specs.Prelude.{ℕ}

abbrev pub OUTPUT : ℕ
OUTPUT = 0

abbrev pub SET_VLAN_VID : ℕ
SET_VLAN_VID = 1

abbrev pub SET_VLAN_PCP : ℕ
SET_VLAN_PCP = 2

abbrev pub STRIP_VLAN : ℕ
STRIP_VLAN = 3

abbrev pub SET_DL_SRC : ℕ
SET_DL_SRC = 4

abbrev pub SET_DL_DST : ℕ
SET_DL_DST = 5

abbrev pub SET_NW_SRC : ℕ
SET_NW_SRC = 6

abbrev pub SET_NW_DST : ℕ
SET_NW_DST = 7

abbrev pub SET_NW_TOS : ℕ
SET_NW_TOS = 8

abbrev pub SET_TP_SRC : ℕ
SET_TP_SRC = 9

abbrev pub SET_TP_DST : ℕ
SET_TP_DST = 10

-- the last one of the table
abbrev pub ENQUEUE : ℕ
ENQUEUE = 11
