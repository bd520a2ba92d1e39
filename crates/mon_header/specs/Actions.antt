-- Actions: which bytes are kept as an unknown one, and which numbers fit.
use Rattle.std.specs.Prelude.{◌<◌, ◌^◌, List, [], ◌∷◌}
use Rattle.mon_header.specs.declared.action.Action.{Action}
use Rattle.mon_header.specs.declared.action.Action.TheVariants.{Output, SetVlanVid, SetVlanPcp, StripVlan, SetDlSrc, SetDlDst, SetNwSrc, SetNwDst, SetNwTos, SetTpSrc, SetTpDst, Enqueue, Unknown}
use Rattle.mon_header.specs.Raw.{IsRawAction}

-- the numbers of an action fit their fields
abbrev pub FitsAction : Action → Type 0
FitsAction (Output port max_len) = (port < 2 ^ 16) × (max_len < 2 ^ 16)
FitsAction (SetVlanVid vid) = vid < 2 ^ 16
FitsAction (SetVlanPcp pcp) = pcp < 2 ^ 8
FitsAction StripVlan = Unit {0}
FitsAction (SetDlSrc address) = address < 2 ^ 48
FitsAction (SetDlDst address) = address < 2 ^ 48
FitsAction (SetNwSrc address) = address < 2 ^ 32
FitsAction (SetNwDst address) = address < 2 ^ 32
FitsAction (SetNwTos tos) = tos < 2 ^ 8
FitsAction (SetTpSrc port) = port < 2 ^ 16
FitsAction (SetTpDst port) = port < 2 ^ 16
FitsAction (Enqueue port queue) = (port < 2 ^ 16) × (queue < 2 ^ 32)
FitsAction (Unknown bytes) = IsRawAction bytes

-- all actions of a list fit
abbrev pub AllFit : List Action → Type 0
AllFit [] = Unit {0}
AllFit (action ∷ actions) = FitsAction action × AllFit actions
