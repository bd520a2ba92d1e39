-- Reading actions from left to right, up to the first place where an action is faulty.
use Rattle.std.specs.Prelude.{◌≡◌, ℕ, zero, suc, ◌-◌, ◌%◌, ◌<◌, ◌≤◌, Bool, true, not, nat_lt, ◌==◌, ◌||◌, if◌then◌else◌, List, [], ◌∷◌, length, take, drop, slice_index, Result, Ok, Err}
use Rattle.mon_fields.specs.Fields.{number_at}
use Rattle.mon_header.specs.declared.action.Action.{Action}
use Rattle.mon_header.specs.declared.action.Action.TheVariants.{Output, SetVlanVid, SetVlanPcp, StripVlan, SetDlSrc, SetDlDst, SetNwSrc, SetNwDst, SetNwTos, SetTpSrc, SetTpDst, Enqueue, Unknown}
use Rattle.mon_header.specs.ActionTypes.{OUTPUT, SET_VLAN_VID, SET_VLAN_PCP, STRIP_VLAN, SET_DL_SRC, SET_DL_DST, SET_NW_SRC, SET_NW_DST, SET_NW_TOS, SET_TP_SRC, SET_TP_DST, ENQUEUE}
use Rattle.of_action.specs.declared.fault.ActionFault.{ActionFault}
use Rattle.of_action.specs.declared.fault.ActionFault.TheVariants as faults

abbrev pub kind_of : List ℕ → ℕ
kind_of bytes = number_at 2 0 bytes

abbrev pub len_of : List ℕ → ℕ
len_of bytes = number_at 2 2 bytes

-- the length that a type of the table has; the other types have any
abbrev pub has_its_length : ℕ → ℕ → Bool
has_its_length kind len =
    if nat_lt ENQUEUE kind then true
    else (if (kind == SET_DL_SRC) || ((kind == SET_DL_DST) || (kind == ENQUEUE)) then len == 16 else len == 8)

-- no whole action stands at the front: its type and length are cut off, the length is 0 or no multiple of 8, it goes beyond the end, or it is not the type's
unfoldable pub is_faulty : List ℕ → Bool
is_faulty bytes =
    nat_lt (length bytes) 4
    || ((len_of bytes == 0)
    || (not (len_of bytes % 8 == 0)
    || (nat_lt (length bytes) (len_of bytes)
    || not (has_its_length (kind_of bytes) (len_of bytes)))))

-- the bytes of one whole action
pub record IsAction (bytes : List ℕ) : Type 0 where
  pub header : 8 ≤ length bytes
  pub exact : len_of bytes ≡ length bytes
  pub whole : length bytes % 8 ≡ 0
  pub right : has_its_length (kind_of bytes) (length bytes) ≡ true

-- an action whose type is in the table
unfoldable pub known_action : ℕ → List ℕ → Action
known_action kind bytes =
    if kind == OUTPUT then Output (number_at 2 4 bytes) (number_at 2 6 bytes)
    else (if kind == SET_VLAN_VID then SetVlanVid (number_at 2 4 bytes)
    else (if kind == SET_VLAN_PCP then SetVlanPcp (slice_index bytes 4)
    else (if kind == STRIP_VLAN then StripVlan
    else (if kind == SET_DL_SRC then SetDlSrc (number_at 6 4 bytes)
    else (if kind == SET_DL_DST then SetDlDst (number_at 6 4 bytes)
    else (if kind == SET_NW_SRC then SetNwSrc (number_at 4 4 bytes)
    else (if kind == SET_NW_DST then SetNwDst (number_at 4 4 bytes)
    else (if kind == SET_NW_TOS then SetNwTos (slice_index bytes 4)
    else (if kind == SET_TP_SRC then SetTpSrc (number_at 2 4 bytes)
    else (if kind == SET_TP_DST then SetTpDst (number_at 2 4 bytes)
    else Enqueue (number_at 2 4 bytes) (number_at 4 12 bytes)))))))))))

-- the action of these bytes; one whose type is not in the table keeps them
abbrev pub action_of : List ℕ → Action
action_of bytes = if nat_lt ENQUEUE (kind_of bytes) then Unknown bytes else known_action (kind_of bytes) bytes

-- an action before those that are read behind it
abbrev pub before : Action → Result (List Action) ℕ → Result (List Action) ℕ
before action (Ok actions) = Ok (action ∷ actions)
before action (Err place) = Err place

-- the actions of the bytes from a place on, or the place of the first faulty one; the next bytes, as many as `rest`, belong to an action that was read
abbrev pub actions_from : ℕ → ℕ → List ℕ → Result (List Action) ℕ
actions_from place rest [] = Ok []
actions_from place (suc rest) (byte ∷ bytes) = actions_from (suc place) rest bytes
actions_from place zero (byte ∷ bytes) =
    let len = len_of (byte ∷ bytes) in
    if is_faulty (byte ∷ bytes) then Err place
    else before (action_of (take len (byte ∷ bytes))) (actions_from (suc place) (len - 1) bytes)

-- the actions of all the bytes, or the place of the first faulty one
abbrev pub actions_of : List ℕ → Result (List Action) ℕ
actions_of bytes = actions_from 0 0 bytes

-- the first faulty place: whole actions fill what stands before it, and none stands there
pub record IsFirstFault (bytes : List ℕ) (place : ℕ) : Type 0 where
  pub within : place < length bytes
  pub faulty : is_faulty (drop place bytes) ≡ true
  pub actions : List Action
  pub whole : actions_of (take place bytes) ≡ Ok actions

-- what a function answers is what reading gives, unless memory ran out
abbrev pub Reads : Result (List Action) ActionFault → Result (List Action) ℕ → Type 0
Reads (Ok actions) read = read ≡ Ok actions
Reads (Err (faults.ActionLength place)) read = read ≡ Err place
Reads (Err faults.OutOfMemory) read = Unit {0}
