-- Rules that are passed by a stand-in: in the place of one that drops, one that marks its packets and sends them to a neighbour.
use Rattle.std.specs.Prelude.{ℕ, Bool, false, not, ◌&&◌, if◌then◌else◌, List, ◌++◌, Option, Some, None}
use Rattle.mon_table.specs.declared.rule.Rule.{Rule}
use Rattle.mon_table.specs.declared.edit.Edit.{Edit}
use Rattle.mon_table.specs.declared.edit.Edit.TheVariants.{Put, Cut}
use Rattle.mon_table.specs.Edits.{after, edited}
use Rattle.of_frame.specs.Kinds.{FLOW_MOD}
use Rattle.of_frame.specs.Header.{made}
use Rattle.of_match.specs.Layout as match_bytes
use Rattle.of_action.specs.Layout as action_bytes
use Rattle.of_msgs.specs.declared.flow_mod.FlowMod.{FlowMod}
use Rattle.of_msgs.specs.Absent.{NO_BUFFER}
use Rattle.of_msgs.specs.FlowMods.{fields_of_mod}
use Rattle.mon_edits.specs.Naming.{has_timeout, is_add}
use Rattle.mon_edits.specs.Frames.{frame_for, part_for, fields_for, message_for}
use Rattle.mon_shows.specs.Views.{Viewing}
use Rattle.mon_legal.specs.Owns.{Close}
use Rattle.mon_legal.specs.Ties.{tie}
use Rattle.mon_legal.specs.Actions.{is_drop}
use Rattle.mon_legal.specs.StandIns.{stand_in}
use Rattle.mon_legal.specs.Edits.{changes_nothing}

-- THE RULE THAT IS PASSED IN PLACE OF ANOTHER: a later kind of stand-in is one more case here, and nowhere else
abbrev pub stand_in_of : Viewing → Rule → Option Rule
stand_in_of v r = if is_drop r.actions then stand_in v r else None

-- the edit puts a rule, changes something, and is not tied where it would stand
abbrev pub may_postpone : List Rule → Edit → Bool
may_postpone t (Put r old) = not (changes_nothing (Put r old)) && not (tie (after t (Put r old)) (Put r old))
may_postpone t (Cut r) = false

-- the stand-in of an edit that is to be passed now, over the expected table
abbrev pub stand_in_for : Viewing → List Rule → Edit → Option Rule
stand_in_for v t x = if may_postpone t x then stand_in_of v (edited x) else None

-- the edit with another rule in the place of its own
abbrev pub with_stand_in : Rule → Edit → Edit
with_stand_in r (Put true_rule old) = Put r old
with_stand_in r (Cut s) = Cut s

-- the frame of an edit: an ADD without a timeout goes on as it came, and every other edit as `frame_for` says
abbrev pub edit_frame : List ℕ → FlowMod → Edit → Bool → List ℕ
edit_frame came m x first = if is_add m.command && not (has_timeout m) then came else frame_for m x first

-- the frame of the stand-in: the message itself or the frame of its edit, with the stand-in's actions and no buffer
abbrev pub without_buffer : FlowMod → Edit → FlowMod
without_buffer m x = record (message_for m x) { buffer = NO_BUFFER }

abbrev pub stand_in_frame : FlowMod → Edit → Rule → List ℕ
stand_in_frame m x r =
    if is_add m.command
    then made FLOW_MOD m.xid (m.spelled ++ fields_of_mod (without_buffer m x) ++ action_bytes.spelled r.actions)
    else made FLOW_MOD m.xid (match_bytes.spelled r.matching ++ fields_for m x false ++ action_bytes.spelled r.actions)

-- the edit of the closing: the true rule takes the place of its stand-in
abbrev pub closing_edit : Edit → Rule → Edit
closing_edit x r = Put (edited x) (Some r)

-- the closing of a stand-in: its frame modifies the entry strictly, and bears the buffer that the edit would have borne
abbrev pub closing_of : FlowMod → Edit → Rule → Bool → Close
closing_of m x r first = record { edit = closing_edit x r; frame = part_for m (closing_edit x r) first }
