-- The frames of the controller that wait, and what becomes of them.
use Rattle.std.specs.Prelude.{ℕ, ◌+◌, Bool, true, false, not, ◌==◌, ◌||◌, if◌then◌else◌, List, [], ◌∷◌, ◌++◌, length, drop, filter, find, sum_by, Option, Some, None, option_map, Result, Ok, Err}
use Rattle.std.specs.List.{list_any}
use Rattle.mon_header.specs.Matching.{Matching}
use Rattle.mon_table.specs.declared.rule.Rule.{Rule}
use Rattle.mon_table.specs.declared.edit.Edit.{Edit}
use Rattle.mon_table.specs.Edits.{edited}
use Rattle.of_msgs.specs.declared.flow_mod.FlowMod.{FlowMod}
use Rattle.of_msgs.specs.declared.fault.ModFault.{ModFault}
use Rattle.of_msgs.specs.declared.fault.ModFault.TheVariants as faults
use Rattle.of_msgs.specs.Errors.{BAD_REQUEST, BAD_REQUEST_BAD_LEN, BAD_ACTION, BAD_ACTION_BAD_LEN, FLOW_MOD_FAILED, ALL_TABLES_FULL, OVERLAP, EPERM, BAD_COMMAND}
use Rattle.of_msgs.specs.Layout.{error_of}
use Rattle.of_msgs.specs.ReadMods.{flow_mod_in}
use Rattle.mon_edits.specs.declared.refusal.ModRefusal.{ModRefusal}
use Rattle.mon_edits.specs.declared.refusal.ModRefusal.TheVariants as refusals
use Rattle.mon_edits.specs.Naming.{is_emergency}
use Rattle.mon_edits.specs.Edits.{edits_of}
use Rattle.mon_edits.specs.Refusals.{refusal, has_too_many_actions}
use Rattle.mon_shows.specs.Views.{Viewing}
use Rattle.mon_world.specs.declared.event.Side.TheVariants.{Controller, Switch}
use Rattle.mon_legal.specs.Changing.{with_if}
use Rattle.mon_legal.specs.Runs.{Run}
use Rattle.mon_legal.specs.Owns.{Own, Act, Close, Change}
use Rattle.mon_legal.specs.Owns.Own.{From_controller, From_switch, Acts}
use Rattle.mon_barriers.specs.declared.barriers.Reply.{Reply as Kept}
use Rattle.mon_legal.specs.Owns.Act.{Closing, Reply, Plan, Step}
use Rattle.mon_legal.specs.Messages.{is_light, is_flow_mod}
use Rattle.mon_legal.specs.Datapaths.{catching}
use Rattle.mon_legal.specs.Barriers.{count, is_armed, kept}
use Rattle.mon_barriers.specs.Barriers.{released}
use Rattle.mon_legal.specs.Edits.{Passed, entries, expected, unsettled, oldest, may_pass, cuts, rejected_by}
use Rattle.mon_legal.specs.Postponing.{edit_frame, stand_in_for, with_stand_in, stand_in_frame, closing_of}

-- what is still to be done of a frame: it goes on as it came; the controller gets an ERROR; or an edit of it goes on, the
-- first of which bears its buffer
pub data Part : Type 0 where
  Whole : (frame : List ℕ) → Part
  Refused : (error : List ℕ) → Part
  Changed : (came : List ℕ) (message : FlowMod) (edit : Edit) (first : Bool) → Part

-- the ERROR for a FLOW_MOD that cannot be read. Reading as a function of the bytes never lacks memory
abbrev pub refused_as : List ℕ → ModFault → List Part
refused_as frame faults.ModLength = Refused (error_of BAD_REQUEST BAD_REQUEST_BAD_LEN frame) ∷ []
refused_as frame faults.ModCommand = Refused (error_of FLOW_MOD_FAILED BAD_COMMAND frame) ∷ []
refused_as frame (faults.ActionLength place) = Refused (error_of BAD_ACTION BAD_ACTION_BAD_LEN frame) ∷ []
refused_as frame faults.OutOfMemory = []

-- the code of the ERROR, of type FLOW_MOD_FAILED, for one that is refused
abbrev pub code_of : ModRefusal → ℕ
code_of refusals.OverlapFlag = OVERLAP
code_of refusals.TableFull = ALL_TABLES_FULL
code_of other = EPERM

abbrev pub all_changed : List ℕ → FlowMod → Bool → List Edit → List Part
all_changed frame m first [] = []
all_changed frame m first (x ∷ edits) = Changed frame m x first ∷ all_changed frame m false edits

abbrev pub unless_refused : List ℕ → Option ModRefusal → FlowMod → List Edit → List Part
unless_refused frame (Some refused) m edits = Refused (error_of FLOW_MOD_FAILED (code_of refused) frame) ∷ []
unless_refused frame None m edits = all_changed frame m true edits

-- the fate of a FLOW_MOD, over the controller's entries, the catching table and the number of unsettled cuts
abbrev pub fate_of_mod : List Rule → List Rule → ℕ → List ℕ → Result FlowMod ModFault → List Part
fate_of_mod t catches taken_out frame (Err fault) = refused_as frame fault
fate_of_mod t catches taken_out frame (Ok m) =
    if is_emergency m then Whole frame ∷ [] else unless_refused frame (refusal t catches taken_out m) m (edits_of t m)

-- the fate of a frame that is planned over the controller's entries and the unsettled edits
abbrev pub fate : List Rule → List Rule → List Passed → List ℕ → List Part
fate catches t edits frame =
    if is_flow_mod frame then fate_of_mod t catches (cuts edits) frame (flow_mod_in frame) else Whole frame ∷ []

-- the frames of the controller that came and are not planned yet, the oldest first
abbrev pub waiting : List Own → List (List ℕ)
waiting [] = []
waiting (From_controller frame ∷ before) = with_if (not (is_light frame)) (waiting before) frame
waiting (Acts (Plan frame) ∷ before) = drop 1 (waiting before)
waiting (o ∷ before) = waiting before

-- what is left of the frame that was planned last: its fate over the table of its planning, less one part for each step
abbrev pub under_way : Run → List Own → List Part
under_way run [] = []
under_way run (Acts (Plan frame) ∷ before) = fate (catching run before) (entries before) (unsettled before) frame
under_way run (Acts (Step to frame change) ∷ before) = drop 1 (under_way run before)
under_way run (o ∷ before) = under_way run before

-- the match of a message that waits: one that is refused for itself, or is for the emergency table, waits for nothing
abbrev pub awaits : Result FlowMod ModFault → Option Matching
awaits (Err fault) = None
awaits (Ok m) = if is_emergency m || has_too_many_actions m then None else Some m.matching

-- the match that a frame awaits before it is planned
abbrev pub awaited : List ℕ → Option Matching
awaited frame = if is_flow_mod frame then awaits (flow_mod_in frame) else None

abbrev pub may_if : Option Matching → List Passed → Bool
may_if None edits = true
may_if (Some m) edits = may_pass m edits

-- and the one that what is left of a frame awaits
abbrev pub awaited_by : Part → Option Matching
awaited_by (Whole frame) = None
awaited_by (Refused error) = None
awaited_by (Changed frame m x first) = Some (edited x).matching

-- the edit as it was planned goes out, or with its stand-in
abbrev pub change_of : Option Rule → List ℕ → FlowMod → Edit → Bool → Act
change_of None frame m x first = Step Switch (edit_frame frame m x first) (Some (record { edit = x; closing = None }))
change_of (Some r) frame m x first =
    Step Switch (stand_in_frame m x r) (Some (record { edit = with_stand_in r x; closing = Some (closing_of m x r first) }))

-- the output of what is left, as it goes now
abbrev pub step_of : Viewing → List Rule → Part → Act
step_of v t (Whole frame) = Step Switch frame None
step_of v t (Refused error) = Step Controller error None
step_of v t (Changed frame m x first) = change_of (stand_in_for v t x) frame m x first

-- a closing that is to come, and the edit that was passed as a stand-in
pub record Postponed : Type 0 where
  pub edit : ℕ
  pub close : Close

abbrev pub without_closing : Option ℕ → List Postponed → List Postponed
without_closing None closings = closings
without_closing (Some edit) closings = filter (λ p. not (p.edit == edit)) closings

abbrev pub with_closing : ℕ → Option Close → List Postponed → List Postponed
with_closing number None closings = closings
with_closing number (Some close) closings = closings ++ record { edit = number; close = close } ∷ []

abbrev pub with_change : ℕ → Option Change → List Postponed → List Postponed
with_change number None closings = closings
with_change number (Some change) closings = with_closing number change.closing closings

-- the closings that did not come yet
abbrev pub postponed : List Own → List Postponed
postponed [] = []
postponed (Acts (Step to frame change) ∷ before) = with_change (count before + 1) change (postponed before)
postponed (Acts (Closing edit close) ∷ before) = without_closing (Some edit) (postponed before)
postponed (From_switch frame others ∷ before) = without_closing (rejected_by frame (unsettled before)) (postponed before)
postponed (o ∷ before) = postponed before

-- the closing that is due: its edit is not unsettled any more. That of a rejected edit never is
abbrev pub due_closing : List Passed → List Postponed → Option Act
due_closing edits closings =
    option_map (λ p. Closing p.edit p.close) (find (λ p. not (list_any (λ q. q.number == p.edit) edits)) closings)

-- the reply that is due: no edit that was passed before its request is unsettled
abbrev pub due_reply : List Passed → List Kept → Option Act
due_reply edits replies = option_map Reply (released (oldest edits) replies)

abbrev pub planned_if : Bool → List ℕ → Option Act
planned_if b frame = if b then Some (Plan frame) else None

-- the first frame that waits is planned as soon as its match overlaps that of no unsettled edit
abbrev pub due_plan : List Passed → List (List ℕ) → Option Act
due_plan edits [] = None
due_plan edits (frame ∷ later) = planned_if (may_if (awaited frame) edits) frame

abbrev pub due_step : Viewing → List Rule → List Passed → List (List ℕ) → List Part → Option Act
due_step v t edits waits [] = due_plan edits waits
due_step v t edits waits (part ∷ later) = if may_if (awaited_by part) edits then Some (step_of v t part) else None

abbrev pub or_else : Option Act → Option Act → Option Act
or_else (Some act) other = Some act
or_else None other = other

-- what an armed session does next by itself: a closing that is due, a reply that is due, or what its frames let it do
abbrev pub act_due : Bool → Viewing → List Rule → List Passed → List Postponed → List Kept → List (List ℕ) → List Part → Option Act
act_due false v t edits closings replies waits parts = None
act_due true v t edits closings replies waits parts =
    or_else (due_closing edits closings) (or_else (due_reply edits replies) (due_step v t edits waits parts))

abbrev pub due_act : Run → Viewing → List Own → Option Act
due_act run v own =
    act_due (is_armed own) v (expected (catching run own) own) (unsettled own) (postponed own) (kept own) (waiting own) (under_way run own)

-- how many bytes the frames have that lack their whole fate
abbrev pub is_empty : List Part → Bool
is_empty [] = true
is_empty (part ∷ parts) = false

abbrev pub last_planned : List Own → ℕ
last_planned [] = 0
last_planned (Acts (Plan frame) ∷ before) = length frame
last_planned (o ∷ before) = last_planned before

abbrev pub held_bytes : Run → List Own → ℕ
held_bytes run own =
    (if is_empty (under_way run own) then 0 else last_planned own) + sum_by length (waiting own)
