-- What becomes of the frames of the controller, by the table of the entries that it has on the switch.
use Rattle.std.specs.Prelude.{◌≡◌, ℕ, false, ◌==◌, if◌then◌else◌, List, [], ◌∷◌, flat_map, Option, Some, None, Result, Ok, Err}
use Rattle.of_frame.specs.Kinds.{FLOW_MOD}
use Rattle.of_frame.specs.Header.{kind_of}
use Rattle.mon_table.specs.declared.rule.Rule.{Rule}
use Rattle.mon_table.specs.declared.edit.Edit.{Edit}
use Rattle.mon_table.specs.Edits.{after_all}
use Rattle.of_msgs.specs.declared.fault.ModFault.{ModFault}
use Rattle.of_msgs.specs.declared.fault.ModFault.TheVariants as faults
use Rattle.of_msgs.specs.declared.flow_mod.FlowMod.{FlowMod}
use Rattle.of_msgs.specs.Errors.{BAD_REQUEST, BAD_REQUEST_BAD_LEN, BAD_ACTION, BAD_ACTION_BAD_LEN, FLOW_MOD_FAILED, ALL_TABLES_FULL, OVERLAP, EPERM, BAD_COMMAND}
use Rattle.of_msgs.specs.Layout.{error_of}
use Rattle.of_msgs.specs.ReadMods.{flow_mod_in}
use Rattle.mon_edits.specs.declared.refusal.ModRefusal.{ModRefusal}
use Rattle.mon_edits.specs.declared.refusal.ModRefusal.TheVariants as refusals
use Rattle.mon_edits.specs.Naming.{is_emergency}
use Rattle.mon_edits.specs.Refusals.{refusal}
use Rattle.mon_edits.specs.Edits.{edits_of}
use Rattle.mon_edits.specs.Frames.{frames_of}
use Rattle.mon_core.specs.declared.fate.Fate.{Fate}
use Rattle.mon_core.specs.declared.fate.Fate.TheVariants.{Passed, Refused, Edited}

-- the type and the code of the ERROR for a FLOW_MOD that cannot be read. Reading as a function of the bytes never lacks
-- memory, so the last line is of no frame
abbrev pub of_fault : ModFault → Fate
of_fault faults.ModLength = Refused BAD_REQUEST BAD_REQUEST_BAD_LEN
of_fault faults.ModCommand = Refused FLOW_MOD_FAILED BAD_COMMAND
of_fault (faults.ActionLength place) = Refused BAD_ACTION BAD_ACTION_BAD_LEN
of_fault faults.OutOfMemory = Passed

-- those for a FLOW_MOD that is refused; none is for want of memory
abbrev pub of_refusal : ModRefusal → Fate
of_refusal refusals.TooManyActions = Refused FLOW_MOD_FAILED EPERM
of_refusal refusals.Reserved = Refused FLOW_MOD_FAILED EPERM
of_refusal refusals.OverlapFlag = Refused FLOW_MOD_FAILED OVERLAP
of_refusal refusals.TableFull = Refused FLOW_MOD_FAILED ALL_TABLES_FULL
of_refusal refusals.OutOfMemory = Passed

-- the refusal, if there is one, and else the edits
abbrev pub unless_refused : Option ModRefusal → FlowMod → List Edit → Fate
unless_refused (Some refused) m edits = of_refusal refused
unless_refused None m edits = Edited m edits

-- a message for the emergency table passes, and any other is refused or has its edits. The proxy has no entries of its own
-- yet, and waits for no entry that was taken out
abbrev pub planned : List Rule → FlowMod → Fate
planned t m = if is_emergency m then Passed else unless_refused (refusal t [] 0 m) m (edits_of t m)

-- a message, or the fault with which it could not be read
abbrev pub of_reading : List Rule → Result FlowMod ModFault → Fate
of_reading t (Ok m) = planned t m
of_reading t (Err fault) = of_fault fault

-- what is edited is no message for the emergency table, and has its edits
abbrev pub IsPlanned : List Rule → Fate → Type 0
IsPlanned t Passed = Unit {0}
IsPlanned t (Refused kind code) = Unit {0}
IsPlanned t (Edited m edits) = (is_emergency m ≡ false) × (edits ≡ edits_of t m)

-- a frame of another type than FLOW_MOD passes
abbrev pub fate : List Rule → List ℕ → Fate
fate t frame = if kind_of frame == FLOW_MOD then of_reading t (flow_mod_in frame) else Passed

-- a frame of the controller, and its fate
pub record Fated : Type 0 where
  pub frame : List ℕ
  pub fate : Fate

-- a frame with its fate over a table
abbrev pub fated : List Rule → List ℕ → Fated
fated t frame = record { frame = frame; fate = fate t frame }

-- the frames that go to the switch, by the fate of one of the controller's
abbrev pub passed_by : Fate → List ℕ → List (List ℕ)
passed_by Passed frame = frame ∷ []
passed_by (Refused kind code) frame = []
passed_by (Edited m edits) frame = frames_of m edits frame

-- the ERRORs that go back to the controller
abbrev pub errors_by : Fate → List ℕ → List (List ℕ)
errors_by Passed frame = []
errors_by (Refused kind code) frame = error_of kind code frame ∷ []
errors_by (Edited m edits) frame = []

-- the edits that go to the switch
abbrev pub edits_by : Fate → List Edit
edits_by Passed = []
edits_by (Refused kind code) = []
edits_by (Edited m edits) = edits

-- the same for a frame with its fate
abbrev pub passed : Fated → List (List ℕ)
passed x = passed_by x.fate x.frame

abbrev pub errors : Fated → List (List ℕ)
errors x = errors_by x.fate x.frame

abbrev pub edits : Fated → List Edit
edits x = edits_by x.fate

-- the table after a frame
abbrev pub followed : List Rule → List ℕ → List Rule
followed t frame = after_all t (edits (fated t frame))

-- frames in order with their fates, each over the table that those before it leave
abbrev pub fates : List Rule → List (List ℕ) → List Fated
fates t [] = []
fates t (frame ∷ frames) = fated t frame ∷ fates (followed t frame) frames

-- what goes to the switch for frames in order
abbrev pub passed_all : List Rule → List (List ℕ) → List (List ℕ)
passed_all t frames = flat_map passed (fates t frames)

-- the ERRORs that go back for them
abbrev pub errors_all : List Rule → List (List ℕ) → List (List ℕ)
errors_all t frames = flat_map errors (fates t frames)

-- the edits that go to the switch for them
abbrev pub edits_all : List Rule → List (List ℕ) → List Edit
edits_all t frames = flat_map edits (fates t frames)

-- the table after them
abbrev pub followed_all : List Rule → List (List ℕ) → List Rule
followed_all t frames = after_all t (edits_all t frames)
