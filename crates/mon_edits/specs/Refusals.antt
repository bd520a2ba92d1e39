-- For what a FLOW_MOD is refused, over the table of the controller's entries.
use Rattle.std.specs.Prelude.{◌≡◌, ◌⊎◌, ℕ, ◌+◌, Bool, not, ◌==◌, nat_lt, nat_le, ◌&&◌, ◌||◌, if◌then◌else◌, List, length, Option, Some, None, Result, Ok, Err}
use Rattle.std.specs.List.{list_any}
use Rattle.mon_header.specs.Matching.{effective, overlaps}
use Rattle.mon_table.specs.declared.rule.Rule.{Rule}
use Rattle.mon_table.specs.declared.edit.Edit.{Edit}
use Rattle.mon_table.specs.Rules.{rank}
use Rattle.of_msgs.specs.declared.flow_mod.FlowMod.{FlowMod}
use Rattle.mon_edits.specs.declared.refusal.ModRefusal.{ModRefusal}
use Rattle.mon_edits.specs.declared.refusal.ModRefusal.TheVariants.{TooManyActions, Reserved, OverlapFlag, TableFull, OutOfMemory}
use Rattle.mon_edits.specs.Naming.{checks_overlap, is_add, is_strict, is_deletion, adds_entry}

-- the most bytes of actions in a message
abbrev pub MOST_ACTIONS : ℕ
MOST_ACTIONS = 512

-- the lowest effective priority of a catching entry
abbrev pub CATCHING : ℕ
CATCHING = 65534

-- the most entries of a table, unsettled cuts counted
abbrev pub MOST_ENTRIES : ℕ
MOST_ENTRIES = 4096

-- no deletion, and too many actions
abbrev pub has_too_many_actions : FlowMod → Bool
has_too_many_actions m = not (is_deletion m.command) && nat_lt MOST_ACTIONS (length m.raw)

-- a catching entry overlaps
abbrev pub is_caught : List Rule → FlowMod → Bool
is_caught catching m = list_any (λ c. overlaps m.matching c.matching) catching

-- the entry has the message's effective priority, and overlaps
abbrev pub rivals : FlowMod → Rule → Bool
rivals m r = (rank r == effective m.matching m.priority) && overlaps m.matching r.matching

-- some entry does, one of an equal match too
abbrev pub has_rival : List Rule → FlowMod → Bool
has_rival t m = list_any (rivals m) t

-- an ADD, a strict command, or a MODIFY that adds an entry, at the priority of a catching entry or above, and where one catches
abbrev pub is_reserved : Bool → List Rule → FlowMod → Bool
is_reserved adds catching m =
    (is_add m.command || (is_strict m.command || adds))
    && (nat_le CATCHING (effective m.matching m.priority) && is_caught catching m)

-- an ADD, or a MODIFY that adds an entry, that asks to look for an overlap, where there is one
abbrev pub is_overlapping : Bool → List Rule → FlowMod → Bool
is_overlapping adds t m =
    checks_overlap m && ((is_add m.command || adds) && has_rival t m)

-- an entry would be added to as many as there may be
abbrev pub is_full : Bool → List Rule → ℕ → Bool
is_full adds t cuts = adds && nat_le MOST_ENTRIES (length t + cuts)

-- the first refusal that applies; `adds` says whether the message adds an entry
abbrev pub first_of : Bool → List Rule → List Rule → ℕ → FlowMod → Option ModRefusal
first_of adds t catching cuts m =
    if has_too_many_actions m then Some TooManyActions
    else (if is_reserved adds catching m then Some Reserved
    else (if is_overlapping adds t m then Some OverlapFlag
    else (if is_full adds t cuts then Some TableFull
    else None)))

-- the refusal of a message over the controller's entries, the catching table, and the number of unsettled cuts
abbrev pub refusal : List Rule → List Rule → ℕ → FlowMod → Option ModRefusal
refusal t catching cuts m = first_of (adds_entry t m) t catching cuts m

-- the answer is the refusal, if there is one, and else the edits, unless memory ran out
abbrev pub Plans : Option ModRefusal → List Edit → Result (List Edit) ModRefusal → Type 0
Plans refused edits (Ok answer) = (refused ≡ None) × (answer ≡ edits)
Plans refused edits (Err answer) = (answer ≡ OutOfMemory) ⊎ (refused ≡ Some answer)
