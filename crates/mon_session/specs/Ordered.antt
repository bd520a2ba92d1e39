-- The ordered frames of a controller.
use Rattle.std.specs.Prelude.{ℕ, ◌+◌, if◌then◌else◌, List, [], ◌∷◌, Option, Some, None, length, sum_by}
use Rattle.mon_header.specs.Matching.{Matching}
use Rattle.mon_shows.specs.Views.{Viewing}
use Rattle.mon_legal.specs.Owns.{Act}
use Rattle.mon_table.specs.declared.rule.Rule.{Rule}
use Rattle.of_msgs.specs.ReadMods.{flow_mod_in}
use Rattle.mon_legal.specs.Messages.{is_flow_mod}
use Rattle.mon_legal.specs.Held.{Part, is_empty, fate_of_mod, awaited_by, step_of}
use Rattle.mon_legal.specs.Held.Part.{Whole}

-- those that wait, what is left of the one that was planned last, and the bytes that that one had
pub record Ordering : Type 0 where
  pub waiting : List (List ℕ)
  pub parts : List Part
  pub planned : ℕ

abbrev pub nothing_waits : Ordering
nothing_waits = record { waiting = []; parts = []; planned = 0 }

-- how many bytes the frames have that lack their whole fate
abbrev pub held_in : Ordering → ℕ
held_in o = (if is_empty o.parts then 0 else o.planned) + sum_by length o.waiting

-- the fate of a frame, over the controller's entries and as many unsettled cuts
abbrev pub fate_over : List Rule → List Rule → ℕ → List ℕ → List Part
fate_over catching t taken_out frame =
    if is_flow_mod frame then fate_of_mod t catching taken_out frame (flow_mod_in frame) else Whole frame ∷ []

-- the frame that came first is planned
abbrev pub planned_over : List Rule → List Rule → ℕ → Ordering → List (List ℕ) → Ordering
planned_over catching t taken_out o [] = o
planned_over catching t taken_out o (frame ∷ later) =
    record { waiting = later; parts = fate_over catching t taken_out frame; planned = length frame }

-- a view without links: in it no rule has a stand-in
abbrev pub nowhere : Viewing
nowhere = record { switch = 0; tag = 0; tags = []; links = []; miss = 0 }

-- the match that what is left awaits
abbrev pub awaited_in : List Part → Option Matching
awaited_in [] = None
awaited_in (part ∷ later) = awaited_by part

-- what goes out first; no rule is passed by a stand-in yet
abbrev pub output_of : List Part → Option Act
output_of [] = None
output_of (part ∷ later) = Some (step_of nowhere [] part)
