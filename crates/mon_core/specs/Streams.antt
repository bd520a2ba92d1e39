-- What a history says of the frames and the end of a session, in the subject's own words.
use Rattle.std.specs.Prelude.{◌≡◌, ℕ, zero, suc, Bool, true, false, not, ◌==◌, ◌&&◌, ◌||◌, List, [], ◌∷◌, ◌++◌, if◌then◌else◌}
use Rattle.std.specs.Option.{is_some}
use Rattle.of_frame.specs.Cut.{nothing_yet, cut}
use Rattle.mon_world.specs.declared.event.Side.{Side}
use Rattle.mon_world.specs.declared.event.Side.TheVariants.{Controller, Switch}
use Rattle.mon_world.specs.declared.event.Event.TheVariants.{Opened, Piece}
use Rattle.mon_world.specs.declared.history.Entry.{Entry}
use Rattle.mon_world.specs.declared.history.Entry.TheVariants.{Given, Noted, Put, End}
use Rattle.mon_table.specs.declared.rule.Rule.{Rule}
use Rattle.mon_table.specs.declared.edit.Edit.{Edit}
use Rattle.mon_table.specs.Edits.{after_all}
use Rattle.mon_core.specs.History.{openings}
use Rattle.mon_core.specs.Fates.{passed_all, errors_all, edits_all}

abbrev pub same_side : Side → Side → Bool
same_side Controller Controller = true
same_side Controller Switch = false
same_side Switch Controller = false
same_side Switch Switch = true

-- the session was ended
abbrev pub has_ended : ℕ → List Entry → Bool
has_ended n [] = false
has_ended n (Given event ∷ h) = has_ended n h
has_ended n (Noted note ∷ h) = has_ended n h
has_ended n (Put m to frame lost ∷ h) = has_ended n h
has_ended n (End m ∷ h) = (m == n) || has_ended n h

-- the bytes of a side's pieces, in order, up to the end of the session
abbrev pub stream : ℕ → Side → List Entry → List ℕ
stream n side [] = []
stream n side (Given Opened ∷ h) = stream n side h
stream n side (Given (Piece m from bytes) ∷ h) =
    if (m == n) && (same_side from side && not (has_ended n h)) then stream n side h ++ bytes else stream n side h
stream n side (Given event ∷ h) = stream n side h
stream n side (Noted note ∷ h) = stream n side h
stream n side (Put m to frame lost ∷ h) = stream n side h
stream n side (End m ∷ h) = stream n side h

-- the frames that were put to a side or lost on the way there, in order
abbrev pub puts : ℕ → Side → List Entry → List (List ℕ)
puts n to [] = []
puts n to (Given event ∷ h) = puts n to h
puts n to (Noted note ∷ h) = puts n to h
puts n to (Put m side frame lost ∷ h) = if (m == n) && same_side side to then puts n to h ++ frame ∷ [] else puts n to h
puts n to (End m ∷ h) = puts n to h

-- the side's stream has a header with a fault
abbrev pub is_faulty : ℕ → Side → List Entry → Bool
is_faulty n side h = is_some (cut nothing_yet (stream n side h)).0.fault

-- the frames of the side's whole stream
abbrev pub frames_in : ℕ → Side → List Entry → List (List ℕ)
frames_in n side h = (cut nothing_yet (stream n side h)).1

-- the frames that a piece completes, which comes next from the side
abbrev pub next_frames : ℕ → Side → List ℕ → List Entry → List (List ℕ)
next_frames n side bytes h = (cut (cut nothing_yet (stream n side h)).0 bytes).1

-- the edits that went to the switch: those of all frames of the controller, in order
abbrev pub edits_in : ℕ → List Entry → List Edit
edits_in n h = edits_all [] (frames_in n Controller h)

-- the entries that the controller should have on the switch: what these edits make of none
abbrev pub expected : ℕ → List Entry → List Rule
expected n h = after_all [] (edits_in n h)

-- what a piece leads to at the controller: the ERRORs for frames of its own that are refused over the expected entries,
-- or the frames of the switch
abbrev pub brought : ℕ → Side → List ℕ → List Entry → List (List ℕ)
brought n Controller bytes h = errors_all (expected n h) (next_frames n Controller bytes h)
brought n Switch bytes h = next_frames n Switch bytes h

-- what all pieces led to at the controller, turn by turn up to the end of the session
abbrev pub brought_in : ℕ → List Entry → List (List ℕ)
brought_in n [] = []
brought_in n (Given Opened ∷ h) = brought_in n h
brought_in n (Given (Piece m from bytes) ∷ h) =
    if (m == n) && not (has_ended n h) then brought_in n h ++ brought n from bytes h else brought_in n h
brought_in n (Given event ∷ h) = brought_in n h
brought_in n (Noted note ∷ h) = brought_in n h
brought_in n (Put m to frame lost ∷ h) = brought_in n h
brought_in n (End m ∷ h) = brought_in n h

-- to the switch went what the fates give of all frames of the controller's whole stream, beginning with no entry;
-- to the controller went, turn by turn, the frames of the switch and the ERRORs for what was refused; all in order, and
-- nothing else; and a session was ended exactly where a stream has a fault
pub record IsPassed (h : List Entry) : Type 0 where
  pub to_switch : (n : ℕ) → puts n Switch h ≡ passed_all [] (frames_in n Controller h)
  pub to_controller : (n : ℕ) → puts n Controller h ≡ brought_in n h
  pub ends : (n : ℕ) → has_ended n h ≡ (is_faulty n Controller h || is_faulty n Switch h)

-- the numbers below n of sessions that have not ended, rising, each with the expected entries
abbrev pub armed_below : ℕ → List Entry → List (ℕ × List Rule)
armed_below zero h = []
armed_below (suc n) h = if has_ended n h then armed_below n h else armed_below n h ++ (n, expected n h) ∷ []

-- the armed sessions by rising number, each with the expected entries: a session is armed from its opening to its end
abbrev pub armed_in : List Entry → List (ℕ × List Rule)
armed_in h = armed_below (openings h) h

-- a fact holds wherever an earlier turn has ended, which is before each input
abbrev pub BeforeInputs : (List Entry → Type 0) → List Entry → Type 0
BeforeInputs P [] = Unit {0}
BeforeInputs P (Given event ∷ h) = P h × BeforeInputs P h
BeforeInputs P (Noted note ∷ h) = BeforeInputs P h
BeforeInputs P (Put n to frame lost ∷ h) = BeforeInputs P h
BeforeInputs P (End n ∷ h) = BeforeInputs P h

-- and at the end of the last turn too
abbrev pub AtTurnEnds : (List Entry → Type 0) → List Entry → Type 0
AtTurnEnds P h = P h × BeforeInputs P h
