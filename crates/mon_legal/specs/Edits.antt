-- The edits that a session passed to its switch, and the table that the switch should have.
use Rattle.std.specs.Prelude.{ℕ, ◌+◌, Bool, true, false, not, ◌==◌, ◌&&◌, ◌||◌, if◌then◌else◌, List, [], ◌∷◌, length, map, filter, find, Option, Some, None, option_map}
use Rattle.std.specs.List.{list_any}
use Rattle.mon_header.specs.Matching.{Matching}
use Rattle.mon_table.specs.declared.rule.Rule.{Rule}
use Rattle.mon_table.specs.declared.edit.Edit.{Edit}
use Rattle.mon_table.specs.declared.edit.Edit.TheVariants.{Put, Cut}
use Rattle.mon_table.specs.Rules.{Identity, identity_of, same_identity}
use Rattle.mon_table.specs.Tables.{rule_of}
use Rattle.mon_table.specs.Edits.{after, edited}
use Rattle.mon_edits.specs.Frames.{is_cut}
use Rattle.mon_queue.specs.Apart.{apart}
use Rattle.mon_report.specs.declared.line.Line.{Line}
use Rattle.mon_report.specs.declared.line.Line.TheVariants.{Confirmed, Fact}
use Rattle.mon_report.specs.declared.line.What.{What}
use Rattle.mon_world.specs.declared.event.Side.TheVariants.{Switch}
use Rattle.mon_legal.specs.Owns.{Own}
use Rattle.mon_legal.specs.Owns.Own.{From_switch, Ticks, Sends, Reports}
use Rattle.mon_legal.specs.Actions.{same_actions}
use Rattle.mon_legal.specs.Messages.{is_error_for, is_vanished, identity_gone}
use Rattle.mon_legal.specs.Barriers.{edit_out, count, is_barriered, answered_by, own_edit, is_armed, guards}

-- an edit as it was planned, what stood in its place as it went out, the frame in which it did, whether it is settled, whether
-- it was reported as one that no probe is to show, and how many ticks came since. An entry that vanished is a cut without
-- a number, that is with 0
pub record Passed : Type 0 where
  pub number : ℕ
  pub edit : Edit
  pub stood : Option Rule
  pub frame : List ℕ
  pub settled : Bool
  pub reported : Bool
  pub ticks : ℕ

-- the table that these edits make of another one; the newest stands first
abbrev pub table_of : List Rule → List Passed → List Rule
table_of start [] = start
table_of start (p ∷ before) = after (table_of start before) p.edit

-- the edit puts the actions that stand there already, in an entry that cannot vanish
abbrev pub changes_nothing : Edit → Bool
changes_nothing (Put r None) = false
changes_nothing (Put r (Some old)) = not old.unsure && same_actions r.actions old.actions
changes_nothing (Cut r) = false

-- the old rule of a put may be gone
abbrev pub is_over_unsure : Edit → Bool
is_over_unsure (Put r None) = false
is_over_unsure (Put r (Some old)) = old.unsure
is_over_unsure (Cut r) = false

abbrev pub with_passed : Option Edit → ℕ → List ℕ → List Passed → List Passed
with_passed None n frame passed = passed
with_passed (Some x) n frame passed =
    record {
      number = n + 1;
      edit = x;
      stood = rule_of (identity_of (edited x)) (table_of [] passed);
      frame = frame;
      settled = changes_nothing x;
      reported = false;
      ticks = 0;
    } ∷ passed

abbrev pub is_number : ℕ → Passed → Bool
is_number k p = p.number == k

abbrev pub settle : ℕ → Passed → Passed
settle k p = record p { settled = p.settled || is_number k p }

abbrev pub settle_if : Option ℕ → List Passed → List Passed
settle_if None passed = passed
settle_if (Some k) passed = map (settle k) passed

abbrev pub without_number : Option ℕ → List Passed → List Passed
without_number None passed = passed
without_number (Some k) passed = filter (λ p. not (is_number k p)) passed

abbrev pub mark_reported : What → ℕ → Passed → Passed
mark_reported what k p = record p { reported = p.reported || (is_barriered what && is_number k p) }

abbrev pub after_line : Line → List Passed → List Passed
after_line (Confirmed session k serial) passed = map (settle k) passed
after_line (Fact session k what) passed = map (mark_reported what k) passed
after_line line passed = passed

-- the unsettled edit to whose frame the switch answers by this ERROR
abbrev pub rejected_by : List ℕ → List Passed → Option ℕ
rejected_by frame passed = option_map (λ p. p.number) (find (λ p. not p.settled && is_error_for frame p.frame) passed)

-- a frame came from the switch: it settles an edit, or rejects one
abbrev pub after_answer : Option ℕ → List ℕ → List Passed → List Passed
after_answer settled frame passed = settle_if settled (without_number (rejected_by frame passed) passed)

-- an entry vanishes -----------------------------------------------------------

abbrev pub is_identity : Identity → Option Identity → Bool
is_identity i None = false
is_identity i (Some j) = same_identity j i

-- an unsettled edit has the identity, or an own barrier behind the report of one has no answer yet
abbrev pub is_guarded : Identity → List Passed → List (Option Identity) → Bool
is_guarded i passed guards =
    list_any (λ p. not p.settled && same_identity (identity_of (edited p.edit)) i) passed || list_any (is_identity i) guards

abbrev pub unsure_at : Identity → List Passed → List (Option Identity) → Option Rule → Option Rule
unsure_at i passed guards None = None
unsure_at i passed guards (Some r) = if r.unsure && not (is_guarded i passed guards) then Some r else None

-- the entry of which a FLOW_REMOVED tells that it vanished: an unsure one that is expected. Any other FLOW_REMOVED changes
-- nothing
abbrev pub vanished : Bool → Identity → List (Option Identity) → List Passed → Option Rule
vanished true i guards passed = unsure_at i passed guards (rule_of i (table_of [] passed))
vanished false i guards passed = None

abbrev pub without_vanished : Option Rule → List Passed → List Passed
without_vanished None passed = passed
without_vanished (Some r) passed =
    record { number = 0; edit = Cut r; stood = Some r; frame = []; settled = true; reported = false; ticks = 0 } ∷ passed

-- a frame came from the switch: it tells of an entry that vanished, or it is an answer or something else
abbrev pub after_frame : Bool → Option ℕ → List ℕ → List (Option Identity) → List Passed → List Passed
after_frame true settled frame guards passed = without_vanished (vanished true (identity_gone frame) guards passed) passed
after_frame false settled frame guards passed = after_answer settled frame passed

-- the whole --------------------------------------------------------------------

-- a FLOW_REMOVED of an armed session tells of an entry that timed out
abbrev pub tells_of_vanishing : List Own → List ℕ → Bool
tells_of_vanishing before frame = is_vanished frame && is_armed before

-- a tick later
abbrev pub older : Passed → Passed
older p = record p { ticks = p.ticks + 1 }

-- the edits that were passed and not rejected, and the entries that vanished, the newest first. An edit is settled where it
-- changed nothing, where it is confirmed, and where the own barrier behind its report is answered
abbrev pub passed : List Own → List Passed
passed [] = []
passed (Sends Switch frame lost ∷ before) = with_passed (edit_out before) (count before) frame (passed before)
passed (From_switch frame others ∷ before) =
    after_frame (tells_of_vanishing before frame) (own_edit (answered_by before frame)) frame (guards before) (passed before)
passed (Reports line ∷ before) = after_line line (passed before)
passed (Ticks version ∷ before) = map older (passed before)
passed (o ∷ before) = passed before

-- the entry that a frame of the switch says is gone
abbrev pub vanished_by : List Own → List ℕ → Option Rule
vanished_by before frame = vanished (tells_of_vanishing before frame) (identity_gone frame) (guards before) (passed before)

-- the entries that the controller should have on the switch
abbrev pub entries : List Own → List Rule
entries own = table_of [] (passed own)

-- the table that the switch should have, over the one with which it was armed
abbrev pub expected : List Rule → List Own → List Rule
expected catching own = table_of catching (passed own)

-- the edits that are neither settled nor rejected, the newest first
abbrev pub unsettled : List Own → List Passed
unsettled own = filter (λ p. not p.settled) (passed own)

abbrev pub is_unsettled : List Own → ℕ → Bool
is_unsettled own k = list_any (is_number k) (unsettled own)

-- the matches of these edits
abbrev pub matches_of : List Passed → List Matching
matches_of edits = map (λ p. (edited p.edit).matching) edits

-- the match overlaps none of them
abbrev pub may_pass : Matching → List Passed → Bool
may_pass m edits = apart m (matches_of edits)

-- how many of these edits take an entry out
abbrev pub cuts : List Passed → ℕ
cuts edits = length (filter (λ p. is_cut p.edit) edits)

abbrev pub find_passed : ℕ → List Own → Option Passed
find_passed k own = find (is_number k) (passed own)

-- the number of the oldest unsettled edit
abbrev pub oldest : List Passed → Option ℕ
oldest [] = None
oldest (p ∷ []) = Some p.number
oldest (p ∷ q ∷ before) = oldest (q ∷ before)
