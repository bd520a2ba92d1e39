-- The facts on a session's edits that hold wherever its history is legal, and the law that joins it and its history.
use Rattle.std.specs.Prelude.{◌≡◌, ℕ, ◌+◌, ◌≤◌, Bool, true, false, not, ◌==◌, ◌⊎◌, List, [], ◌∷◌, Option, Some, None, filter}
use Rattle.std.specs.List.{AllByRecursion}
use Rattle.mon_header.specs.Matching.{overlaps, IsNormal}
use Rattle.mon_table.specs.declared.rule.Rule.{Rule}
use Rattle.mon_table.specs.declared.edit.Edit.{Edit}
use Rattle.mon_table.specs.declared.edit.Edit.TheVariants.{Put, Cut}
use Rattle.mon_table.specs.Rules.{identity_of, same_identity}
use Rattle.mon_table.specs.Tables.{IsTable, rule_of}
use Rattle.mon_table.specs.Edits.{edited}
use Rattle.mon_legal.specs.Runs.{Run}
use Rattle.mon_legal.specs.Owns.{Own}
use Rattle.mon_legal.specs.Owns.Own.{Begins, From_switch, Ticks, Returns, Judged, Offers, Probes, Reports}
use Rattle.mon_legal.specs.Directly.{Due, owes}
use Rattle.mon_session.specs.Beginning.{begun}
use Rattle.mon_session.specs.Dues.{dues_from_switch}
use Rattle.mon_session.specs.Probing.{return_dues, answer_dues, tick_dues, wanted}
use Rattle.mon_shows.specs.declared.seen.Seen.{Seen}
use Rattle.mon_world.specs.declared.event.Kind.{Kind}
use Rattle.mon_legal.specs.Probes.{wanting}
use Rattle.mon_legal.specs.Edits.{Passed, table_of, passed, is_unsettled, without_number, rejected_by}
use Rattle.mon_legal.specs.Barriers.{count}
use Rattle.mon_session.specs.Now.{step, now_of, taken_back, rejected_edit, reported_by}

-- an entry that vanished is of another identity than the other edit, and every other edit overlaps that one not
abbrev pub Apart : Bool → Edit → Edit → Type 0
Apart true x y = same_identity (identity_of (edited y)) (identity_of (edited x)) ≡ false
Apart false x y = overlaps (edited x).matching (edited y).matching ≡ false

-- what has no number is an entry that vanished
abbrev pub is_vanishing : Passed → Bool
is_vanishing p = p.number == 0

-- the edit overlaps no edit that was passed before it and is unsettled; an entry that vanishes may overlap one of another identity
abbrev pub Waited : Passed → List Passed → Type 0
Waited p before = AllByRecursion (λ q. q.settled ≡ false → Apart (is_vanishing p) p.edit q.edit) before

-- what stood in the edit's place is what it was planned over, or that was unsure and has vanished since
abbrev pub IsPlanned : Edit → Option Rule → Type 0
IsPlanned (Put r None) stood = stood ≡ None
IsPlanned (Put r (Some old)) stood =
    (identity_of old ≡ identity_of r) × ((stood ≡ Some old) ⊎ ((stood ≡ None) × (old.unsure ≡ true)))
IsPlanned (Cut r) stood = (stood ≡ Some r) ⊎ ((stood ≡ None) × (r.unsure ≡ true))

abbrev pub HasVanished : Passed → Type 0
HasVanished p = (r : Rule) × (p.edit ≡ Cut r) × (p.stood ≡ Some r) × (r.unsure ≡ true)

-- of each edit: it waited; it has a number of its own, where it is none that vanished; `stood` is what stood in its place, in the
-- table of the edits before it; and its match is in its normalised form
pub record IsPassedWell (start : List Rule) (p : Passed) (before : List Passed) : Type 0 where
  pub waited : Waited p before
  pub numbered : is_vanishing p ≡ false → AllByRecursion (λ q. (q.number == p.number) ≡ false) before
  pub counted : p.settled ≡ false → is_vanishing p ≡ false
  pub stands : rule_of (identity_of (edited p.edit)) (table_of start before) ≡ p.stood
  pub planned : IsPlanned p.edit p.stood
  pub unsure : is_vanishing p ≡ true → HasVanished p
  pub normal : IsNormal (edited p.edit).matching

abbrev pub AllPassedWell : List Rule → List Passed → Type 0
AllPassedWell start [] = Unit {0}
AllPassedWell start (p ∷ before) = IsPassedWell start p before × AllPassedWell start before

-- jobs and probes are of edits that were passed, or of a watch, which has the number 0
abbrev pub AsksPassed : ℕ → List Own → Type 0
AsksPassed n [] = Unit {0}
AsksPassed n (Offers job edit ∷ before) = (edit ≤ n) × AsksPassed n before
AsksPassed n (Probes serial edit version emission shows ∷ before) = (edit ≤ n) × AsksPassed n before
AsksPassed n (o ∷ before) = AsksPassed n before

-- no number is above the count
abbrev pub Standing : List Own → Type 0
Standing own = AllPassedWell [] (passed own) × AllByRecursion (λ p. p.number ≤ count own) (passed own) × AsksPassed (count own) own

-- a rejected edit is taken back in the one current table, which is the table of the edits that are left
abbrev pub Rejecting : Type 0
Rejecting = (start : List Rule) (frame : List ℕ) (ps : List Passed) → IsTable start → AllPassedWell start ps
    → table_of start (without_number (rejected_by frame ps) ps) ≡ taken_back (rejected_edit frame (filter (λ p. not p.settled) ps)) (table_of start ps)

-- a report behind which an own barrier may go names an unsettled edit
abbrev pub ReportsOpen : List Own → Own → Type 0
ReportsOpen own (Reports line) = (k : ℕ) → reported_by line ≡ Some k → is_unsettled own k ≡ true
ReportsOpen own o = Unit {0}

-- what the session keeps is what the history says: one entry more is one step more
abbrev pub StepsStand : Type 0
StepsStand = (run : Run) (earlier : ℕ) (own : List Own) (o : Own) → Standing own → ReportsOpen own o
    → now_of run earlier (o ∷ own) ≡ step run (now_of run earlier own) o

-- what a frame of the switch makes due is what it makes due by what the session keeps
abbrev pub FramesOwe : Type 0
FramesOwe = (run : Run) (s earlier : ℕ) (dues : List Due) (own : List Own) (frame others : List ℕ)
    → owes run s dues own (From_switch frame others) ≡ dues_from_switch run s others (now_of run earlier own) frame

-- a session that was just opened is begun
abbrev pub OpeningBegins : Type 0
OpeningBegins = (run : Run) (earlier slot : ℕ) → now_of run earlier (Begins (Some slot) ∷ []) ≡ begun (earlier + 1)

-- what a return, an answer and a tick make due is what they make due by what the session keeps, and so is the edit that wants a job
abbrev pub ReturnsOwe : Type 0
ReturnsOwe = (run : Run) (s earlier : ℕ) (dues : List Due) (own : List Own) (serial : ℕ) (seen : Seen) → Standing own
    → owes run s dues own (Returns serial seen) ≡ return_dues s (now_of run earlier own) serial seen

abbrev pub AnswersOwe : Type 0
AnswersOwe = (run : Run) (s earlier : ℕ) (dues : List Due) (own : List Own) (job k : ℕ) (kind : Kind) (fresh : Bool)
    → owes run s dues own (Judged job k kind fresh) ≡ answer_dues s (now_of run earlier own) job k kind fresh

abbrev pub TicksOwe : Type 0
TicksOwe = (run : Run) (s earlier : ℕ) (dues : List Due) (own : List Own) (version : ℕ) → Standing own
    → owes run s dues own (Ticks version) ≡ tick_dues run s version (now_of run earlier own)

abbrev pub WantsStand : Type 0
WantsStand = (run : Run) (earlier : ℕ) (own : List Own) → wanting run own ≡ wanted (now_of run earlier own)
