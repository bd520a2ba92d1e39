-- The edits of a session that are neither settled nor rejected, the newest first.
use Rattle.std.specs.Prelude.{◌≡◌, ℕ, suc, ◌+◌, ◌<◌, false, not, List, [], ◌∷◌, filter, map, ◌||◌, Option, if◌then◌else◌}
use Rattle.mon_table.specs.declared.rule.Rule.{Rule}
use Rattle.mon_table.specs.declared.edit.Edit.{Edit}
use Rattle.mon_legal.specs.Edits.{Passed, is_number, changes_nothing}

-- how many edits were passed, and which of them are unsettled
pub record Passing : Type 0 where
  pub count : ℕ
  pub edits : List Passed

-- their numbers fall, and none of them is settled
abbrev pub Falls : ℕ → List Passed → Type 0
Falls n [] = Unit {0}
Falls n (p ∷ before) = (p.number < n) × (p.settled ≡ false) × Falls p.number before

-- how many are newer than the one of a number; all are where it is not among them
abbrev pub newer : ℕ → List Passed → ℕ
newer k [] = 0
newer k (p ∷ before) = if is_number k p then 0 else suc (newer k before)

-- the edits without the one of a number
abbrev pub without_edit : ℕ → List Passed → List Passed
without_edit k edits = filter (λ p. not (is_number k p)) edits

-- the next edit goes out in this frame; it is settled at once where it changes nothing
abbrev pub passed : Edit → Option Rule → List ℕ → Passing → Passing
passed x stood frame p = record {
  count = p.count + 1;
  edits =
      if changes_nothing x then p.edits
      else record { number = p.count + 1; edit = x; stood = stood; frame = frame; settled = false; reported = false; ticks = 0 } ∷ p.edits;
}

-- the edit of a number was reported as one that no probe is to show
abbrev pub mark : ℕ → Passed → Passed
mark k p = record p { reported = p.reported || is_number k p }

abbrev pub marked : ℕ → List Passed → List Passed
marked k edits = map (mark k) edits
