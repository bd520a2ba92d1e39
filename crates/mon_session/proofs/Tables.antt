-- The table and the unsettled edits of a session stand for its history.
use Rattle.std.specs.Prelude.{◌≡◌, ℕ, ◌+◌, Bool, true, false, not, ◌&&◌, List, [], ◌∷◌, filter, map, find, Option, Some, None, if◌then◌else◌, refl}
use Rattle.std.proofs.Common.{arith, ap, ◌∙◌, ◌||◌}
use Rattle.std.specs.List.{list_any}
use Rattle.mon_table.specs.declared.rule.Rule.{Rule}
use Rattle.mon_table.specs.Rules.{Identity, identity_of, same_identity}
use Rattle.mon_table.specs.Tables.{rule_of}
use Rattle.mon_table.specs.Edits.{edited}
use Rattle.mon_table.specs.declared.edit.Edit.{Edit}
use Rattle.mon_report.specs.declared.line.Line.{Line}
use Rattle.mon_report.specs.declared.line.Line.TheVariants.{Armed, Closed, Confirmed, Fact, Watch}
use Rattle.mon_report.specs.declared.line.What.{What}
use Rattle.mon_world.specs.declared.event.Side.TheVariants.{Controller, Switch}
use Rattle.mon_legal.specs.Runs.{Run}
use Rattle.mon_legal.specs.Owns.{Own}
use Rattle.mon_legal.specs.Owns.Own.{From_switch, Ticks, Sends, Reports}
use Rattle.mon_legal.specs.Messages.{is_error_for, identity_gone}
use Rattle.mon_legal.specs.Barriers.{count, edit_out, guards, answered_by, own_edit}
use Rattle.mon_legal.specs.Edits.{Passed, table_of, passed, entries, unsettled, settle, settle_if, without_number, rejected_by, with_passed, after_line, mark_reported, older, changes_nothing, is_guarded, is_identity, unsure_at, vanished, without_vanished, after_frame, tells_of_vanishing}
use Rattle.mon_session.specs.Now.{now_of, table_after, unsettled_after, made_if, without_rule, table_at, unsettled_at, with_unsettled, without, unsettled_by}
use Rattle.mon_session.specs.Standing.{Standing, AllPassedWell, Rejecting}
use Rattle.mon_session.proofs.Steps.{settled_out, filters_swap}

any-open : (test : Passed → Bool) (ps : List Passed) → list_any (λ p. not p.settled && test p) ps ≡ list_any (λ p. not p.settled && test p) (filter (λ p. not p.settled) ps)
any-open test [] = refl
any-open test (p ∷ ps) = grind (arith, any-open test ps)

-- marks on edits leave the table as it is
pub edits_settled : (start : List Rule) (k : ℕ) (ps : List Passed) → table_of start (map (settle k) ps) ≡ table_of start ps
edits_settled start k [] = refl
edits_settled start k (p ∷ ps) = rw (edits_settled start k ps) refl

pub edits_marked : (start : List Rule) (what : What) (k : ℕ) (ps : List Passed) → table_of start (map (mark_reported what k) ps) ≡ table_of start ps
edits_marked start what k [] = refl
edits_marked start what k (p ∷ ps) = rw (edits_marked start what k ps) refl

pub edits_older : (start : List Rule) (ps : List Passed) → table_of start (map older ps) ≡ table_of start ps
edits_older start [] = refl
edits_older start (p ∷ ps) = rw (edits_older start ps) refl

table_settled : (o : Option ℕ) (ps : List Passed) → table_of [] (settle_if o ps) ≡ table_of [] ps
table_settled None ps = refl
table_settled (Some k) ps = edits_settled [] k ps

table_lined : (line : Line) (ps : List Passed) → table_of [] (after_line line ps) ≡ table_of [] ps
table_lined (Confirmed s k n) ps = edits_settled [] k ps
table_lined (Fact s k what) ps = edits_marked [] what k ps
table_lined (Armed s d t) ps = refl
table_lined (Closed s why) ps = refl
table_lined (Watch s m p n w) ps = refl

table_with : (x : Option Edit) (n : ℕ) (frame : List ℕ) (ps : List Passed) → table_of [] (with_passed x n frame ps) ≡ made_if x (table_of [] ps)
table_with None n frame ps = refl
table_with (Some x) n frame ps = refl

-- a search among unsettled edits may leave the settled ones out
guarded-open : (i : Identity) (ps : List Passed) (gs : List (Option Identity)) → is_guarded i ps gs ≡ is_guarded i (filter (λ p. not p.settled) ps) gs
guarded-open i ps gs = ap (λ (b : Bool). b || list_any (is_identity i) gs) (any-open (λ p. same_identity (identity_of (edited p.edit)) i) ps)

pub unsure-open : (i : Identity) (ps : List Passed) (gs : List (Option Identity)) (o : Option Rule) → unsure_at i ps gs o ≡ unsure_at i (filter (λ p. not p.settled) ps) gs o
unsure-open i ps gs None = refl
unsure-open i ps gs (Some r) = ap (λ (b : Bool). if r.unsure && not b then Some r else None) (guarded-open i ps gs)

table-vanished : (o : Option Rule) (ps : List Passed) → table_of [] (without_vanished o ps) ≡ without_rule o (table_of [] ps)
table-vanished None ps = refl
table-vanished (Some r) ps = refl

table-framed : Rejecting → (b : Bool) (settled : Option ℕ) (frame : List ℕ) (gs : List (Option Identity)) (ps : List Passed) → AllPassedWell [] ps
    → table_of [] (after_frame b settled frame gs ps) ≡ table_at b (identity_gone frame) gs frame (filter (λ p. not p.settled) ps) (table_of [] ps)
table-framed law true settled frame gs ps good =
    table-vanished (unsure_at (identity_gone frame) ps gs (rule_of (identity_gone frame) (table_of [] ps))) ps
    ∙ ap (λ (o : Option Rule). without_rule o (table_of [] ps)) (unsure-open (identity_gone frame) ps gs (rule_of (identity_gone frame) (table_of [] ps)))
table-framed law false settled frame gs ps good =
    table_settled settled (without_number (rejected_by frame ps) ps) ∙ law [] frame ps (record { order = tt; normal = tt }) good

pub table_stands : Rejecting → (run : Run) (earlier : ℕ) (own : List Own) (o : Own) → Standing own → entries (o ∷ own) ≡ table_after (now_of run earlier own) o
table_stands law run earlier own (Sends Controller frame lost) good = refl
table_stands law run earlier own (Sends Switch frame lost) good = table_with (edit_out own) (count own) frame (passed own)
table_stands law run earlier own (From_switch frame others) good =
    table-framed law (tells_of_vanishing own frame) (own_edit (answered_by own frame)) frame (guards own) (passed own) good.0
table_stands law run earlier own (Reports line) good = table_lined line (passed own)
table_stands law run earlier own (Ticks version) good = edits_older [] (passed own)
table_stands law run earlier own o good = refl

-- unsettled edits ------------------------------------------------------------

is_open : Passed → Bool
is_open p = not p.settled

opened_if : (b : Bool) (n : ℕ) (x : Edit) (stood : Option Rule) (frame : List ℕ) (ps : List Passed)
    → filter (λ p. not p.settled) (record { number = n; edit = x; stood = stood; frame = frame; settled = b; reported = false; ticks = 0 } ∷ ps)
    ≡ (if b then filter (λ p. not p.settled) ps else record { number = n; edit = x; stood = stood; frame = frame; settled = false; reported = false; ticks = 0 } ∷ filter (λ p. not p.settled) ps)
opened_if true n x stood frame ps = refl
opened_if false n x stood frame ps = refl

unsettled_with : (x : Option Edit) (n : ℕ) (frame : List ℕ) (ps : List Passed)
    → filter (λ p. not p.settled) (with_passed x n frame ps) ≡ with_unsettled x n frame (table_of [] ps) (filter (λ p. not p.settled) ps)
unsettled_with None n frame ps = refl
unsettled_with (Some x) n frame ps = opened_if (changes_nothing x) (n + 1) x (rule_of (identity_of (edited x)) (table_of [] ps)) frame ps

-- a search for an unsettled edit may leave the settled ones out
find_open : (test : Passed → Bool) (ps : List Passed) → find (λ p. not p.settled && test p) ps ≡ find (λ p. not p.settled && test p) (filter (λ p. not p.settled) ps)
find_open test [] = refl
find_open test (p ∷ ps) = grind (arith, find_open test ps)

pub rejected_open : (frame : List ℕ) (ps : List Passed) → rejected_by frame ps ≡ rejected_by frame (filter (λ p. not p.settled) ps)
rejected_open frame ps = rw (find_open (λ p. is_error_for frame p.frame) ps) refl

unsettled_settled : (o : Option ℕ) (ps : List Passed) → filter (λ p. not p.settled) (settle_if o ps) ≡ without o (filter (λ p. not p.settled) ps)
unsettled_settled None ps = refl
unsettled_settled (Some k) ps = settled_out k ps

unsettled_without : (o : Option ℕ) (ps : List Passed) → filter (λ p. not p.settled) (without_number o ps) ≡ without o (filter (λ p. not p.settled) ps)
unsettled_without None ps = refl
unsettled_without (Some k) ps = filters_swap k ps

unsettled_marked : (what : What) (k : ℕ) (ps : List Passed) → filter (λ p. not p.settled) (map (mark_reported what k) ps) ≡ map (mark_reported what k) (filter (λ p. not p.settled) ps)
unsettled_marked what k [] = refl
unsettled_marked what k (p ∷ ps) = grind (arith, unsettled_marked what k ps)

unsettled_older : (ps : List Passed) → filter (λ p. not p.settled) (map older ps) ≡ map older (filter (λ p. not p.settled) ps)
unsettled_older [] = refl
unsettled_older (p ∷ ps) = grind (arith, unsettled_older ps)

unsettled_lined : (line : Line) (ps : List Passed) → filter (λ p. not p.settled) (after_line line ps) ≡ unsettled_by line (filter (λ p. not p.settled) ps)
unsettled_lined (Confirmed s k n) ps = settled_out k ps
unsettled_lined (Fact s k what) ps = unsettled_marked what k ps
unsettled_lined (Armed s d t) ps = refl
unsettled_lined (Closed s why) ps = refl
unsettled_lined (Watch s m p n w) ps = refl

unsettled-vanished : (o : Option Rule) (ps : List Passed) → filter (λ p. not p.settled) (without_vanished o ps) ≡ filter (λ p. not p.settled) ps
unsettled-vanished None ps = refl
unsettled-vanished (Some r) ps = refl

unsettled-framed : (b : Bool) (settled : Option ℕ) (frame : List ℕ) (gs : List (Option Identity)) (ps : List Passed)
    → filter (λ p. not p.settled) (after_frame b settled frame gs ps) ≡ unsettled_at b settled frame (filter (λ p. not p.settled) ps)
unsettled-framed true settled frame gs ps = unsettled-vanished (vanished true (identity_gone frame) gs ps) ps
unsettled-framed false settled frame gs ps =
    let a = unsettled_settled settled (without_number (rejected_by frame ps) ps) in
    let b = unsettled_without (rejected_by frame ps) ps in
    let c = rejected_open frame ps in
    rw a (rw b (rw c refl))

pub unsettled_stands : (run : Run) (earlier : ℕ) (own : List Own) (o : Own) → unsettled (o ∷ own) ≡ unsettled_after (now_of run earlier own) o
unsettled_stands run earlier own (Sends Controller frame lost) = refl
unsettled_stands run earlier own (Sends Switch frame lost) = unsettled_with (edit_out own) (count own) frame (passed own)
unsettled_stands run earlier own (From_switch frame others) =
    unsettled-framed (tells_of_vanishing own frame) (own_edit (answered_by own frame)) frame (guards own) (passed own)
unsettled_stands run earlier own (Reports line) = unsettled_lined line (passed own)
unsettled_stands run earlier own (Ticks version) = unsettled_older (passed own)
unsettled_stands run earlier own o = refl
