-- The edit that a report names is among the unsettled ones, with its identity.
use Rattle.std.specs.Prelude.{◌≡◌, ℕ, ◌+◌, ◌≤◌, Bool, true, false, not, ◌==◌, ◌||◌, List, [], ◌∷◌, filter, map, Option, Some, None, refl}
use Rattle.std.specs.List.{AllByRecursion, list_any}
use Rattle.std.proofs.Common.{arith, ap, sym, ◌∙◌, cond, subst}
use Rattle.std.proofs.lemmas.Bool.{false≢true}
use Rattle.std.proofs.lemmas.Bool.Decides.{eqb_tells}
use Rattle.mon_table.specs.declared.edit.Edit.{Edit}
use Rattle.mon_table.specs.declared.rule.Rule.{Rule}
use Rattle.mon_table.specs.Rules.{Identity, identity_of}
use Rattle.mon_table.specs.Edits.{edited}
use Rattle.mon_report.specs.declared.line.Line.{Line}
use Rattle.mon_report.specs.declared.line.Line.TheVariants.{Armed, Closed, Confirmed, Fact, Watch}
use Rattle.mon_report.specs.declared.line.What.{What}
use Rattle.mon_world.specs.declared.event.Side.TheVariants.{Controller, Switch}
use Rattle.mon_legal.specs.Runs.{Run}
use Rattle.mon_legal.specs.Owns.{Own}
use Rattle.mon_legal.specs.Owns.Own.{From_switch, Ticks, Sends, Reports}
use Rattle.mon_legal.specs.Messages.{identity_gone}
use Rattle.mon_legal.specs.Barriers.{Named, with_named, named, identity_with, edit_out, count, guards, answered_by, own_edit, just_reported}
use Rattle.mon_legal.specs.Edits.{Passed, passed, unsettled, is_number, settle, settle_if, without_number, rejected_by, with_passed, after_line, mark_reported, older, vanished, without_vanished, after_frame, tells_of_vanishing}
use Rattle.mon_session.specs.Now.{now_of, name_after, name_in, identity_in, edit_numbered, reported_by}
use Rattle.mon_session.specs.Standing.{ReportsOpen}
use Rattle.mon_session.proofs.GoesOn.{unsettled-before, all-kept}
use Rattle.mon_session.proofs.Steps.{reported_stands}

-- the number of the edit is not above the count, and where it is unsettled its number names its identity
abbrev IsNamed : ℕ → List Named → Passed → Type 0
IsNamed n names p = (p.number ≤ n) × (p.settled ≡ false → identity_with (Some p.number) names ≡ Some (identity_of (edited p.edit)))

abbrev AllNamed : ℕ → List Named → List Passed → Type 0
AllNamed n names ps = AllByRecursion (IsNamed n names) ps

named-settled : (n : ℕ) (names : List Named) (k : ℕ) (ps : List Passed) → AllNamed n names ps → AllNamed n names (map (settle k) ps)
named-settled n names k [] a = tt
named-settled n names k (p ∷ ps) a =
    ((a.0.0, λ s. a.0.1 (unsettled-before p.settled (is_number k p) s)), named-settled n names k ps a.1)

named-marked : (n : ℕ) (names : List Named) (what : What) (k : ℕ) (ps : List Passed) → AllNamed n names ps → AllNamed n names (map (mark_reported what k) ps)
named-marked n names what k [] a = tt
named-marked n names what k (p ∷ ps) a = (a.0, named-marked n names what k ps a.1)

named-older : (n : ℕ) (names : List Named) (ps : List Passed) → AllNamed n names ps → AllNamed n names (map older ps)
named-older n names [] a = tt
named-older n names (p ∷ ps) a = (a.0, named-older n names ps a.1)

named-lined : (n : ℕ) (names : List Named) (line : Line) (ps : List Passed) → AllNamed n names ps → AllNamed n names (after_line line ps)
named-lined n names (Confirmed s k m) ps a = named-settled n names k ps a
named-lined n names (Fact s k what) ps a = named-marked n names what k ps a
named-lined n names (Armed s d t) ps a = a
named-lined n names (Closed s why) ps a = a
named-lined n names (Watch s m p k w) ps a = a

named-without : (n : ℕ) (names : List Named) (o : Option ℕ) (ps : List Passed) → AllNamed n names ps → AllNamed n names (without_number o ps)
named-without n names None ps a = a
named-without n names (Some k) ps a = all-kept (IsNamed n names) (λ p. not (is_number k p)) ps a

named-settle : (n : ℕ) (names : List Named) (o : Option ℕ) (ps : List Passed) → AllNamed n names ps → AllNamed n names (settle_if o ps)
named-settle n names None ps a = a
named-settle n names (Some k) ps a = named-settled n names k ps a

named-vanished : (n : ℕ) (names : List Named) (o : Option Rule) (ps : List Passed) → AllNamed n names ps → AllNamed n names (without_vanished o ps)
named-vanished n names None ps a = a
named-vanished n names (Some r) ps a = ((grind arith, λ s. absurd (false≢true (sym s))), a)

named-framed : (n : ℕ) (names : List Named) (b : Bool) (settled : Option ℕ) (frame : List ℕ) (gs : List (Option Identity)) (ps : List Passed)
    → AllNamed n names ps → AllNamed n names (after_frame b settled frame gs ps)
named-framed n names true settled frame gs ps a = named-vanished n names (vanished true (identity_gone frame) gs ps) ps a
named-framed n names false settled frame gs ps a =
    named-settle n names settled (without_number (rejected_by frame ps) ps) (named-without n names (rejected_by frame ps) ps a)

-- a later name is another one
skipped : (n k : ℕ) (i : Identity) (names : List Named) → k ≤ n → identity_with (Some k) (record { number = n + 1; identity = i } ∷ names) ≡ identity_with (Some k) names
skipped n k i names le =
    let e : (n + 1 == k) ≡ false = grind (arith, eqb_tells (n + 1) k) in
    rw e refl

named-later : (n : ℕ) (i : Identity) (names : List Named) (ps : List Passed) → AllNamed n names ps → AllNamed (n + 1) (record { number = n + 1; identity = i } ∷ names) ps
named-later n i names [] a = tt
named-later n i names (p ∷ ps) a =
    ((grind (arith, a.0.0), λ s. skipped n p.number i names a.0.0 ∙ a.0.1 s), named-later n i names ps a.1)

found-first : (n : ℕ) (i : Identity) (names : List Named) → identity_with (Some n) (record { number = n; identity = i } ∷ names) ≡ Some i
found-first n i names =
    let e : (n == n) ≡ true = grind (arith, eqb_tells n n) in
    rw e refl

abbrev count_if : Option Edit → ℕ → ℕ
count_if None n = n
count_if (Some x) n = n + 1

named-with : (n : ℕ) (names : List Named) (x : Option Edit) (frame : List ℕ) (ps : List Passed) → AllNamed n names ps
    → AllNamed (count_if x n) (with_named (n + 1) x names) (with_passed x n frame ps)
named-with n names None frame ps a = a
named-with n names (Some x) frame ps a =
    ((grind arith, λ s. found-first (n + 1) (identity_of (edited x)) names), named-later n (identity_of (edited x)) names ps a)

counted : (own : List Own) (frame : List ℕ) (lost : Bool) (x : Option Edit) → edit_out own ≡ x → count (Sends Switch frame lost ∷ own) ≡ count_if x (count own)
counted own frame lost None e = rw e refl
counted own frame lost (Some x) e = rw e refl

all-named : (own : List Own) → AllNamed (count own) (named own) (passed own)
all-named [] = tt
all-named (Sends Controller frame lost ∷ own) = all-named own
all-named (Sends Switch frame lost ∷ own) =
    subst (λ (n : ℕ). AllNamed n (named (Sends Switch frame lost ∷ own)) (passed (Sends Switch frame lost ∷ own))) (sym (counted own frame lost (edit_out own) refl))
    (named-with (count own) (named own) (edit_out own) frame (passed own) (all-named own))
all-named (From_switch frame others ∷ own) =
    named-framed (count own) (named own) (tells_of_vanishing own frame) (own_edit (answered_by own frame)) frame (guards own) (passed own) (all-named own)
all-named (Reports line ∷ own) = named-lined (count own) (named own) line (passed own) (all-named own)
all-named (Ticks version ∷ own) = named-older (count own) (named own) (passed own) (all-named own)
all-named (o ∷ own) = all-named own

-- so the first unsettled edit of a number has the identity that the number names
name-found : (n : ℕ) (names : List Named) (k : ℕ) (ps : List Passed) → AllNamed n names ps
    → list_any (is_number k) (filter (λ p. not p.settled) ps) ≡ true
    → identity_with (Some k) names ≡ identity_in (edit_numbered k (filter (λ p. not p.settled) ps))
name-found n names k [] a h = absurd (false≢true h)
name-found n names k (p ∷ ps) a h =
    elim (p.settled) as (λ b. p.settled ≡ b → list_any (is_number k) (cond (not b) (p ∷ filter (λ q. not q.settled) ps) (filter (λ q. not q.settled) ps)) ≡ true
    → identity_with (Some k) names ≡ identity_in (edit_numbered k (cond (not b) (p ∷ filter (λ q. not q.settled) ps) (filter (λ q. not q.settled) ps)))) [
      | true ↦ λ y g. name-found n names k ps a.1 g
      | false ↦ λ y g.
          elim (is_number k p) as (λ b. is_number k p ≡ b → (b || list_any (is_number k) (filter (λ q. not q.settled) ps)) ≡ true
          → identity_with (Some k) names ≡ identity_in (cond b (Some p) (edit_numbered k (filter (λ q. not q.settled) ps)))) [
            | true ↦ λ z f.
                let same : p.number ≡ k = grind (arith, eqb_tells p.number k, z) in
                subst (λ (j : ℕ). identity_with (Some j) names ≡ Some (identity_of (edited p.edit))) same (a.0.1 y)
            | false ↦ λ z f. name-found n names k ps a.1 f
          ] refl g
    ] refl h

named-as : (own : List Own) (r : Option ℕ) → ((k : ℕ) → r ≡ Some k → list_any (is_number k) (unsettled own) ≡ true)
    → identity_with r (named own) ≡ name_in r (unsettled own)
named-as own None f = refl
named-as own (Some k) f = name-found (count own) (named own) k (passed own) (all-named own) (f k refl)

pub name_stands : (run : Run) (earlier : ℕ) (own : List Own) (o : Own) → ReportsOpen own o
    → identity_with (just_reported (o ∷ own)) (named (o ∷ own)) ≡ name_after (now_of run earlier own) o
name_stands run earlier own (Reports line) f =
    ap (λ (r : Option ℕ). identity_with r (named own)) (reported_stands run earlier own (Reports line)) ∙ named-as own (reported_by line) f
name_stands run earlier own (Sends Controller frame lost) f = refl
name_stands run earlier own (Sends Switch frame lost) f = refl
name_stands run earlier own o f = refl
