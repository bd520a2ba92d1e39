-- Marks and rejections leave edits that stand well.
use Rattle.std.proofs.Common.{◌≡◌, ℕ, Bool, true, false, cond, not, ◌||◌, ◌&&◌, List, [], ◌∷◌, map, Option, Some, None, refl, sym, ap, subst, inl}
use Rattle.std.specs.Prelude.{◌==◌, filter, if◌then◌else◌}
use Rattle.std.specs.List.{AllByRecursion, list_any}
use Rattle.std.proofs.lemmas.Bool.{false≢true}
use Rattle.mon_table.specs.declared.rule.Rule.{Rule}
use Rattle.mon_table.specs.Rules.{Identity, identity_of, same_identity}
use Rattle.mon_table.specs.Tables.{IsTable, rule_of}
use Rattle.mon_table.specs.Edits.{edited}
use Rattle.mon_table.proofs.Identities.{same-is}
use Rattle.mon_report.specs.declared.line.Line.{Line}
use Rattle.mon_report.specs.declared.line.Line.TheVariants.{Armed, Closed, Confirmed, Fact, Watch}
use Rattle.mon_report.specs.declared.line.What.{What}
use Rattle.mon_world.specs.declared.event.Side.TheVariants.{Controller, Switch}
use Rattle.mon_legal.specs.Owns.Own.{From_switch, Ticks, Sends, Reports}
use Rattle.mon_legal.specs.Barriers.{answered_by, own_edit, guards}
use Rattle.mon_legal.specs.Messages.{identity_gone}
use Rattle.mon_legal.specs.Edits.{Passed, table_of, passed, is_number, settle, settle_if, without_number, rejected_by, after_line, mark_reported, older, is_guarded, is_identity, unsure_at, vanished, without_vanished, after_frame, tells_of_vanishing}
use Rattle.mon_session.specs.Now.{reverse, edit_numbered, taken_back}
use Rattle.mon_session.specs.Standing.{Apart, is_vanishing, AllPassedWell, Waited}
use Rattle.mon_session.specs.Going.{StandingGoesOn}
use Rattle.mon_session.proofs.Rejected.{IsGood, own-numbers, waited-differ, all-good, good-back, table-is, take-back, has_open, rejected-open, none-numbered, later-there, rule-stays, some-there, all-normal, known-of, both}
use Rattle.mon_session.proofs.Tables.{edits_settled, edits_marked, edits_older}

-- taking an unsettled edit out --------------------------------------------------

pub all-kept : (P : Passed → Type 0) (test : Passed → Bool) (ps : List Passed) → AllByRecursion P ps → AllByRecursion P (filter test ps)
all-kept P test [] a = tt
all-kept P test (p ∷ ps) a =
    elim (test p) as (λ b. AllByRecursion P (cond b (p ∷ filter test ps) (filter test ps))) [
      | true ↦ (a.0, all-kept P test ps a.1)
      | false ↦ all-kept P test ps a.1
    ]

stood-behind : (t : List Rule) (i : Identity) (o : Option Rule) (e : Option Passed) → IsTable t
    → ((y : Passed) → e ≡ Some y → IsGood y × (same_identity (identity_of (edited y.edit)) i ≡ false))
    → rule_of i t ≡ o → rule_of i (taken_back e t) ≡ o
stood-behind t i o None table g stands = stands
stood-behind t i o (Some y) table g stands =
    let known = g y refl in
    rule-stays t (reverse y.edit y.stood) i o table (good-back y known.0)
    (subst (λ (j : Identity). same_identity j i ≡ false) (sym known.0.back) known.1) stands

rejects-well : (start : List Rule) (k : ℕ) (ps : List Passed) → IsTable start → AllPassedWell start ps → has_open k ps ≡ true
    → AllPassedWell start (filter (λ q. not (is_number k q)) ps)
rejects-well start k [] t a h = tt
rejects-well start k (p ∷ ps) t a h =
    elim (is_number k p) as (λ b. is_number k p ≡ b → (not p.settled && b || has_open k ps) ≡ true
    → AllPassedWell start (cond (not b) (p ∷ filter (λ q. not (is_number k q)) ps) (filter (λ q. not (is_number k q)) ps))) [
      | true ↦ λ y f.
          let others : AllByRecursion (λ q. (q.number == k) ≡ false) ps = own-numbers start k p ps a y h in
          subst (AllPassedWell start) (sym (none-numbered k ps others)) a.1
      | false ↦ λ n f.
          let there : has_open k ps ≡ true = later-there (not p.settled) false (has_open k ps) refl f in
          let waits = both (λ q. q.settled ≡ false → Apart (is_vanishing p) p.edit q.edit) IsGood
          (λ q. q.settled ≡ false → IsGood q × (same_identity (identity_of (edited q.edit)) (identity_of (edited p.edit)) ≡ false)) ps
          (λ q w g s. (g, waited-differ (is_vanishing p) p.edit q.edit (w s))) a.0.waited (all-good start ps a.1) in
          let stands = stood-behind (table_of start ps) (identity_of (edited p.edit)) p.stood (edit_numbered k (filter (λ q. not q.settled) ps)) (table-is start ps t a.1)
          (λ x e. known-of (λ y. IsGood y × (same_identity (identity_of (edited y.edit)) (identity_of (edited p.edit)) ≡ false)) k ps x waits e) a.0.stands in (
            record {
              waited = all-kept (λ q. q.settled ≡ false → Apart (is_vanishing p) p.edit q.edit) (λ q. not (is_number k q)) ps a.0.waited;
              numbered = λ z. all-kept (λ q. (q.number == p.number) ≡ false) (λ q. not (is_number k q)) ps (a.0.numbered z);
              counted = a.0.counted;
              stands = subst (λ (u : List Rule). rule_of (identity_of (edited p.edit)) u ≡ p.stood) (sym (take-back start k ps t a.1 there)) stands;
              planned = a.0.planned;
              unsure = a.0.unsure;
              normal = a.0.normal;
            },
            rejects-well start k ps t a.1 there,
          )
    ] refl h

rejected-well : (start : List Rule) (frame : List ℕ) (ps : List Passed) (o : Option ℕ) → rejected_by frame ps ≡ o → IsTable start → AllPassedWell start ps
    → AllPassedWell start (without_number o ps)
rejected-well start frame ps None e t a = a
rejected-well start frame ps (Some k) e t a = rejects-well start k ps t a (rejected-open frame ps k e)

-- marks ---------------------------------------------------------------------------

-- what waited for unsettled edits waits for fewer
pub unsettled-before : (a b : Bool) → (a || b) ≡ false → a ≡ false
unsettled-before true b e = e
unsettled-before false b e = refl

waits-settled : (p : Passed) (j : ℕ) (ps : List Passed) → Waited p ps → Waited (settle j p) (map (settle j) ps)
waits-settled p j [] w = tt
waits-settled p j (q ∷ ps) w = (λ s. w.0 (unsettled-before q.settled (is_number j q) s), waits-settled p j ps w.1)

numbers-settled : (n j : ℕ) (ps : List Passed) → AllByRecursion (λ q. (q.number == n) ≡ false) ps → AllByRecursion (λ q. (q.number == n) ≡ false) (map (settle j) ps)
numbers-settled n j [] a = tt
numbers-settled n j (q ∷ ps) a = (a.0, numbers-settled n j ps a.1)

settled-well : (start : List Rule) (j : ℕ) (ps : List Passed) → AllPassedWell start ps → AllPassedWell start (map (settle j) ps)
settled-well start j [] a = tt
settled-well start j (p ∷ ps) a = (
  record {
    waited = waits-settled p j ps a.0.waited;
    numbered = λ z. numbers-settled p.number j ps (a.0.numbered z);
    counted = λ s. a.0.counted (unsettled-before p.settled (is_number j p) s);
    stands = subst (λ (t : List Rule). rule_of (identity_of (edited p.edit)) t ≡ p.stood) (sym (edits_settled start j ps)) a.0.stands;
    planned = a.0.planned;
    unsure = a.0.unsure;
    normal = a.0.normal;
  },
  settled-well start j ps a.1,
)

waits-marked : (p : Passed) (what : What) (j : ℕ) (ps : List Passed) → Waited p ps → Waited (mark_reported what j p) (map (mark_reported what j) ps)
waits-marked p what j [] w = tt
waits-marked p what j (q ∷ ps) w = (w.0, waits-marked p what j ps w.1)

numbers-marked : (n : ℕ) (what : What) (j : ℕ) (ps : List Passed) → AllByRecursion (λ q. (q.number == n) ≡ false) ps
    → AllByRecursion (λ q. (q.number == n) ≡ false) (map (mark_reported what j) ps)
numbers-marked n what j [] a = tt
numbers-marked n what j (q ∷ ps) a = (a.0, numbers-marked n what j ps a.1)

marked-well : (start : List Rule) (what : What) (j : ℕ) (ps : List Passed) → AllPassedWell start ps → AllPassedWell start (map (mark_reported what j) ps)
marked-well start what j [] a = tt
marked-well start what j (p ∷ ps) a = (
  record {
    waited = waits-marked p what j ps a.0.waited;
    numbered = λ z. numbers-marked p.number what j ps (a.0.numbered z);
    counted = a.0.counted;
    stands = subst (λ (t : List Rule). rule_of (identity_of (edited p.edit)) t ≡ p.stood) (sym (edits_marked start what j ps)) a.0.stands;
    planned = a.0.planned;
    unsure = a.0.unsure;
    normal = a.0.normal;
  },
  marked-well start what j ps a.1,
)

waits-older : (p : Passed) (ps : List Passed) → Waited p ps → Waited (older p) (map older ps)
waits-older p [] w = tt
waits-older p (q ∷ ps) w = (w.0, waits-older p ps w.1)

numbers-older : (n : ℕ) (ps : List Passed) → AllByRecursion (λ q. (q.number == n) ≡ false) ps → AllByRecursion (λ q. (q.number == n) ≡ false) (map older ps)
numbers-older n [] a = tt
numbers-older n (q ∷ ps) a = (a.0, numbers-older n ps a.1)

older-well : (start : List Rule) (ps : List Passed) → AllPassedWell start ps → AllPassedWell start (map older ps)
older-well start [] a = tt
older-well start (p ∷ ps) a = (
  record {
    waited = waits-older p ps a.0.waited;
    numbered = λ z. numbers-older p.number ps (a.0.numbered z);
    counted = a.0.counted;
    stands = subst (λ (t : List Rule). rule_of (identity_of (edited p.edit)) t ≡ p.stood) (sym (edits_older start ps)) a.0.stands;
    planned = a.0.planned;
    unsure = a.0.unsure;
    normal = a.0.normal;
  },
  older-well start ps a.1,
)

lined-well : (start : List Rule) (line : Line) (ps : List Passed) → AllPassedWell start ps → AllPassedWell start (after_line line ps)
lined-well start (Confirmed s k n) ps a = settled-well start k ps a
lined-well start (Fact s k what) ps a = marked-well start what k ps a
lined-well start (Armed s d t) ps a = a
lined-well start (Closed s why) ps a = a
lined-well start (Watch s m p n w) ps a = a

settle-well : (start : List Rule) (o : Option ℕ) (ps : List Passed) → AllPassedWell start ps → AllPassedWell start (settle_if o ps)
settle-well start None ps a = a
settle-well start (Some j) ps a = settled-well start j ps a

-- an entry that vanishes ----------------------------------------------------------

-- no unsettled edit is of its identity
or-false : (a b : Bool) → (a || b) ≡ false → (a ≡ false) × (b ≡ false)
or-false true b e = absurd (false≢true (sym e))
or-false false b e = (refl, e)

unsettled-apart : (s b : Bool) → s ≡ false → (not s && b) ≡ false → b ≡ false
unsettled-apart true b e f = absurd (false≢true (sym e))
unsettled-apart false b e f = f

open-apart : (i : Identity) (ps : List Passed) → list_any (λ p. not p.settled && same_identity (identity_of (edited p.edit)) i) ps ≡ false
    → AllByRecursion (λ q. q.settled ≡ false → same_identity (identity_of (edited q.edit)) i ≡ false) ps
open-apart i [] e = tt
open-apart i (p ∷ ps) e =
    let f = or-false (not p.settled && same_identity (identity_of (edited p.edit)) i) (list_any (λ q. not q.settled && same_identity (identity_of (edited q.edit)) i) ps) e in
    (λ s. unsettled-apart p.settled (same_identity (identity_of (edited p.edit)) i) s f.0, open-apart i ps f.1)

-- what a vanishing says of the entry
abbrev rule_or : Rule → Option Rule → Rule
rule_or d None = d
rule_or d (Some x) = x

some-rule : (s r : Rule) → Some s ≡ Some r → s ≡ r
some-rule s r e = ap (rule_or s) e

unsure-if : (u g : Bool) (s r : Rule) → s.unsure ≡ u → (if u && not g then Some s else None) ≡ Some r → (Some s ≡ Some r) × (r.unsure ≡ true) × (g ≡ false)
unsure-if true false s r y e = (e, subst (λ (x : Rule). x.unsure ≡ true) (some-rule s r e) y, refl)
unsure-if true true s r y e = absurd (let g : None ≡ Some r = e in cc)
unsure-if false g s r y e = absurd (let h : None ≡ Some r = e in cc)

unsure-tells : (i : Identity) (ps : List Passed) (gs : List (Option Identity)) (o : Option Rule) (r : Rule) → unsure_at i ps gs o ≡ Some r
    → (o ≡ Some r) × (r.unsure ≡ true) × (is_guarded i ps gs ≡ false)
unsure-tells i ps gs None r e = absurd (let g : None ≡ Some r = e in cc)
unsure-tells i ps gs (Some s) r e = unsure-if (s.unsure) (is_guarded i ps gs) s r refl e

vanished-well : (start : List Rule) (i : Identity) (gs : List (Option Identity)) (ps : List Passed) (o : Option Rule)
    → unsure_at i ps gs (rule_of i (table_of [] ps)) ≡ o → IsTable start → AllPassedWell start ps → AllPassedWell [] ps
    → ((r : Rule) → o ≡ Some r → rule_of (identity_of r) (table_of start ps) ≡ Some r) → AllPassedWell start (without_vanished o ps)
vanished-well start i gs ps None e t a b w = a
vanished-well start i gs ps (Some r) e t a b w =
    let f = unsure-tells i ps gs (rule_of i (table_of [] ps)) r e in
    let g = some-there i (table_of [] ps) r f.0 in
    let same : identity_of r ≡ i = same-is (identity_of r) i g.1 in
    let apart = open-apart i ps (or-false (list_any (λ p. not p.settled && same_identity (identity_of (edited p.edit)) i) ps) (list_any (is_identity i) gs) f.2).0 in (
      record {
        waited = subst (λ (j : Identity). AllByRecursion (λ q. q.settled ≡ false → same_identity (identity_of (edited q.edit)) j ≡ false) ps) (sym same) apart;
        numbered = λ z. absurd (false≢true (sym z));
        counted = λ z. absurd (false≢true (sym z));
        stands = w r refl;
        planned = inl refl;
        unsure = λ z. (r, refl, refl, f.1);
        normal = all-normal (table_of [] ps) r (table-is [] ps (record { order = tt; normal = tt }) b).normal g.0;
      },
      a,
    )

framed-well : (start : List Rule) (b : Bool) (settled : Option ℕ) (frame : List ℕ) (gs : List (Option Identity)) (ps : List Passed)
    → IsTable start → AllPassedWell start ps → AllPassedWell [] ps
    → ((r : Rule) → vanished b (identity_gone frame) gs ps ≡ Some r → rule_of (identity_of r) (table_of start ps) ≡ Some r)
    → AllPassedWell start (after_frame b settled frame gs ps)
framed-well start true settled frame gs ps t a b w =
    vanished-well start (identity_gone frame) gs ps (vanished true (identity_gone frame) gs ps) refl t a b w
framed-well start false settled frame gs ps t a b w =
    settle-well start settled (without_number (rejected_by frame ps) ps) (rejected-well start frame ps (rejected_by frame ps) refl t a)

pub standing-goes-on : StandingGoesOn
standing-goes-on start own (Sends Controller frame lost) t a w = a
standing-goes-on start own (Sends Switch frame lost) t a w = w
standing-goes-on start own (From_switch frame others) t a w =
    framed-well start (tells_of_vanishing own frame) (own_edit (answered_by own frame)) frame (guards own) (passed own) t a w.0 w.1
standing-goes-on start own (Reports line) t a w = lined-well start line (passed own) a
standing-goes-on start own (Ticks version) t a w = older-well start (passed own) a
standing-goes-on start own o t a w = a
