-- The other edits lose only unsure rules at a header, as long as the edit that takes it is unsettled.
use Rattle.std.proofs.Common.{◌≡◌, ℕ, ◌+◌, ◌≤◌, Bool, true, false, cond, not, ◌||◌, ◌&&◌, List, [], ◌∷◌, ◌++◌, map, Option, Some, None, refl, sym, ap, subst, ◌∙◌, inl, inr, ⊎_elim, arith}
use Rattle.std.specs.Prelude.{◌==◌, filter}
use Rattle.std.specs.List.{AllByRecursion}
use Rattle.std.proofs.lemmas.Bool.{cases_Bool, false≢true}
use Rattle.mon_table.specs.declared.edit.Edit.TheVariants.{Cut}
use Rattle.mon_table.specs.Rules.{Identity, identity_of, same_identity}
use Rattle.mon_table.specs.Tables.{InOrder, IsTable, rule_of}
use Rattle.mon_table.proofs.Members.{after-members, members-after, after-table, one-rule}
use Rattle.mon_table.proofs.Slicing.{SameAt, same-turned}
use Rattle.mon_header.specs.declared.header.Header.{Header}
use Rattle.mon_header.specs.Matching.{matches, overlaps}
use Rattle.mon_header.proofs.Sharing.{both-taken}
use Rattle.mon_shows.specs.Under.{Under}
use Rattle.mon_table.specs.declared.rule.Rule.{Rule}
use Rattle.mon_table.specs.declared.edit.Edit.{Edit}
use Rattle.mon_table.specs.Edits.{edited, after}
use Rattle.mon_report.specs.declared.line.Line.{Line}
use Rattle.mon_report.specs.declared.line.Line.TheVariants.{Armed, Closed, Confirmed, Fact, Watch}
use Rattle.mon_report.specs.declared.line.What.{What}
use Rattle.mon_world.specs.declared.event.Side.TheVariants.{Controller, Switch}
use Rattle.mon_legal.specs.Owns.{Own}
use Rattle.mon_legal.specs.Changing.{plus_if}
use Rattle.mon_legal.specs.Owns.Own.{From_switch, Ticks, Sends, Reports}
use Rattle.mon_legal.specs.Barriers.{count, edit_out, is_edit, answered_by, own_edit, guards}
use Rattle.mon_legal.specs.Messages.{identity_gone}
use Rattle.mon_legal.specs.Edits.{Passed, table_of, passed, is_number, settle, settle_if, without_number, rejected_by, with_passed, after_line, mark_reported, older, changes_nothing, vanished, without_vanished, after_frame, tells_of_vanishing}
use Rattle.mon_session.specs.Standing.{Apart, is_vanishing, AllPassedWell}
use Rattle.mon_session.specs.Now.{reverse, taken_back}
use Rattle.mon_session.specs.Confirmed.{IsOpen, IsWell, WellSince, others, takes_header, around_header, OthersStay, ConfirmationIsSound}
use Rattle.mon_session.proofs.Rejected.{has_open, rejected-open, none-open, own-numbers, open-counted, take-back, table-is, good-back, later-there, rule-stays, some-there}
use Rattle.mon_session.proofs.Sound.{made_by, sound-later, under-on, open-has, open-number, others-settled, real-apart, around-is, under-same, same-on}

around-step : (t : Bool) (q p : Passed) (qs rs : List Passed) → q.edit ≡ p.edit → map (λ z. z.edit) qs ≡ map (λ z. z.edit) rs
    → map (λ z. z.edit) (cond t (q ∷ qs) qs) ≡ map (λ z. z.edit) (cond t (p ∷ rs) rs)
around-step true q p qs rs e f = ap (λ (x : Edit). x ∷ map (λ z. z.edit) qs) e ∙ ap (λ (es : List Edit). p.edit ∷ es) f
around-step false q p qs rs e f = f

around-settled : (h : Header) (k j : ℕ) (ps : List Passed) → around_header h k (map (settle j) ps) ≡ around_header h k ps
around-settled h k j [] = refl
around-settled h k j (p ∷ ps) =
    around-step (takes_header h p && not (is_number k p)) (settle j p) p (filter (λ q. takes_header h q && not (is_number k q)) (map (settle j) ps))
    (filter (λ q. takes_header h q && not (is_number k q)) ps) refl (around-settled h k j ps)

around-marked : (h : Header) (k : ℕ) (what : What) (j : ℕ) (ps : List Passed) → around_header h k (map (mark_reported what j) ps) ≡ around_header h k ps
around-marked h k what j [] = refl
around-marked h k what j (p ∷ ps) =
    around-step (takes_header h p && not (is_number k p)) (mark_reported what j p) p (filter (λ q. takes_header h q && not (is_number k q)) (map (mark_reported what j) ps))
    (filter (λ q. takes_header h q && not (is_number k q)) ps) refl (around-marked h k what j ps)

around-older : (h : Header) (k : ℕ) (ps : List Passed) → around_header h k (map older ps) ≡ around_header h k ps
around-older h k [] = refl
around-older h k (p ∷ ps) =
    around-step (takes_header h p && not (is_number k p)) (older p) p (filter (λ q. takes_header h q && not (is_number k q)) (map older ps))
    (filter (λ q. takes_header h q && not (is_number k q)) ps) refl (around-older h k ps)

around-lined : (h : Header) (k : ℕ) (line : Line) (ps : List Passed) → around_header h k (after_line line ps) ≡ around_header h k ps
around-lined h k (Confirmed s j n) ps = around-settled h k j ps
around-lined h k (Fact s j what) ps = around-marked h k what j ps
around-lined h k (Armed s d t) ps = refl
around-lined h k (Closed s why) ps = refl
around-lined h k (Watch s m p n w) ps = refl

around-settle : (h : Header) (k : ℕ) (o : Option ℕ) (ps : List Passed) → around_header h k (settle_if o ps) ≡ around_header h k ps
around-settle h k None ps = refl
around-settle h k (Some j) ps = around-settled h k j ps

-- a new edit takes no header that an unsettled one takes ------------------------

new-apart : (start : List Rule) (h : Header) (k : ℕ) (x : Edit) (p : Passed) (ps : List Passed) → is_vanishing p ≡ false → AllPassedWell start (p ∷ ps) → IsOpen k x ps
    → matches (edited x).matching h ≡ true → takes_header h p ≡ false
new-apart start h k x p ps z a o y = ⊎_elim
    (λ t.
    let f = open-has (λ q. q.settled ≡ false → overlaps (edited p.edit).matching (edited q.edit).matching ≡ false) k x ps (real-apart p ps (is_vanishing p) z a.0.waited) o in
    let taken = subst (λ (z : Edit). matches (edited z).matching h ≡ true) (sym f.4) y in
    absurd (false≢true (sym (f.1 f.3) ∙ both-taken (edited p.edit).matching (edited f.0.edit).matching h t taken)))
    (λ n. n)
    (cases_Bool (takes_header h p))

around-new : (h : Header) (k : ℕ) (p : Passed) (ps : List Passed) → takes_header h p ≡ false → around_header h k (p ∷ ps) ≡ around_header h k ps
around-new h k p ps n = rw n refl

around-with : (start : List Rule) (h : Header) (k : ℕ) (x : Edit) (e : Option Edit) (n : ℕ) (frame : List ℕ) (ps : List Passed)
    → AllPassedWell start (with_passed e n frame ps) → IsOpen k x ps → matches (edited x).matching h ≡ true
    → around_header h k (with_passed e n frame ps) ≡ around_header h k ps
around-with start h k x None n frame ps a o y = refl
around-with start h k x (Some z) n frame ps a o y =
    let p : Passed = record {
      number = n + 1;
      edit = z;
      stood = rule_of (identity_of (edited z)) (table_of [] ps);
      frame = frame;
      settled = changes_nothing z;
      reported = false;
      ticks = 0;
    } in
    around-new h k p ps (new-apart start h k x p ps (grind arith) a o y)

-- a rejected edit takes none either ----------------------------------------------

first-unsettled : (a b c : Bool) → c ≡ false → (not a && b || c) ≡ true → a ≡ false
first-unsettled false b c e f = refl
first-unsettled true b c e f = absurd (false≢true (sym e ∙ f))

none-of-number : (j : ℕ) (ps : List Passed) → AllByRecursion (λ q. (q.number == j) ≡ false) ps → AllByRecursion (λ q. is_number j q ≡ true → q.settled ≡ false) ps
none-of-number j [] a = tt
none-of-number j (p ∷ ps) a = (λ y. absurd (false≢true (sym a.0 ∙ y)), none-of-number j ps a.1)

numbered-open : (start : List Rule) (j : ℕ) (ps : List Passed) → AllPassedWell start ps → has_open j ps ≡ true
    → AllByRecursion (λ q. is_number j q ≡ true → q.settled ≡ false) ps
numbered-open start j [] a o = tt
numbered-open start j (p ∷ ps) a o =
    elim (is_number j p) as (λ b. is_number j p ≡ b → (not p.settled && b || has_open j ps) ≡ true → AllByRecursion (λ q. is_number j q ≡ true → q.settled ≡ false) (p ∷ ps)) [
      | true ↦ λ y f.
          let others : AllByRecursion (λ q. (q.number == j) ≡ false) ps = own-numbers start j p ps a y o in
          (λ z. first-unsettled p.settled true (has_open j ps) (none-open j ps others) f, none-of-number j ps others)
      | false ↦ λ n f.
          (λ z. absurd (false≢true (sym n ∙ z)), numbered-open start j ps a.1 (later-there (not p.settled) false (has_open j ps) refl f))
    ] refl o

-- leaving out edits of which none is among those that are looked for
left-out : (j : ℕ) (test : Passed → Bool) (ps : List Passed) → AllByRecursion (λ q. is_number j q ≡ true → test q ≡ false) ps
    → filter test (filter (λ q. not (is_number j q)) ps) ≡ filter test ps
left-out j test [] a = refl
left-out j test (p ∷ ps) a =
    elim (is_number j p) as (λ b. is_number j p ≡ b → filter test (cond (not b) (p ∷ filter (λ q. not (is_number j q)) ps) (filter (λ q. not (is_number j q)) ps)) ≡ filter test (p ∷ ps)) [
      | true ↦ λ y. rw (a.0 y) (left-out j test ps a.1)
      | false ↦ λ n. ap (λ (qs : List Passed). cond (test p) (p ∷ qs) qs) (left-out j test ps a.1)
    ] refl

no-test : (t n s : Bool) → (t ≡ true → n ≡ false → s ≡ true) → s ≡ false → (t && not n) ≡ false
no-test true true s f e = refl
no-test true false s f e = absurd (false≢true (sym e ∙ f refl refl))
no-test false n s f e = refl

none-looked-for : (h : Header) (k j : ℕ) (ps : List Passed) → AllByRecursion (λ q. takes_header h q ≡ true → is_number k q ≡ false → q.settled ≡ true) ps
    → AllByRecursion (λ q. is_number j q ≡ true → q.settled ≡ false) ps
    → AllByRecursion (λ q. is_number j q ≡ true → (takes_header h q && not (is_number k q)) ≡ false) ps
none-looked-for h k j [] a b = tt
none-looked-for h k j (p ∷ ps) a b = (λ y. no-test (takes_header h p) (is_number k p) p.settled a.0 (b.0 y), none-looked-for h k j ps a.1 b.1)

around-rejected : (start : List Rule) (h : Header) (k : ℕ) (x : Edit) (frame : List ℕ) (ps : List Passed) (o : Option ℕ) → rejected_by frame ps ≡ o
    → AllPassedWell start ps → IsOpen k x ps → matches (edited x).matching h ≡ true → around_header h k (without_number o ps) ≡ around_header h k ps
around-rejected start h k x frame ps None e a u y = refl
around-rejected start h k x frame ps (Some j) e a u y =
    ap (λ (qs : List Passed). map (λ q. q.edit) qs)
    (left-out j (λ q. takes_header h q && not (is_number k q)) ps
    (none-looked-for h k j ps (others-settled start h k x ps a u y) (numbered-open start j ps a (rejected-open frame ps j e))))

-- the table of the others ----------------------------------------------------------

under-around : (start : List Rule) (h : Header) (k : ℕ) (ps qs : List Passed) → around_header h k ps ≡ around_header h k qs → Under h (table_of start (others k ps)) (table_of start (others k qs))
under-around start h k ps qs e =
    under-same h (table_of start (others k ps)) (table_of start (others k qs))
    (same-on h (table_of start (others k ps)) (made_by start (around_header h k ps)) (table_of start (others k qs)) (around-is start h k ps)
    (subst (λ (es : List Edit). SameAt h (made_by start es) (table_of start (others k qs))) (sym e)
    (same-turned h (table_of start (others k qs)) (made_by start (around_header h k qs)) (around-is start h k qs))))

-- an entry that vanishes takes an unsure rule from them
gone-under : (h : Header) (t : List Rule) (r : Rule) → InOrder t → r.unsure ≡ true → rule_of (identity_of r) t ≡ Some r → Under h (after t (Cut r)) t
gone-under h t r order u e = record {
  like = λ s m i. ⊎_elim
      (λ put. absurd put)
      (λ l. record { like = s; has = l.0; identity = refl; actions = refl })
      (after-members t (Cut r) s i);
  sure = λ s m sure i. record {
    sure = s;
    has = members-after t (Cut r) s (inr (
      i,
      ⊎_elim
          (λ same. absurd (false≢true (sym sure ∙ (ap (λ (w : Rule). w.unsure) (one-rule t s r order i (some-there (identity_of r) t r e).0 same) ∙ u))))
          (λ d. d)
          (cases_Bool (same_identity (identity_of s) (identity_of r))),
    ));
    is_sure = sure;
    identity = refl;
  };
}

vanishing-other : (m k : ℕ) → (m == 0) ≡ true → (k == 0) ≡ false → (m == k) ≡ false
vanishing-other m k e f = grind (arith, e, f)

vanishing-apart : (p : Passed) (r : Rule) (ps : List Passed) (b : Bool) → b ≡ true → p.edit ≡ Cut r → AllByRecursion (λ q. q.settled ≡ false → Apart b p.edit q.edit) ps
    → AllByRecursion (λ q. q.settled ≡ false → same_identity (identity_of (edited q.edit)) (identity_of r) ≡ false) ps
vanishing-apart p r ps true e is a = subst (λ (x : Edit). AllByRecursion (λ q. q.settled ≡ false → same_identity (identity_of (edited q.edit)) (identity_of (edited x)) ≡ false) ps) is a
vanishing-apart p r ps false e is a = absurd (false≢true e)

others-with : (start : List Rule) (h : Header) (k : ℕ) (r : Rule) (p : Passed) (ps : List Passed) → is_number k p ≡ false → p.edit ≡ Cut r
    → Under h (after (table_of start (others k ps)) (Cut r)) (table_of start (others k ps)) → Under h (table_of start (others k (p ∷ ps))) (table_of start (others k ps))
others-with start h k r p ps n is u =
    rw n (subst (λ (x : Edit). Under h (after (table_of start (others k ps)) x) (table_of start (others k ps))) (sym is) u)

vanished-under : (start : List Rule) (h : Header) (k : ℕ) (x : Edit) (r : Rule) (p : Passed) (ps : List Passed) → p.edit ≡ Cut r → p.stood ≡ Some r → r.unsure ≡ true
    → is_vanishing p ≡ true → IsTable start → AllPassedWell start (p ∷ ps) → IsOpen k x ps → Under h (table_of start (others k (p ∷ ps))) (table_of start (others k ps))
vanished-under start h k x r p ps is stood u z t a o =
    let f = open-number start k x ps a.1 o in
    let counted = open-counted start k ps a.1 f.0 in
    let other : is_number k p ≡ false = vanishing-other p.number k z counted in
    let back : table_of start (others k ps) ≡ after (table_of start ps) (reverse f.1.0.edit f.1.0.stood) =
    take-back start k ps t a.1 f.0 ∙ ap (λ (q : Option Passed). taken_back q (table_of start ps)) f.1.1 in
    let apart = open-has (λ q. q.settled ≡ false → same_identity (identity_of (edited q.edit)) (identity_of r) ≡ false) k x ps (vanishing-apart p r ps (is_vanishing p) z is a.0.waited) o in
    let differs : same_identity (identity_of (edited f.1.0.edit)) (identity_of r) ≡ false =
    subst (λ (y : Edit). same_identity (identity_of (edited y)) (identity_of r) ≡ false) (apart.4 ∙ sym f.1.2) (apart.1 apart.3) in
    let stands : rule_of (identity_of r) (table_of start ps) ≡ Some r = subst (λ (y : Edit). rule_of (identity_of (edited y)) (table_of start ps) ≡ Some r) is (a.0.stands ∙ stood) in
    let there : rule_of (identity_of r) (table_of start (others k ps)) ≡ Some r =
    subst (λ (y : List Rule). rule_of (identity_of r) y ≡ Some r) (sym back)
    (rule-stays (table_of start ps) (reverse f.1.0.edit f.1.0.stood) (identity_of r) (Some r) (table-is start ps t a.1) (good-back f.1.0 f.1.4)
    (subst (λ (i : Identity). same_identity i (identity_of r) ≡ false) (sym f.1.4.back) differs) stands) in
    let order : InOrder (table_of start (others k ps)) =
    subst InOrder (sym back) (after-table (table_of start ps) (reverse f.1.0.edit f.1.0.stood) (table-is start ps t a.1) (good-back f.1.0 f.1.4)).order in
    others-with start h k r p ps other is (gone-under h (table_of start (others k ps)) r order u there)

vanish-under : (start : List Rule) (h : Header) (k : ℕ) (x : Edit) (o : Option Rule) (ps : List Passed) → IsTable start → AllPassedWell start ps
    → AllPassedWell start (without_vanished o ps) → IsOpen k x ps → Under h (table_of start (others k (without_vanished o ps))) (table_of start (others k ps))
vanish-under start h k x None ps t a b o = under-around start h k ps ps refl
vanish-under start h k x (Some r) ps t a b o =
    let p : Passed = record { number = 0; edit = Cut r; stood = Some r; frame = []; settled = true; reported = false; ticks = 0 } in
    let v = b.0.unsure refl in
    let same : r ≡ v.0 = ap (λ (y : Edit). edited y) v.1 in
    vanished-under start h k x r p ps refl refl (subst (λ (y : Rule). y.unsure ≡ true) (sym same) v.3) refl t b o

framed-under : (start : List Rule) (h : Header) (k : ℕ) (x : Edit) (c : Bool) (settled : Option ℕ) (frame : List ℕ) (gs : List (Option Identity)) (ps : List Passed)
    → IsTable start → AllPassedWell start ps → AllPassedWell start (after_frame c settled frame gs ps) → IsOpen k x ps → matches (edited x).matching h ≡ true
    → Under h (table_of start (others k (after_frame c settled frame gs ps))) (table_of start (others k ps))
framed-under start h k x true settled frame gs ps t a b o y = vanish-under start h k x (vanished true (identity_gone frame) gs ps) ps t a b o
framed-under start h k x false settled frame gs ps t a b o y =
    under-around start h k (settle_if settled (without_number (rejected_by frame ps) ps)) ps
    (around-settle h k settled (without_number (rejected_by frame ps) ps) ∙ around-rejected start h k x frame ps (rejected_by frame ps) refl a o y)

one-entry : (start : List Rule) (own : List Own) (o : Own) (h : Header) (k : ℕ) (x : Edit)
    → IsTable start → AllPassedWell start (passed own) → AllPassedWell start (passed (o ∷ own)) → IsOpen k x (passed own) → matches (edited x).matching h ≡ true
    → Under h (table_of start (others k (passed (o ∷ own)))) (table_of start (others k (passed own)))
one-entry start own (Sends Controller frame lost) h k x t a b o y = under-around start h k (passed own) (passed own) refl
one-entry start own (Sends Switch frame lost) h k x t a b o y =
    under-around start h k (with_passed (edit_out own) (count own) frame (passed own)) (passed own) (around-with start h k x (edit_out own) (count own) frame (passed own) b o y)
one-entry start own (From_switch frame datapaths) h k x t a b o y =
    framed-under start h k x (tells_of_vanishing own frame) (own_edit (answered_by own frame)) frame (guards own) (passed own) t a b o y
one-entry start own (Reports line) h k x t a b o y = under-around start h k (after_line line (passed own)) (passed own) (around-lined h k line (passed own))
one-entry start own (Ticks version) h k x t a b o y = under-around start h k (map older (passed own)) (passed own) (around-older h k (passed own))
one-entry start own o h k x t a b w y = under-around start h k (passed own) (passed own) refl

-- an unsettled edit was so before, from when it was passed on -------------------------

before-or : (a b : Bool) → (a || b) ≡ false → a ≡ false
before-or true b e = e
before-or false b e = refl

open-settled : (k : ℕ) (x : Edit) (j : ℕ) (ps : List Passed) → IsOpen k x (map (settle j) ps) → IsOpen k x ps
open-settled k x j [] o = o
open-settled k x j (p ∷ ps) o = ⊎_elim (λ y. inl (y.0, before-or p.settled (is_number j p) y.1, y.2)) (λ i. inr (open-settled k x j ps i)) o

open-marked : (k : ℕ) (x : Edit) (what : What) (j : ℕ) (ps : List Passed) → IsOpen k x (map (mark_reported what j) ps) → IsOpen k x ps
open-marked k x what j [] o = o
open-marked k x what j (p ∷ ps) o = ⊎_elim (λ y. inl y) (λ i. inr (open-marked k x what j ps i)) o

open-older : (k : ℕ) (x : Edit) (ps : List Passed) → IsOpen k x (map older ps) → IsOpen k x ps
open-older k x [] o = o
open-older k x (p ∷ ps) o = ⊎_elim (λ y. inl y) (λ i. inr (open-older k x ps i)) o

open-filtered : (k : ℕ) (x : Edit) (test : Passed → Bool) (ps : List Passed) → IsOpen k x (filter test ps) → IsOpen k x ps
open-filtered k x test [] o = o
open-filtered k x test (p ∷ ps) o =
    elim (test p) as (λ b. IsOpen k x (cond b (p ∷ filter test ps) (filter test ps)) → IsOpen k x (p ∷ ps)) [
      | true ↦ λ i. ⊎_elim (λ y. inl y) (λ l. inr (open-filtered k x test ps l)) i
      | false ↦ λ i. inr (open-filtered k x test ps i)
    ] o

open-without : (k : ℕ) (x : Edit) (j : Option ℕ) (ps : List Passed) → IsOpen k x (without_number j ps) → IsOpen k x ps
open-without k x None ps o = o
open-without k x (Some j) ps o = open-filtered k x (λ q. not (is_number j q)) ps o

open-settle : (k : ℕ) (x : Edit) (j : Option ℕ) (ps : List Passed) → IsOpen k x (settle_if j ps) → IsOpen k x ps
open-settle k x None ps o = o
open-settle k x (Some j) ps o = open-settled k x j ps o

open-vanished : (k : ℕ) (x : Edit) (r : Option Rule) (ps : List Passed) → IsOpen k x (without_vanished r ps) → IsOpen k x ps
open-vanished k x None ps o = o
open-vanished k x (Some r) ps o = ⊎_elim (λ y. absurd (false≢true (sym y.1))) (λ i. i) o

open-framed : (k : ℕ) (x : Edit) (c : Bool) (settled : Option ℕ) (frame : List ℕ) (gs : List (Option Identity)) (ps : List Passed)
    → IsOpen k x (after_frame c settled frame gs ps) → IsOpen k x ps
open-framed k x true settled frame gs ps o = open-vanished k x (vanished true (identity_gone frame) gs ps) ps o
open-framed k x false settled frame gs ps o =
    open-without k x (rejected_by frame ps) ps (open-settle k x settled (without_number (rejected_by frame ps) ps) o)

open-lined : (k : ℕ) (x : Edit) (line : Line) (ps : List Passed) → IsOpen k x (after_line line ps) → IsOpen k x ps
open-lined k x (Confirmed s j n) ps o = open-settled k x j ps o
open-lined k x (Fact s j what) ps o = open-marked k x what j ps o
open-lined k x (Armed s d t) ps o = o
open-lined k x (Closed s why) ps o = o
open-lined k x (Watch s m p n w) ps o = o

above : (n k : ℕ) → k ≤ n → n + 1 ≡ k → ⊥
above n k le e = omega (arith, le, e)

open-with : (k : ℕ) (x : Edit) (e : Option Edit) (n : ℕ) (frame : List ℕ) (ps : List Passed) → k ≤ n → IsOpen k x (with_passed e n frame ps) → IsOpen k x ps
open-with k x None n frame ps le o = o
open-with k x (Some z) n frame ps le o = ⊎_elim (λ y. absurd (above n k le y.0)) (λ i. i) o

open-before : (k : ℕ) (x : Edit) (o : Own) (own : List Own) → k ≤ count own → IsOpen k x (passed (o ∷ own)) → IsOpen k x (passed own)
open-before k x (Sends Controller frame lost) own le i = i
open-before k x (Sends Switch frame lost) own le i = open-with k x (edit_out own) (count own) frame (passed own) le i
open-before k x (From_switch frame datapaths) own le i =
    open-framed k x (tells_of_vanishing own frame) (own_edit (answered_by own frame)) frame (guards own) (passed own) i
open-before k x (Reports line) own le i = open-lined k x line (passed own) i
open-before k x (Ticks version) own le i = open-older k x (passed own) i
open-before k x o own le i = i

plus-most : (b : Bool) (n : ℕ) → n ≤ plus_if b n
plus-most true n = omega arith
plus-most false n = omega arith

count-later : (o : Own) (own : List Own) → count own ≤ count (o ∷ own)
count-later (Sends Controller frame lost) own = omega arith
count-later (Sends Switch frame lost) own = plus-most (is_edit own) (count own)
count-later o own = omega arith

count-since : (later earlier : List Own) (k : ℕ) → k ≤ count earlier → k ≤ count (later ++ earlier)
count-since [] earlier k le = le
count-since (o ∷ later) earlier k le =
    let before = count-since later earlier k le in
    let more = count-later o (later ++ earlier) in
    omega (arith, before, more)

numbered : (k : ℕ) (x : Edit) (n : ℕ) (ps : List Passed) → AllByRecursion (λ p. p.number ≤ n) ps → IsOpen k x ps → k ≤ n
numbered k x n [] a o = absurd o
numbered k x n (p ∷ ps) a o = ⊎_elim (λ y. subst (λ (j : ℕ). j ≤ n) y.0 a.0) (λ i. numbered k x n ps a.1 i) o

well-now : (start : List Rule) (later earlier : List Own) → WellSince start later earlier → IsWell start (later ++ earlier)
well-now start [] earlier w = w
well-now start (o ∷ later) earlier w = w.0

well-then : (start : List Rule) (later earlier : List Own) → WellSince start later earlier → IsWell start earlier
well-then start [] earlier w = w
well-then start (o ∷ later) earlier w = well-then start later earlier w.1

stays-since : (start : List Rule) (earlier later : List Own) (h : Header) (k : ℕ) (x : Edit) → IsTable start → WellSince start later earlier
    → k ≤ count earlier → IsOpen k x (passed (later ++ earlier)) → matches (edited x).matching h ≡ true
    → Under h (table_of start (others k (passed (later ++ earlier)))) (table_of start (others k (passed earlier)))
stays-since start earlier [] h k x t w le u y = under-around start h k (passed earlier) (passed earlier) refl
stays-since start earlier (o ∷ later) h k x t w le u y =
    let before : IsOpen k x (passed (later ++ earlier)) = open-before k x o (later ++ earlier) (count-since later earlier k le) u in
    under-on h (table_of start (others k (passed (o ∷ (later ++ earlier))))) (table_of start (others k (passed (later ++ earlier)))) (table_of start (others k (passed earlier)))
    (one-entry start (later ++ earlier) o h k x t (well-now start later earlier w.1).0 w.0.0 before y)
    (stays-since start earlier later h k x t w.1 le before y)

pub others-stay : OthersStay
others-stay start earlier later h k x t w o u y =
    stays-since start earlier later h k x t w (numbered k x (count earlier) (passed earlier) (well-then start later earlier w).1 o) u y

pub confirmation-is-sound : ConfirmationIsSound
confirmation-is-sound start earlier later v h e k x t w o u y keep goes kept gone =
    sound-later start (passed earlier) (passed (later ++ earlier)) v h e k x keep goes t (well-then start later earlier w).0 (well-now start later earlier w).0 o u
    (λ m. others-stay start earlier later h k x t w o u m) y kept gone
