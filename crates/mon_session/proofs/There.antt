-- The update of each unsettled edit is in the table that the switch should have.
use Rattle.std.proofs.Common.{◌≡◌, true, false, not, cond, List, [], ◌∷◌, Option, Some, None, refl, subst, inl, inr, ⊎_elim}
use Rattle.std.specs.List.{AllByRecursion, filter}
use Rattle.mon_list.specs.Has.{Has}
use Rattle.mon_header.specs.Matching.{IsNormal}
use Rattle.mon_table.specs.declared.rule.Rule.{Rule}
use Rattle.mon_table.specs.declared.edit.Edit.{Edit}
use Rattle.mon_table.specs.declared.edit.Edit.TheVariants.{Put, Cut}
use Rattle.mon_table.specs.Rules.{Identity, identity_of, same_identity}
use Rattle.mon_table.specs.Tables.{IsTable, AllNormal, rule_of, with_rule}
use Rattle.mon_table.specs.Edits.{edited, after}
use Rattle.mon_table.proofs.Identities.{same-is, other-turned}
use Rattle.mon_table.proofs.Keeping.{table-with}
use Rattle.mon_table.proofs.Listing.{all-has}
use Rattle.mon_table.proofs.Members.{after-members, members-after, after-table}
use Rattle.mon_table.proofs.Undoing.{none-there}
use Rattle.mon_shows.specs.Views.{Viewing}
use Rattle.mon_job.specs.Jobs.{ReplacesItsOwn, IsJob}
use Rattle.mon_legal.specs.Messages.{put_all}
use Rattle.mon_legal.specs.Edits.{Passed, table_of, passed}
use Rattle.mon_legal.specs.Datapaths.{catching}
use Rattle.mon_legal.specs.Targets.{target_of}
use Rattle.mon_session.specs.Standing.{Apart, is_vanishing, IsPlanned, AllPassedWell}
use Rattle.mon_session.specs.Offering.{UpdatesAreThere}
use Rattle.mon_session.proofs.Rejected.{table-is, some-there, finds, finds-none, rule-stays, waited-differ, both}

-- the rule that an edit leaves in its place
abbrev left_by : Edit → Option Rule
left_by (Put r old) = Some r
left_by (Cut r) = None

just-made : (t : List Rule) (x : Edit) → IsTable t → IsNormal (edited x).matching → rule_of (identity_of (edited x)) (after t x) ≡ left_by x
just-made t (Put r old) table n =
    finds (identity_of r) (after t (Put r old)) r (after-table t (Put r old) table n).order (members-after t (Put r old) r (inl refl)) refl
just-made t (Cut r) table n =
    finds-none (identity_of r) (after t (Cut r)) (λ s h. ⊎_elim (λ put. absurd put) (λ left. left.1) (after-members t (Cut r) s h))

abbrev Stays : List Rule → Passed → Type 0
Stays t p = p.settled ≡ false → rule_of (identity_of (edited p.edit)) t ≡ left_by p.edit

-- as long as an edit is unsettled, no later one is of its identity
all-stay : (start : List Rule) (ps : List Passed) → IsTable start → AllPassedWell start ps → AllByRecursion (Stays (table_of start ps)) ps
all-stay start [] table a = tt
all-stay start (p ∷ before) table a =
    let t : IsTable (table_of start before) = table-is start before table a.1 in (
      λ un. just-made (table_of start before) p.edit t a.0.normal,
      both (λ q. q.settled ≡ false → Apart (is_vanishing p) p.edit q.edit) (Stays (table_of start before)) (Stays (after (table_of start before) p.edit)) before
          (λ q w s un. rule-stays (table_of start before) p.edit (identity_of (edited q.edit)) (left_by q.edit) t a.0.normal
          (other-turned (identity_of (edited q.edit)) (identity_of (edited p.edit)) (waited-differ (is_vanishing p) p.edit q.edit (w un))) (s un))
          a.0.waited (all-stay start before table a.1),
    )

-- no edit is of the identity of a catching rule -----------------------------------

abbrev IsOther : List Rule → Passed → Type 0
IsOther t p = rule_of (identity_of (edited p.edit)) t ≡ None

-- what stands there of another identity than all edits stays
others-stay : (c start : List Rule) (i : Identity) (r : Rule) (o : Option Rule) (ps : List Passed) → IsTable start → AllPassedWell start ps
    → rule_of i c ≡ Some r → AllByRecursion (IsOther c) ps → rule_of i start ≡ o → rule_of i (table_of start ps) ≡ o
others-stay c start i r o [] table a is others e = e
others-stay c start i r o (p ∷ before) table a is others e =
    rule-stays (table_of start before) p.edit i o (table-is start before table a.1) a.0.normal
    (elim (same_identity (identity_of (edited p.edit)) i) as (λ b. same_identity (identity_of (edited p.edit)) i ≡ b → b ≡ false) [
      | true ↦ λ y. let same : identity_of (edited p.edit) ≡ i = same-is (identity_of (edited p.edit)) i y in
          let none : rule_of i c ≡ None = subst (λ (j : Identity). rule_of j c ≡ None) same others.0 in
          absurd (let f : ⊥ = cc in f)
      | false ↦ λ n. refl
    ] refl)
    (others-stay c start i r o before table a.1 is others.1 e)

other-at : (c : List Rule) (i : Identity) (o : Option Rule) (before : List Passed) → IsTable c → AllPassedWell [] before → AllPassedWell c before
    → AllByRecursion (IsOther c) before → rule_of i (table_of [] before) ≡ o → rule_of i (table_of c before) ≡ o → (x : Option Rule) → rule_of i c ≡ x → x ≡ None
other-at c i o before table a b others e f None is = refl
other-at c i o before table a b others e f (Some r) is =
    let none : rule_of i (table_of [] before) ≡ None = others-stay c [] i r None before (record { order = tt; normal = tt }) a is others refl in
    let some : rule_of i (table_of c before) ≡ Some r = others-stay c c i r (Some r) before table b is others is in
    absurd (let g : ⊥ = cc in g)

all-other : (c : List Rule) (ps : List Passed) → IsTable c → AllPassedWell [] ps → AllPassedWell c ps → AllByRecursion (IsOther c) ps
all-other c [] table a b = tt
all-other c (p ∷ before) table a b =
    let others : AllByRecursion (IsOther c) before = all-other c before table a.1 b.1 in
    let i : Identity = identity_of (edited p.edit) in
    (other-at c i p.stood before table a.1 b.1 others a.0.stands b.0.stands (rule_of i c) refl, others)

-- with the catching rules ---------------------------------------------------------

put-has : (rs t : List Rule) (r : Rule) → AllByRecursion (λ s. same_identity (identity_of s) (identity_of r) ≡ false) rs → Has t r → Has (put_all rs t) r
unfolding after
put-has [] t r a h = h
put-has (s ∷ rs) t r a h =
    put-has rs (with_rule s t) r a.1 (members-after t (Put s None) r (inr (h, other-turned (identity_of s) (identity_of r) a.0)))

put-none : (rs t : List Rule) (i : Identity) → AllByRecursion (λ s. same_identity (identity_of s) i ≡ false) rs → AllNormal rs → IsTable t → rule_of i t ≡ None
    → rule_of i (put_all rs t) ≡ None
unfolding after
put-none [] t i a n table e = e
put-none (s ∷ rs) t i a n table e =
    put-none rs (with_rule s t) i a.1 n.1 (table-with s t n.0 table) (rule-stays t (Put s None) i None table n.0 a.0 e)

none-alike : (c : List Rule) (i : Identity) → rule_of i c ≡ None → AllByRecursion (λ s. same_identity (identity_of s) i ≡ false) c
none-alike c i e = all-has (λ s. same_identity (identity_of s) i ≡ false) c (λ s h. none-there i c s e h)

own-of : (v : Viewing) (x : Edit) (stood : Option Rule) → IsPlanned x stood → ReplacesItsOwn (target_of v x)
own-of v (Put r None) stood p = tt
own-of v (Put r (Some old)) stood p = p.0
own-of v (Cut r) stood p = tt

job-at : (v : Viewing) (c t : List Rule) (x : Edit) (stood : Option Rule) → IsTable c → IsTable t → IsPlanned x stood
    → rule_of (identity_of (edited x)) c ≡ None → rule_of (identity_of (edited x)) t ≡ left_by x → IsJob (put_all c t) (target_of v x)
job-at v c t (Put r old) stood catches table p e f =
    record { own = own-of v (Put r old) stood p; there = put-has c t r (none-alike c (identity_of r) e) (some-there (identity_of r) t r f).0 }
job-at v c t (Cut r) stood catches table p e f =
    record { own = tt; there = put-none c t (identity_of r) (none-alike c (identity_of r) e) catches.normal table f }

all-planned : (start : List Rule) (ps : List Passed) → AllPassedWell start ps → AllByRecursion (λ p. IsPlanned p.edit p.stood) ps
all-planned start [] a = tt
all-planned start (p ∷ before) a = (a.0.planned, all-planned start before a.1)

of-open : (P : Passed → Type 0) (ps : List Passed) → AllByRecursion (λ p. p.settled ≡ false → P p) ps → AllByRecursion P (filter (λ p. not p.settled) ps)
of-open P [] a = tt
of-open P (p ∷ ps) a =
    elim (p.settled) as (λ b. p.settled ≡ b → AllByRecursion P (cond (not b) (p ∷ filter (λ q. not q.settled) ps) (filter (λ q. not q.settled) ps))) [
      | true ↦ λ y. of-open P ps a.1
      | false ↦ λ n. (a.0 n, of-open P ps a.1)
    ] refl

jobs-at : (v : Viewing) (c : List Rule) (ps : List Passed) → IsTable c → AllPassedWell [] ps → AllPassedWell c ps
    → AllByRecursion (λ p. IsJob (put_all c (table_of [] ps)) (target_of v p.edit)) (filter (λ p. not p.settled) ps)
jobs-at v c ps table a b =
    let empty : IsTable [] = record { order = tt; normal = tt } in
    let t : IsTable (table_of [] ps) = table-is [] ps empty a in
    of-open (λ p. IsJob (put_all c (table_of [] ps)) (target_of v p.edit)) ps
    (both (λ p. IsOther c p × Stays (table_of [] ps) p) (λ p. IsPlanned p.edit p.stood) (λ p. p.settled ≡ false → IsJob (put_all c (table_of [] ps)) (target_of v p.edit)) ps
    (λ p f g un. job-at v c (table_of [] ps) p.edit p.stood table t g f.0 (f.1 un))
    (both (IsOther c) (Stays (table_of [] ps)) (λ p. IsOther c p × Stays (table_of [] ps) p) ps (λ p f g. (f, g)) (all-other c ps table a b) (all-stay [] ps empty a))
    (all-planned [] ps a))

pub updates-are-there : UpdatesAreThere
updates-are-there run earlier own table a b v = jobs-at v (catching run own) (passed own) table a b
