-- A rejected edit is taken back in the one current table.
use Rattle.std.proofs.Common.{◌≡◌, ℕ, Bool, true, false, cond, not, ◌||◌, ◌&&◌, List, [], ◌∷◌, Option, Some, None, refl, sym, ap, subst, ◌∙◌, inl, inr, ⊎_elim, arith, eqb-true}
use Rattle.std.specs.Prelude.{◌==◌, filter, find, option_map, option_and_then}
use Rattle.std.specs.List.{AllByRecursion, list_any}
use Rattle.std.proofs.lemmas.Bool.{cases_Bool, false≢true, eq-eqb}
use Rattle.mon_list.specs.Has.{Has}
use Rattle.mon_header.specs.Matching.{Matching, IsNormal, each_field, overlaps, overlaps_field, overlaps_address}
use Rattle.mon_table.specs.declared.rule.Rule.{Rule}
use Rattle.mon_table.specs.declared.edit.Edit.{Edit}
use Rattle.mon_table.specs.declared.edit.Edit.TheVariants.{Put, Cut}
use Rattle.mon_table.specs.Rules.{Identity, identity_of, same_identity}
use Rattle.mon_table.specs.Tables.{InOrder, AllNormal, IsTable, rule_of, without}
use Rattle.mon_table.specs.Laws.{IsPut}
use Rattle.mon_table.specs.Edits.{edited, after}
use Rattle.mon_table.proofs.Identities.{same-self, same-is, other-turned}
use Rattle.mon_table.proofs.Members.{after-members, members-after, after-table, one-list, one-rule}
use Rattle.mon_table.proofs.Undoing.{undone-after}
use Rattle.mon_legal.specs.Messages.{is_error_for}
use Rattle.mon_legal.specs.Edits.{Passed, table_of, is_number, without_number, rejected_by}
use Rattle.mon_session.specs.Now.{reverse, taken_back, edit_numbered}
use Rattle.mon_session.specs.Standing.{Apart, is_vanishing, IsPassedWell, AllPassedWell, Rejecting}
use Rattle.mon_session.proofs.Tables.{rejected_open}

-- edits of two identities may come in either order ------------------------------

pub put-identity : (x : Edit) (r : Rule) → IsPut x r → identity_of r ≡ identity_of (edited x)
put-identity (Put s old) r e = ap identity_of e
put-identity (Cut s) r e = absurd e

abbrev Differ : Edit → Edit → Type 0
Differ x y = same_identity (identity_of (edited x)) (identity_of (edited y)) ≡ false

swaps : (t : List Rule) (x y : Edit) → Differ x y → (r : Rule) → Has (after (after t x) y) r → Has (after (after t y) x) r
swaps t x y d r h = ⊎_elim
    (λ put. members-after (after t y) x r (inr (
      members-after t y r (inl put),
      subst (λ (i : Identity). same_identity i (identity_of (edited x)) ≡ false) (sym (put-identity y r put)) (other-turned (identity_of (edited x)) (identity_of (edited y)) d),
    )))
    (λ left. ⊎_elim
    (λ put. members-after (after t y) x r (inl put))
    (λ old. members-after (after t y) x r (inr (members-after t y r (inr (old.0, left.1)), old.1)))
    (after-members t x r left.0))
    (after-members (after t x) y r h)

commute : (t : List Rule) (x y : Edit) → IsTable t → IsNormal (edited x).matching → IsNormal (edited y).matching → Differ x y
    → after (after t x) y ≡ after (after t y) x
commute t x y table m n d =
    let one = after-table (after t x) y (after-table t x table m) n in
    let other = after-table (after t y) x (after-table t y table n) m in
    one-list (after (after t x) y) (after (after t y) x) one.order other.order (swaps t x y d)
    (swaps t y x (other-turned (identity_of (edited x)) (identity_of (edited y)) d))

-- what takes an edit back is of its identity -----------------------------------

found-passes : (i : Identity) (t : List Rule) (r : Rule) → rule_of i t ≡ Some r → same_identity (identity_of r) i ≡ true
found-passes i [] r e = absurd (let g : None ≡ Some r = e in cc)
found-passes i (s ∷ t) r e =
    elim (same_identity (identity_of s) i) as (λ b. same_identity (identity_of s) i ≡ b → cond b (Some s) (rule_of i t) ≡ Some r → same_identity (identity_of r) i ≡ true) [
      | true ↦ λ y f. let same : s ≡ r = cc in ap (λ (x : Rule). same_identity (identity_of x) i) (sym same) ∙ y
      | false ↦ λ y f. found-passes i t r f
    ] refl e

reverse-identity : (t : List Rule) (x : Edit) (stood : Option Rule) → rule_of (identity_of (edited x)) t ≡ stood
    → identity_of (edited (reverse x stood)) ≡ identity_of (edited x)
reverse-identity t x None stands = refl
reverse-identity t x (Some o) stands = same-is (identity_of o) (identity_of (edited x)) (found-passes (identity_of (edited x)) t o stands)

-- what is known of an edit that was passed well
pub record IsGood (p : Passed) : Type 0 where
  pub normal : IsNormal (edited p.edit).matching
  pub back : identity_of (edited (reverse p.edit p.stood)) ≡ identity_of (edited p.edit)

pub good-back : (p : Passed) → IsGood p → IsNormal (edited (reverse p.edit p.stood)).matching
good-back p g = subst (λ (i : Identity). IsNormal i.matching) (sym g.back) g.normal

good-of : (start : List Rule) (p : Passed) (before : List Passed) → IsPassedWell start p before → IsGood p
good-of start p before w = record { normal = w.normal; back = reverse-identity (table_of start before) p.edit p.stood w.stands }

-- an edit taken back by what stood there leaves the table that it came to
none-with : (i : Identity) (t : List Rule) → rule_of i t ≡ None → (r : Rule) → Has t r → same_identity (identity_of r) i ≡ false
none-with i [] e r h = absurd h
none-with i (s ∷ t) e r h =
    elim (same_identity (identity_of s) i) as (λ b. same_identity (identity_of s) i ≡ b → cond b (Some s) (rule_of i t) ≡ None → same_identity (identity_of r) i ≡ false) [
      | true ↦ λ y f. absurd (let g : ⊥ = cc in g)
      | false ↦ λ y f. ⊎_elim (λ (same : r ≡ s). ap (λ (x : Rule). same_identity (identity_of x) i) same ∙ y) (λ k. none-with i t f r k) h
    ] refl e

cut-none : (t : List Rule) (r : Rule) → IsTable t → IsNormal r.matching → rule_of (identity_of r) t ≡ None → after t (Cut r) ≡ t
cut-none t r table n e =
    one-list (after t (Cut r)) t (after-table t (Cut r) table n).order table.order
    (λ s h. ⊎_elim (λ put. absurd put) (λ l. l.0) (after-members t (Cut r) s h))
    (λ s h. members-after t (Cut r) s (inr (h, none-with (identity_of r) t e s h)))

reversed : (t : List Rule) (x : Edit) (stood : Option Rule) → IsTable t → IsNormal (edited x).matching → rule_of (identity_of (edited x)) t ≡ stood
    → after (after t x) (reverse x stood) ≡ t
unfolding after
reversed t (Put r old) None table n e = undone-after t (Put r None) table n e
reversed t (Put r old) (Some o) table n e = undone-after t (Put r (Some o)) table n e
reversed t (Cut r) None table n e = ap (λ (u : List Rule). after u (Cut r)) (cut-none t r table n e) ∙ cut-none t r table n e
reversed t (Cut r) (Some o) table n e =
    let same : identity_of o ≡ identity_of r = same-is (identity_of o) (identity_of r) (found-passes (identity_of r) t o e) in
    let there : rule_of (identity_of o) t ≡ Some o = subst (λ (i : Identity). rule_of i t ≡ Some o) (sym same) e in
    let normal : IsNormal o.matching = subst (λ (i : Identity). IsNormal i.matching) (sym same) n in
    subst (λ (i : Identity). after (without i t) (Put o (Some r)) ≡ t) same (undone-after t (Cut o) table normal there)

pub all-good : (start : List Rule) (ps : List Passed) → AllPassedWell start ps → AllByRecursion IsGood ps
all-good start [] a = tt
all-good start (p ∷ ps) a = (good-of start p ps a.0, all-good start ps a.1)

pub table-is : (start : List Rule) (ps : List Passed) → IsTable start → AllPassedWell start ps → IsTable (table_of start ps)
table-is start [] t a = t
table-is start (p ∷ ps) t a = after-table (table_of start ps) p.edit (table-is start ps t a.1) a.0.normal

-- matches that are apart are of two identities --------------------------------

field-self : (w : Bool) (x : ℕ) → overlaps_field w w x x ≡ true
unfolding overlaps_field
field-self true x = refl
field-self false x = grind arith

address-self : (c x : ℕ) → overlaps_address c c x x ≡ true
unfolding overlaps_address
address-self c x = grind arith

overlaps-self : (m : Matching) → overlaps m m ≡ true
unfolding overlaps each_field
overlaps-self m =
    let a = field-self m.wild.in_port m.fields.in_port in
    let b = field-self m.wild.dl_src m.fields.dl_src in
    let c = field-self m.wild.dl_dst m.fields.dl_dst in
    let d = field-self m.wild.dl_vlan m.fields.dl_vlan in
    let e = field-self m.wild.dl_vlan_pcp m.fields.dl_vlan_pcp in
    let f = field-self m.wild.dl_type m.fields.dl_type in
    let g = field-self m.wild.nw_tos m.fields.nw_tos in
    let h = field-self m.wild.nw_proto m.fields.nw_proto in
    let i = address-self m.wild.nw_src m.fields.nw_src in
    let j = address-self m.wild.nw_dst m.fields.nw_dst in
    let k = field-self m.wild.tp_src m.fields.tp_src in
    let l = field-self m.wild.tp_dst m.fields.tp_dst in
    rw a (rw b (rw c (rw d (rw e (rw f (rw g (rw h (rw i (rw j (rw k (rw l refl)))))))))))

pub apart-differ : (x y : Edit) → overlaps (edited x).matching (edited y).matching ≡ false → Differ y x
apart-differ x y e =
    ⊎_elim
    (λ same. absurd (false≢true (sym e ∙ (ap (λ (i : Identity). overlaps (edited x).matching i.matching) (same-is (identity_of (edited y)) (identity_of (edited x)) same) ∙ overlaps-self (edited x).matching))))
    (λ other. other)
    (cases_Bool (same_identity (identity_of (edited y)) (identity_of (edited x))))

-- looking for another identity finds the same ------------------------------------

none-there : (i : Identity) (t : List Rule) (r : Rule) → rule_of i t ≡ None → Has t r → same_identity (identity_of r) i ≡ false
none-there i [] r e h = absurd h
none-there i (s ∷ t) r e h =
    elim (same_identity (identity_of s) i) as (λ b. same_identity (identity_of s) i ≡ b → cond b (Some s) (rule_of i t) ≡ None → same_identity (identity_of r) i ≡ false) [
      | true ↦ λ y f. absurd (let g : ⊥ = cc in g)
      | false ↦ λ y f. ⊎_elim (λ (same : r ≡ s). ap (λ (x : Rule). same_identity (identity_of x) i) same ∙ y) (λ k. none-there i t r f k) h
    ] refl e

pub some-there : (i : Identity) (t : List Rule) (r : Rule) → rule_of i t ≡ Some r → Has t r × (same_identity (identity_of r) i ≡ true)
some-there i [] r e = absurd (let g : ⊥ = cc in g)
some-there i (s ∷ t) r e =
    elim (same_identity (identity_of s) i) as (λ b. same_identity (identity_of s) i ≡ b → cond b (Some s) (rule_of i t) ≡ Some r → Has (s ∷ t) r × (same_identity (identity_of r) i ≡ true)) [
      | true ↦ λ y f. let same : s ≡ r = cc in (inl (sym same), ap (λ (x : Rule). same_identity (identity_of x) i) (sym same) ∙ y)
      | false ↦ λ y f. let g = some-there i t r f in (inr g.0, g.1)
    ] refl e

pub finds : (i : Identity) (t : List Rule) (r : Rule) → InOrder t → Has t r → i ≡ identity_of r → rule_of i t ≡ Some r
finds i [] r o h e = absurd h
finds i (s ∷ t) r o h e =
    elim (same_identity (identity_of s) i) as (λ b. same_identity (identity_of s) i ≡ b → cond b (Some s) (rule_of i t) ≡ Some r) [
      | true ↦ λ y. ap Some (one-rule (s ∷ t) s r o (inl refl) h (subst (λ (j : Identity). same_identity (identity_of s) j ≡ true) e y))
      | false ↦ λ n. ⊎_elim
          (λ (same : r ≡ s). absurd (false≢true (sym n ∙ (ap (same_identity (identity_of s)) (e ∙ ap identity_of same) ∙ same-self (identity_of s)))))
          (λ k. finds i t r o.1 k e)
          h
    ] refl

pub finds-none : (i : Identity) (t : List Rule) → ((r : Rule) → Has t r → same_identity (identity_of r) i ≡ false) → rule_of i t ≡ None
finds-none i [] f = refl
finds-none i (s ∷ t) f =
    elim (same_identity (identity_of s) i) as (λ b. same_identity (identity_of s) i ≡ b → cond b (Some s) (rule_of i t) ≡ None) [
      | true ↦ λ y. absurd (false≢true (sym (f s (inl refl)) ∙ y))
      | false ↦ λ n. finds-none i t (λ r k. f r (inr k))
    ] refl

pub rule-stays : (t : List Rule) (y : Edit) (i : Identity) (o : Option Rule) → IsTable t → IsNormal (edited y).matching
    → same_identity (identity_of (edited y)) i ≡ false → rule_of i t ≡ o → rule_of i (after t y) ≡ o
rule-stays t y i None table n d e =
    finds-none i (after t y) (λ r h. ⊎_elim
    (λ put. subst (λ (j : Identity). same_identity j i ≡ false) (sym (put-identity y r put)) d)
    (λ left. none-there i t r e left.0)
    (after-members t y r h))
rule-stays t y i (Some r) table n d e =
    let f = some-there i t r e in
    let same : identity_of r ≡ i = same-is (identity_of r) i f.1 in
    let other : same_identity (identity_of r) (identity_of (edited y)) ≡ false =
    subst (λ (j : Identity). same_identity j (identity_of (edited y)) ≡ false) (sym same) (other-turned (identity_of (edited y)) i d) in
    finds i (after t y) r (after-table t y table n).order (members-after t y r (inr (f.0, other))) (sym same)

pub all-normal : (t : List Rule) (r : Rule) → AllNormal t → Has t r → IsNormal r.matching
all-normal [] r n h = absurd h
all-normal (s ∷ t) r n h = ⊎_elim (λ (same : r ≡ s). subst (λ (x : Rule). IsNormal x.matching) (sym same) n.0) (λ k. all-normal t r n.1 k) h

-- the rejection ---------------------------------------------------------------

-- the identity of an edit differs from that of one for which it waited
pub waited-differ : (b : Bool) (x y : Edit) → Apart b x y → Differ y x
waited-differ true x y d = d
waited-differ false x y e = apart-differ x y e

-- an unsettled edit of this number is there
abbrev pub has_open : ℕ → List Passed → Bool
has_open k ps = list_any (λ p. not p.settled && is_number k p) ps

-- the edit of a number is one of which all that is known of unsettled edits holds
pub known-of : (G : Passed → Type 0) (k : ℕ) (ps : List Passed) (x : Passed)
    → AllByRecursion (λ q. q.settled ≡ false → G q) ps → edit_numbered k (filter (λ p. not p.settled) ps) ≡ Some x → G x
known-of G k [] x a e = absurd (let g : None ≡ Some x = e in cc)
known-of G k (p ∷ ps) x a e =
    elim p.settled as (λ b. p.settled ≡ b → edit_numbered k (cond (not b) (p ∷ filter (λ q. not q.settled) ps) (filter (λ q. not q.settled) ps)) ≡ Some x → G x) [
      | true ↦ λ y f. known-of G k ps x a.1 f
      | false ↦ λ y f.
          elim (is_number k p) as (λ c. cond c (Some p) (edit_numbered k (filter (λ q. not q.settled) ps)) ≡ Some x → G x) [
            | true ↦ λ g. let same : p ≡ x = cc in subst G same (a.0 y)
            | false ↦ λ g. known-of G k ps x a.1 g
          ] f
    ] refl e

-- facts on all edits of a list, joined
pub both : (P Q R : Passed → Type 0) (ps : List Passed) → ((p : Passed) → P p → Q p → R p) → AllByRecursion P ps → AllByRecursion Q ps → AllByRecursion R ps
both P Q R [] f a b = tt
both P Q R (p ∷ ps) f a b = (f p a.0 b.0, both P Q R ps f a.1 b.1)

-- an edit of another number stays
pub none-numbered : (k : ℕ) (ps : List Passed) → AllByRecursion (λ q. (q.number == k) ≡ false) ps → filter (λ q. not (is_number k q)) ps ≡ ps
none-numbered k [] a = refl
none-numbered k (p ∷ ps) a =
    elim (is_number k p) as (λ b. is_number k p ≡ b → cond (not b) (p ∷ filter (λ q. not (is_number k q)) ps) (filter (λ q. not (is_number k q)) ps) ≡ p ∷ ps) [
      | true ↦ λ y. absurd (false≢true (sym a.0 ∙ y))
      | false ↦ λ n. ap (λ (qs : List Passed). p ∷ qs) (none-numbered k ps a.1)
    ] refl

pub none-open : (k : ℕ) (ps : List Passed) → AllByRecursion (λ q. (q.number == k) ≡ false) ps → has_open k ps ≡ false
none-open k [] a = refl
none-open k (p ∷ ps) a = grind (arith, none-open k ps a.1, a.0)

-- an edit comes behind another one that is taken back: as it did before it
taken-behind : (t : List Rule) (y : Edit) (e : Option Passed) → IsTable t → IsNormal (edited y).matching
    → ((x : Passed) → e ≡ Some x → IsGood x × Differ x.edit y)
    → after (taken_back e t) y ≡ taken_back e (after t y)
taken-behind t y None table n g = refl
taken-behind t y (Some x) table n g =
    let known = g x refl in
    commute t (reverse x.edit x.stood) y table (good-back x known.0) n
    (subst (λ (i : Identity). same_identity i (identity_of (edited y)) ≡ false) (sym known.0.back) known.1)

-- the step at the rejected edit, and at one that came behind it
take-own : (start : List Rule) (k : ℕ) (p : Passed) (ps : List Passed) → is_number k p ≡ true → p.settled ≡ false
    → filter (λ q. not (is_number k q)) ps ≡ ps → after (after (table_of start ps) p.edit) (reverse p.edit p.stood) ≡ table_of start ps
    → table_of start (filter (λ q. not (is_number k q)) ps) ≡ taken_back (edit_numbered k (filter (λ q. not q.settled) (p ∷ ps))) (table_of start (p ∷ ps))
take-own start k p ps y unsettled kept back = rw kept (rw unsettled (rw y (sym back)))

pub skip-open : (k : ℕ) (p : Passed) (ps : List Passed) → is_number k p ≡ false
    → edit_numbered k (filter (λ q. not q.settled) (p ∷ ps)) ≡ edit_numbered k (filter (λ q. not q.settled) ps)
skip-open k p ps n =
    elim p.settled as (λ b. edit_numbered k (cond (not b) (p ∷ filter (λ q. not q.settled) ps) (filter (λ q. not q.settled) ps)) ≡ edit_numbered k (filter (λ q. not q.settled) ps)) [
      | true ↦ refl
      | false ↦ rw n refl
    ]

take-other : (start : List Rule) (k : ℕ) (p : Passed) (ps : List Passed) → is_number k p ≡ false
    → table_of start (filter (λ q. not (is_number k q)) ps) ≡ taken_back (edit_numbered k (filter (λ q. not q.settled) ps)) (table_of start ps)
    → after (taken_back (edit_numbered k (filter (λ q. not q.settled) ps)) (table_of start ps)) p.edit
    ≡ taken_back (edit_numbered k (filter (λ q. not q.settled) ps)) (after (table_of start ps) p.edit)
    → table_of start (p ∷ filter (λ q. not (is_number k q)) ps) ≡ taken_back (edit_numbered k (filter (λ q. not q.settled) (p ∷ ps))) (table_of start (p ∷ ps))
take-other start k p ps n before behind =
    let one = ap (λ (t : List Rule). after t p.edit) before in
    let skipped = skip-open k p ps n in
    (one ∙ behind) ∙ ap (λ (e : Option Passed). taken_back e (after (table_of start ps) p.edit)) (sym skipped)

-- an unsettled edit has a number
numbered-one : (a b c : Bool) (m k : ℕ) → (m == k) ≡ b → (a ≡ false → (m == 0) ≡ false) → (c ≡ true → (k == 0) ≡ false) → (not a && b || c) ≡ true → (k == 0) ≡ false
numbered-one true b c m k y f g e = g e
numbered-one false true c m k y f g e = subst (λ (n : ℕ). (n == 0) ≡ false) (eqb-true m k y) (f refl)
numbered-one false false c m k y f g e = g e

pub open-counted : (start : List Rule) (k : ℕ) (ps : List Passed) → AllPassedWell start ps → has_open k ps ≡ true → (k == 0) ≡ false
open-counted start k [] a h = absurd (false≢true h)
open-counted start k (p ∷ ps) a h = numbered-one p.settled (is_number k p) (has_open k ps) p.number k refl a.0.counted (open-counted start k ps a.1) h

pub own-numbers : (start : List Rule) (k : ℕ) (p : Passed) (ps : List Passed) → AllPassedWell start (p ∷ ps) → is_number k p ≡ true → has_open k (p ∷ ps) ≡ true
    → AllByRecursion (λ q. (q.number == k) ≡ false) ps
own-numbers start k p ps a y h =
    let same : p.number ≡ k = eqb-true p.number k y in
    let counted : (p.number == 0) ≡ false = subst (λ (n : ℕ). (n == 0) ≡ false) (sym same) (open-counted start k (p ∷ ps) a h) in
    subst (λ (n : ℕ). AllByRecursion (λ q. (q.number == n) ≡ false) ps) same (a.0.numbered counted)

pub take-back : (start : List Rule) (k : ℕ) (ps : List Passed) → IsTable start → AllPassedWell start ps → has_open k ps ≡ true
    → table_of start (filter (λ q. not (is_number k q)) ps) ≡ taken_back (edit_numbered k (filter (λ q. not q.settled) ps)) (table_of start ps)
take-back start k [] t a h = absurd (false≢true h)
take-back start k (p ∷ ps) t a h =
    elim (is_number k p) as (λ b. is_number k p ≡ b → (not p.settled && b || has_open k ps) ≡ true
    → table_of start (cond (not b) (p ∷ filter (λ q. not (is_number k q)) ps) (filter (λ q. not (is_number k q)) ps))
    ≡ taken_back (edit_numbered k (filter (λ q. not q.settled) (p ∷ ps))) (table_of start (p ∷ ps))) [
      | true ↦ λ y f.
          let others : AllByRecursion (λ q. (q.number == k) ≡ false) ps = own-numbers start k p ps a y h in
          let gone = none-open k ps others in
          let unsettled : p.settled ≡ false = grind (arith, f, gone) in
          let kept = none-numbered k ps others in
          let back = reversed (table_of start ps) p.edit p.stood (table-is start ps t a.1) a.0.normal a.0.stands in
          take-own start k p ps y unsettled kept back
      | false ↦ λ n f.
          let there : has_open k ps ≡ true = grind (arith, f) in
          let before = take-back start k ps t a.1 there in
          let waits = both (λ q. q.settled ≡ false → Apart (is_vanishing p) p.edit q.edit) IsGood
          (λ q. q.settled ≡ false → IsGood q × Differ q.edit p.edit) ps
          (λ q w g s. (g, waited-differ (is_vanishing p) p.edit q.edit (w s))) a.0.waited (all-good start ps a.1) in
          take-other start k p ps n before
          (taken-behind (table_of start ps) p.edit (edit_numbered k (filter (λ q. not q.settled) ps)) (table-is start ps t a.1) a.0.normal
          (λ x e. known-of (λ y. IsGood y × Differ y.edit p.edit) k ps x waits e))
    ] refl h

pub later-there : (a b c : Bool) → b ≡ false → (a && b || c) ≡ true → c ≡ true
later-there true true c e f = absurd (false≢true (sym e))
later-there true false c e f = f
later-there false b c e f = f

first-open : (a b c d : Bool) → (a && b) ≡ true → c ≡ true → (a && c || d) ≡ true
first-open true b true d e f = refl
first-open true b false d e f = absurd (false≢true f)
first-open false b c d e f = absurd (false≢true e)

later-open : (a d : Bool) → d ≡ true → (a || d) ≡ true
later-open true d e = refl
later-open false d e = e

-- a number that an ERROR rejects is that of an unsettled edit
pub rejected-open : (frame : List ℕ) (ps : List Passed) (k : ℕ) → rejected_by frame ps ≡ Some k → has_open k ps ≡ true
rejected-open frame [] k e = absurd (let g : None ≡ Some k = e in cc)
rejected-open frame (p ∷ ps) k e =
    elim (not p.settled && is_error_for frame p.frame) as (λ b. (not p.settled && is_error_for frame p.frame) ≡ b
    → option_map (λ q. q.number) (cond b (Some p) (find (λ q. not q.settled && is_error_for frame q.frame) ps)) ≡ Some k → has_open k (p ∷ ps) ≡ true) [
      | true ↦ λ y f.
          let same : p.number ≡ k = cc in
          let numbered : (p.number == k) ≡ true = eq-eqb p.number k same in
          first-open (not p.settled) (is_error_for frame p.frame) (p.number == k) (has_open k ps) y numbered
      | false ↦ λ n f. later-open (not p.settled && is_number k p) (has_open k ps) (rejected-open frame ps k f)
    ] refl e

by-number : (start : List Rule) (frame : List ℕ) (ps : List Passed) (o : Option ℕ) → rejected_by frame ps ≡ o → IsTable start → AllPassedWell start ps
    → table_of start (without_number o ps) ≡ taken_back (option_and_then (λ k. edit_numbered k (filter (λ p. not p.settled) ps)) o) (table_of start ps)
by-number start frame ps None e t a = refl
by-number start frame ps (Some k) e t a = take-back start k ps t a (rejected-open frame ps k e)

pub rejecting : Rejecting
rejecting start frame ps t a =
    let same = rejected_open frame ps in
    subst (λ (o : Option ℕ). table_of start (without_number (rejected_by frame ps) ps) ≡ taken_back (option_and_then (λ k. edit_numbered k (filter (λ p. not p.settled) ps)) o) (table_of start ps))
    same (by-number start frame ps (rejected_by frame ps) refl t a)
