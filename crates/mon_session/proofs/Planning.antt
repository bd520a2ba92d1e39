-- The edits of a planned frame stay what they were planned as.
use Rattle.std.proofs.Common.{◌≡◌, ℕ, Bool, true, false, cond, List, [], ◌∷◌, map, Option, Some, None, refl, sym, ap, subst, inl, inr, ⊎_elim}
use Rattle.std.specs.Prelude.{filter, Result, Ok, Err}
use Rattle.std.specs.List.{AllByRecursion}
use Rattle.std.specs.Option.{option_to_list}
use Rattle.std.proofs.lemmas.Bool.{cases_Bool, false≢true}
use Rattle.mon_list.specs.Has.{Has}
use Rattle.mon_header.specs.Matching.{IsNormal}
use Rattle.mon_table.specs.declared.rule.Rule.{Rule}
use Rattle.mon_table.specs.declared.edit.Edit.{Edit}
use Rattle.mon_table.specs.declared.edit.Edit.TheVariants.{Put, Cut}
use Rattle.mon_table.specs.Rules.{Identity, identity_of, same_identity}
use Rattle.mon_table.specs.Tables.{IsTable, rule_of, is_named}
use Rattle.mon_table.specs.Edits.{edited, after}
use Rattle.mon_table.proofs.Identities.{same-is}
use Rattle.mon_table.proofs.Members.{after-members, has-filter}
use Rattle.of_msgs.specs.declared.command.Command.{Command}
use Rattle.of_msgs.specs.declared.command.Command.TheVariants.{Add, Modify, ModifyStrict, Delete, DeleteStrict}
use Rattle.of_msgs.specs.declared.flow_mod.FlowMod.{FlowMod}
use Rattle.of_msgs.specs.declared.fault.ModFault.{ModFault}
use Rattle.of_msgs.specs.declared.fault.ModFault.TheVariants as faults
use Rattle.of_msgs.specs.ReadMods.{flow_mod_in}
use Rattle.mon_edits.specs.declared.refusal.ModRefusal.{ModRefusal}
use Rattle.mon_edits.specs.Naming.{named, named_by, is_emergency}
use Rattle.mon_edits.specs.Edits.{rule_in, changed, or_added, taken, is_taken, edits_by, edits_of}
use Rattle.mon_edits.specs.Refusals.{refusal}
use Rattle.mon_edits.specs.Laws.{AllRight}
use Rattle.mon_legal.specs.Messages.{is_flow_mod}
use Rattle.mon_legal.specs.Edits.{cuts}
use Rattle.mon_legal.specs.Held.{Part, fate_of_mod, refused_as, all_changed, unless_refused}
use Rattle.mon_legal.specs.Held.Part.{Whole, Refused, Changed}
use Rattle.mon_session.specs.Standing.{IsPlanned}
use Rattle.mon_session.specs.Planning.{PartIsPlanned, AllPlanned, DiffersFrom, PlannedAtFirst, PlannedBehind, PlannedWithout}
use Rattle.mon_session.proofs.Rejected.{rule-stays, some-there, finds, finds-none, all-normal}

-- at planning -----------------------------------------------------------------------

has-found : (i : Identity) (t : List Rule) (r : Rule) → Has (option_to_list (rule_of i t)) r → Has t r
has-found i [] r h = h
has-found i (s ∷ t) r h =
    elim (same_identity (identity_of s) i) as (λ b. Has (option_to_list (cond b (Some s) (rule_of i t))) r → Has (s ∷ t) r) [
      | true ↦ λ k. ⊎_elim (λ (e : r ≡ s). inl e) (λ n. absurd n) k
      | false ↦ λ k. inr (has-found i t r k)
    ] h

has-named : (c : Command) (t : List Rule) (m : FlowMod) (r : Rule) → Has (named_by c t m) r → Has t r
has-named Add t m r h = has-found _ t r h
has-named Modify t m r h = (has-filter (is_named m.matching) t r h).0
has-named ModifyStrict t m r h = has-found _ t r h
has-named Delete t m r h = (has-filter (is_named m.matching) t r h).0
has-named DeleteStrict t m r h = has-found _ t r h

abbrev Is : List Rule → Edit → Type 0
Is t x = IsPlanned x (rule_of (identity_of (edited x)) t)

put-planned : (t : List Rule) (r : Rule) (o : Option Rule) → rule_of (identity_of r) t ≡ o → Is t (Put r o)
put-planned t r None e = e
put-planned t r (Some old) e = (same-is (identity_of old) (identity_of r) (some-there (identity_of r) t old e).1, inl e)

changes-planned : (m : FlowMod) (t rs : List Rule) → IsTable t → ((s : Rule) → Has rs s → Has t s) → AllByRecursion (Is t) (map (changed m) rs)
changes-planned m t [] table f = tt
changes-planned m t (r ∷ rs) table f =
    ((refl, inl (finds (identity_of r) t r table.order (f r (inl refl)) refl)), changes-planned m t rs table (λ s i. f s (inr i)))

cuts-planned : (m : FlowMod) (t rs : List Rule) → IsTable t → ((s : Rule) → Has rs s → Has t s) → AllByRecursion (Is t) (map taken rs)
cuts-planned m t [] table f = tt
cuts-planned m t (r ∷ rs) table f = (inl (finds (identity_of r) t r table.order (f r (inl refl)) refl), cuts-planned m t rs table (λ s i. f s (inr i)))

modifies-planned : (m : FlowMod) (t rs : List Rule) → IsTable t → ((s : Rule) → Has rs s → Has t s) → AllRight t (or_added m (map (changed m) rs))
    → AllByRecursion (Is t) (or_added m (map (changed m) rs))
modifies-planned m t [] table f right = (right.0, tt)
modifies-planned m t (r ∷ rs) table f right = changes-planned m t (r ∷ rs) table f

edits-planned : (c : Command) (m : FlowMod) (t : List Rule) → IsTable t → AllRight t (edits_by c t m) → AllByRecursion (Is t) (edits_by c t m)
edits-planned Add m t table right =
    let old = rule_of (identity_of (rule_in m)) t in (put-planned t (rule_in m) old refl, tt)
edits-planned Modify m t table right = modifies-planned m t (named t m) table (λ s i. has-named m.command t m s i) right
edits-planned ModifyStrict m t table right = modifies-planned m t (named t m) table (λ s i. has-named m.command t m s i) right
edits-planned Delete m t table right =
    cuts-planned m t (filter (is_taken m) (named t m)) table (λ s i. has-named m.command t m s (has-filter (is_taken m) (named t m) s i).0)
edits-planned DeleteStrict m t table right =
    cuts-planned m t (filter (is_taken m) (named t m)) table (λ s i. has-named m.command t m s (has-filter (is_taken m) (named t m) s i).0)

parts-planned : (t : List Rule) (came : List ℕ) (m : FlowMod) (first : Bool) (xs : List Edit) → AllByRecursion (Is t) xs → AllPlanned t (all_changed came m first xs)
parts-planned t came m first [] a = tt
parts-planned t came m first (x ∷ xs) a = (a.0, parts-planned t came m false xs a.1)

refused-planned : (t : List Rule) (frame : List ℕ) (fault : ModFault) → AllPlanned t (refused_as frame fault)
refused-planned t frame faults.ModLength = (tt, tt)
refused-planned t frame faults.ModCommand = (tt, tt)
refused-planned t frame (faults.ActionLength place) = (tt, tt)
refused-planned t frame faults.OutOfMemory = tt

unless-planned : (t : List Rule) (frame : List ℕ) (refused : Option ModRefusal) (m : FlowMod) (xs : List Edit) → AllByRecursion (Is t) xs → AllPlanned t (unless_refused frame refused m xs)
unless-planned t frame (Some refused) m xs a = (tt, tt)
unless-planned t frame None m xs a = parts-planned t frame m true xs a

mod-planned : (catching t : List Rule) (n : ℕ) (frame : List ℕ) (r : Result FlowMod ModFault) → IsTable t → ((m : FlowMod) → r ≡ Ok m → AllRight t (edits_of t m))
    → AllPlanned t (fate_of_mod t catching n frame r)
mod-planned catching t n frame (Err fault) table f = refused-planned t frame fault
mod-planned catching t n frame (Ok m) table f =
    elim (is_emergency m) as (λ b. AllPlanned t (cond b (Whole frame ∷ []) (unless_refused frame (refusal t catching n m) m (edits_of t m)))) [
      | true ↦ (tt, tt)
      | false ↦ unless-planned t frame (refusal t catching n m) m (edits_of t m) (edits-planned m.command m t table (f m refl))
    ]

pub planned-at-first : PlannedAtFirst
planned-at-first catching t edits frame table f =
    elim (is_flow_mod frame) as (λ b. AllPlanned t (cond b (fate_of_mod t catching (cuts edits) frame (flow_mod_in frame)) (Whole frame ∷ []))) [
      | true ↦ mod-planned catching t (cuts edits) frame (flow_mod_in frame) table f
      | false ↦ (tt, tt)
    ]

-- behind another edit --------------------------------------------------------------

part-behind : (t : List Rule) (y : Edit) (p : Part) → IsTable t → IsNormal (edited y).matching → DiffersFrom y p → PartIsPlanned t p → PartIsPlanned (after t y) p
part-behind t y (Whole frame) table n d a = tt
part-behind t y (Refused error) table n d a = tt
part-behind t y (Changed came m x first) table n d a =
    subst (IsPlanned x) (sym (rule-stays t y (identity_of (edited x)) (rule_of (identity_of (edited x)) t) table n d refl)) a

pub planned-behind : PlannedBehind
planned-behind t y [] table n d a = tt
planned-behind t y (p ∷ ps) table n d a = (part-behind t y p table n d.0 a.0, planned-behind t y ps table n d.1 a.1)

-- an entry vanishes -----------------------------------------------------------------

abbrev is_there : Option Rule → Bool
is_there None = false
is_there (Some r) = true

abbrev one_of : Rule → Option Rule → Rule
one_of d None = d
one_of d (Some r) = r

gone-planned : (x : Edit) (r : Rule) → r.unsure ≡ true → IsPlanned x (Some r) → IsPlanned x None
gone-planned (Put s None) r u p = absurd (false≢true (sym (ap is_there p)))
gone-planned (Put s (Some old)) r u p = (
  p.0,
  ⊎_elim
      (λ e. inr (refl, subst (λ (z : Rule). z.unsure ≡ true) (ap (one_of r) e) u))
      (λ g. absurd (false≢true (sym (ap is_there g.0))))
      p.1,
)
gone-planned (Cut s) r u p = ⊎_elim
    (λ e. inr (refl, subst (λ (z : Rule). z.unsure ≡ true) (ap (one_of r) e) u))
    (λ g. absurd (false≢true (sym (ap is_there g.0))))
    p

cut-finds : (t : List Rule) (r : Rule) → rule_of (identity_of r) (after t (Cut r)) ≡ None
cut-finds t r = finds-none (identity_of r) (after t (Cut r)) (λ s h. ⊎_elim (λ put. absurd put) (λ left. left.1) (after-members t (Cut r) s h))

part-without : (t : List Rule) (r : Rule) (p : Part) → IsTable t → rule_of (identity_of r) t ≡ Some r → r.unsure ≡ true → PartIsPlanned t p → PartIsPlanned (after t (Cut r)) p
part-without t r (Whole frame) table e u a = tt
part-without t r (Refused error) table e u a = tt
part-without t r (Changed came m x first) table e u a = ⊎_elim
    (λ same.
    let i : identity_of r ≡ identity_of (edited x) = same-is (identity_of r) (identity_of (edited x)) same in
    let was : IsPlanned x (Some r) = subst (IsPlanned x) (subst (λ (j : Identity). rule_of j t ≡ Some r) i e) a in
    subst (IsPlanned x) (sym (subst (λ (j : Identity). rule_of j (after t (Cut r)) ≡ None) i (cut-finds t r))) (gone-planned x r u was))
    (λ d. part-behind t (Cut r) (Changed came m x first) table (all-normal t r table.normal (some-there (identity_of r) t r e).0) d a)
    (cases_Bool (same_identity (identity_of r) (identity_of (edited x))))

pub planned-without : PlannedWithout
planned-without t r [] table e u a = tt
planned-without t r (p ∷ ps) table e u a = (part-without t r p table e u a.0, planned-without t r ps table e u a.1)
