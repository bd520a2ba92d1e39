-- Each edit of a message says rightly what stands in its place.
use Rattle.std.proofs.Common.{◌≡◌, true, false, cond, List, [], ◌∷◌, map, Option, Some, None, refl, sym, ap, subst, ◌∙◌, inl, inr, ⊎_elim}
use Rattle.std.specs.List.{filter, AllByRecursion}
use Rattle.std.specs.Option.{option_to_list}
use Rattle.std.proofs.lemmas.Bool.{false≢true}
use Rattle.mon_list.specs.Has.{Has}
use Rattle.mon_header.specs.Matching.{Matching, IsNormal, covers}
use Rattle.mon_header.proofs.Covering.{cover-law}
use Rattle.mon_table.specs.declared.rule.Rule.{Rule}
use Rattle.mon_table.specs.declared.edit.Edit.{Edit}
use Rattle.mon_table.specs.declared.edit.Edit.TheVariants.{Cut}
use Rattle.mon_table.specs.Rules.{Identity, identity_of, same_identity, comes_before}
use Rattle.mon_table.specs.Tables.{InOrder, IsTable, rule_of, is_named}
use Rattle.mon_table.specs.Edits.{after, edited}
use Rattle.mon_table.proofs.Identities.{same-is, same-self, before-other, other-turned}
use Rattle.mon_table.proofs.Keeping.{order-filter}
use Rattle.mon_table.proofs.Listing.{has-all}
use Rattle.mon_table.proofs.Members.{has-filter, filter-has, members-after, after-table, one-rule}
use Rattle.of_msgs.specs.declared.command.Command.{Command}
use Rattle.of_msgs.specs.declared.command.Command.TheVariants.{Add, Modify, ModifyStrict, Delete, DeleteStrict}
use Rattle.of_msgs.specs.declared.flow_mod.FlowMod.{FlowMod}
use Rattle.mon_edits.specs.Naming.{identity_in, named_by, named}
use Rattle.mon_edits.specs.Edits.{changed, or_added, is_taken, taken, edits_by, edits_of}
use Rattle.mon_edits.specs.Laws.{AllRight}
use Rattle.mon_edits.proofs.Members.{has-named}
use Rattle.mon_edits.proofs.Changing.{named-in-order}

-- looking for the identity of a rule of the table finds the rule
finds : (i : Identity) (t : List Rule) (r : Rule) → InOrder t → Has t r → i ≡ identity_of r → rule_of i t ≡ Some r
finds i [] r o h e = absurd h
finds i (s ∷ t) r o h e =
    elim (same_identity (identity_of s) i) as (λ b. same_identity (identity_of s) i ≡ b → cond b (Some s) (rule_of i t) ≡ Some r) [
      | true ↦ λ y. ap Some (one-rule (s ∷ t) s r o (inl refl) h (subst (λ (j : Identity). same_identity (identity_of s) j ≡ true) e y))
      | false ↦ λ n. ⊎_elim
          (λ (same : r ≡ s). absurd (false≢true (sym n ∙ (ap (same_identity (identity_of s)) (e ∙ ap identity_of same) ∙ same-self (identity_of s)))))
          (λ k. finds i t r o.1 k e)
          h
    ] refl

-- where no rule is of the identity, looking for it finds none
finds-none : (i : Identity) (t : List Rule) → ((r : Rule) → Has t r → same_identity (identity_of r) i ≡ true → ⊥) → rule_of i t ≡ None
finds-none i [] f = refl
finds-none i (s ∷ t) f =
    elim (same_identity (identity_of s) i) as (λ b. same_identity (identity_of s) i ≡ b → cond b (Some s) (rule_of i t) ≡ None) [
      | true ↦ λ y. absurd (f s (inl refl) y)
      | false ↦ λ n. finds-none i t (λ r k e. f r (inr k) e)
    ] refl

-- what stands before a list is of another identity than its rules
before-rest : (x s : Rule) (rs : List Rule) → AllByRecursion (λ y. comes_before (identity_of x) (identity_of y) ≡ true) rs → Has rs s → same_identity (identity_of s) (identity_of x) ≡ false
before-rest x s rs a i = other-turned (identity_of x) (identity_of s) (before-other (identity_of x) (identity_of s) (has-all (λ y. comes_before (identity_of x) (identity_of y) ≡ true) rs s a i))

-- an edit of one rule leaves those behind it
left : (rs t : List Rule) (x : Rule) (e : Edit) → identity_of (edited e) ≡ identity_of x → AllByRecursion (λ y. comes_before (identity_of x) (identity_of y) ≡ true) rs
    → ((s : Rule) → Has rs s → Has t s) → (s : Rule) → Has rs s → Has (after t e) s
left rs t x e same a inside s i =
    members-after t e s (inr (inside s i, subst (λ (j : Identity). same_identity (identity_of s) j ≡ false) (sym same) (before-rest x s rs a i)))

cuts-right : (rs t : List Rule) → IsTable t → InOrder rs → ((s : Rule) → Has rs s → Has t s) → AllRight t (map taken rs)
cuts-right [] t table o inside = tt
cuts-right (x ∷ rs) t table o inside =
    let here = inside x (inl refl) in (
      finds (identity_of x) t x table.order here refl,
      cuts-right rs (after t (Cut x)) (after-table t (Cut x) table (has-all (λ r. IsNormal r.matching) t x table.normal here)) o.1
          (left rs t x (Cut x) refl o.0 (λ s i. inside s (inr i))),
    )

puts-right : (m : FlowMod) (rs t : List Rule) → IsTable t → InOrder rs → ((s : Rule) → Has rs s → Has t s) → AllRight t (map (changed m) rs)
puts-right m [] t table o inside = tt
puts-right m (x ∷ rs) t table o inside =
    let here = inside x (inl refl) in (
      finds (identity_of x) t x table.order here refl,
      puts-right m rs (after t (changed m x)) (after-table t (changed m x) table (has-all (λ r. IsNormal r.matching) t x table.normal here)) o.1
          (left rs t x (changed m x) refl o.0 (λ s i. inside s (inr i))),
    )

-- a modification that names nothing finds nothing of its identity
covers-self : (m : Matching) → IsNormal m → covers m m ≡ true
covers-self m n = (cover-law m m n n).1 (λ h range y. y)

none-at : (o : Option Rule) → option_to_list o ≡ [] → o ≡ None
none-at None e = refl
none-at (Some r) e = absurd (let g : ⊥ = cc in g)

none-covered : (t : List Rule) (m : FlowMod) → IsNormal m.matching → filter (is_named m.matching) t ≡ [] → rule_of (identity_in m) t ≡ None
none-covered t m n e =
    finds-none (identity_in m) t (λ r h same.
    let match : r.matching ≡ m.matching = ap (λ (i : Identity). i.matching) (same-is (identity_of r) (identity_in m) same) in
    let covered : covers m.matching r.matching ≡ true = subst (λ (x : Matching). covers m.matching x ≡ true) (sym match) (covers-self m.matching n) in
    subst (λ (rs : List Rule). Has rs r) e (filter-has (is_named m.matching) t r h covered))

put-right : (m : FlowMod) (rs t : List Rule) → AllRight t (map (changed m) rs) → (rs ≡ [] → rule_of (identity_in m) t ≡ None) → AllRight t (or_added m (map (changed m) rs))
put-right m [] t right none = (none refl, tt)
put-right m (r ∷ rs) t right none = right

none-named : (c : Command) (t : List Rule) (m : FlowMod) → IsNormal m.matching → named_by c t m ≡ [] → rule_of (identity_in m) t ≡ None
none-named Add t m n e = none-at _ e
none-named Modify t m n e = none-covered t m n e
none-named ModifyStrict t m n e = none-at _ e
none-named Delete t m n e = none-covered t m n e
none-named DeleteStrict t m n e = none-at _ e

modifies-right : (t : List Rule) (m : FlowMod) → IsTable t → IsNormal m.matching → AllRight t (or_added m (map (changed m) (named t m)))
modifies-right t m table n =
    put-right m (named t m) t
    (puts-right m (named t m) t table (named-in-order m.command t m table.order) (λ s i. has-named m.command t m s i))
    (none-named m.command t m n)

deletes-right : (t : List Rule) (m : FlowMod) → IsTable t → AllRight t (map taken (filter (is_taken m) (named t m)))
deletes-right t m table =
    cuts-right (filter (is_taken m) (named t m)) t table
    (order-filter (is_taken m) (named t m) (named-in-order m.command t m table.order))
    (λ s i. has-named m.command t m s (has-filter (is_taken m) (named t m) s i).0)

right : (c : Command) (t : List Rule) (m : FlowMod) → IsTable t → IsNormal m.matching → AllRight t (edits_by c t m)
right Add t m table n = (refl, tt)
right Modify t m table n = modifies-right t m table n
right ModifyStrict t m table n = modifies-right t m table n
right Delete t m table n = deletes-right t m table
right DeleteStrict t m table n = deletes-right t m table

pub right-law : (t : List Rule) (m : FlowMod) → IsTable t → IsNormal m.matching → AllRight t (edits_of t m)
right-law t m table n = right m.command t m table n
