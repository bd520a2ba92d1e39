-- Tables after a modification, by their members.
use Rattle.std.proofs.Common.{◌≡◌, ◌↔◌, ◌⊎◌, true, false, not, ◌&&◌, ◌||◌, List, [], ◌∷◌, map, Option, Some, None, refl, sym, subst, inl, inr, ⊎_elim}
use Rattle.std.specs.List.{AllByRecursion}
use Rattle.std.specs.Option.{option_to_list}
use Rattle.std.proofs.lemmas.Bool.{false≢true}
use Rattle.mon_list.specs.Has.{Has}
use Rattle.mon_table.specs.declared.rule.Rule.{Rule}
use Rattle.mon_table.specs.declared.edit.Edit.{Edit}
use Rattle.mon_table.specs.declared.edit.Edit.TheVariants.{Put}
use Rattle.mon_table.specs.Rules.{identity_of, same_identity, comes_before}
use Rattle.mon_table.specs.Tables.{InOrder, rule_of, is_named}
use Rattle.mon_table.specs.Edits.{after, after_all}
use Rattle.mon_table.proofs.Identities.{before-other}
use Rattle.mon_table.proofs.Keeping.{order-filter}
use Rattle.mon_table.proofs.Listing.{has-all}
use Rattle.mon_table.proofs.Members.{after-members, members-after, members-law}
use Rattle.of_msgs.specs.declared.command.Command.{Command}
use Rattle.of_msgs.specs.declared.command.Command.TheVariants.{Add, Modify, ModifyStrict, Delete, DeleteStrict}
use Rattle.of_msgs.specs.declared.flow_mod.FlowMod.{FlowMod}
use Rattle.mon_edits.specs.Naming.{is_add, is_deletion, named_by, named, is_none, adds_entry}
use Rattle.mon_edits.specs.Edits.{rule_in, changed_rule, changed, or_added, edits_by, edits_of}
use Rattle.mon_edits.specs.Laws.{IsOther, IsChanged, changes_entries}
use Rattle.mon_edits.proofs.Members.{AllOther, other-each, none-other, has-named}

-- a message that adds
adds-rule : (m : FlowMod) (rs : List Rule) → is_none rs ≡ true → or_added m (map (changed m) rs) ≡ Put (rule_in m) None ∷ []
adds-rule m [] e = refl
adds-rule m (r ∷ rs) e = absurd (false≢true e)

-- one edit that puts the message's rule
abbrev PutsRule : FlowMod → List Edit → Type 0
PutsRule m xs = (old : Option Rule) × (xs ≡ Put (rule_in m) old ∷ [])

puts-rule : (c : Command) (t : List Rule) (m : FlowMod) → (is_add c || (not (is_deletion c) && is_none (named t m))) ≡ true → PutsRule m (edits_by c t m)
puts-rule Add t m e = (_, refl)
puts-rule Modify t m e = (None, adds-rule m (named t m) e)
puts-rule ModifyStrict t m e = (None, adds-rule m (named t m) e)
puts-rule Delete t m e = absurd (false≢true e)
puts-rule DeleteStrict t m e = absurd (false≢true e)

pub add-law : (t : List Rule) (m : FlowMod) (r : Rule) → (is_add m.command || adds_entry t m) ≡ true → Has (after_all t (edits_of t m)) r ↔ ((r ≡ rule_in m) ⊎ IsOther t m r)
add-law t m r e =
    let p = puts-rule m.command t m e in
    subst (λ (xs : List Edit). Has (after_all t xs) r ↔ ((r ≡ rule_in m) ⊎ IsOther t m r)) (sym p.1) (members-law t (Put (rule_in m) p.0) r)

-- a message that changes entries
changes-each : (m : FlowMod) (rs : List Rule) → not (is_none rs) ≡ true → or_added m (map (changed m) rs) ≡ map (changed m) rs
changes-each m [] e = absurd (false≢true e)
changes-each m (r ∷ rs) e = refl

puts-each : (c : Command) (t : List Rule) (m : FlowMod) → (not (is_add c) && (not (is_deletion c) && not (is_none (named t m)))) ≡ true → edits_by c t m ≡ map (changed m) (named t m)
puts-each Add t m e = absurd (false≢true e)
puts-each Modify t m e = changes-each m (named t m) e
puts-each ModifyStrict t m e = changes-each m (named t m) e
puts-each Delete t m e = absurd (false≢true e)
puts-each DeleteStrict t m e = absurd (false≢true e)

one-in-order : (o : Option Rule) → InOrder (option_to_list o)
one-in-order None = tt
one-in-order (Some r) = (tt, tt)

pub named-in-order : (c : Command) (t : List Rule) (m : FlowMod) → InOrder t → InOrder (named_by c t m)
named-in-order Add t m o = one-in-order (rule_of _ t)
named-in-order Modify t m o = order-filter (is_named m.matching) t o
named-in-order ModifyStrict t m o = one-in-order (rule_of _ t)
named-in-order Delete t m o = order-filter (is_named m.matching) t o
named-in-order DeleteStrict t m o = one-in-order (rule_of _ t)

changes-there : (m : FlowMod) (rs t : List Rule) (r : Rule) → Has (after_all t (map (changed m) rs)) r → IsChanged m rs r ⊎ (Has t r × AllOther rs r)
changes-there m [] t r h = inr (h, λ s i. absurd i)
changes-there m (x ∷ rs) t r h = ⊎_elim
    (λ i. inl (inr i))
    (λ k. ⊎_elim
    (λ (e : r ≡ changed_rule m x). inl (inl e))
    (λ l. inr (l.0, λ s i. ⊎_elim (λ (e : s ≡ x). subst (λ (y : Rule). same_identity (identity_of r) (identity_of y) ≡ false) (sym e) l.1) (λ j. k.1 s j) i))
    (after-members t (changed m x) r k.0))
    (changes-there m rs (after t (changed m x)) r h)

-- what stands before a list is of another identity than its rules, also when it was changed
put-other : (m : FlowMod) (x r : Rule) (rs : List Rule) → AllByRecursion (λ s. comes_before (identity_of x) (identity_of s) ≡ true) rs → r ≡ changed_rule m x → AllOther rs r
put-other m x r rs a e s i =
    subst (λ (y : Rule). same_identity (identity_of y) (identity_of s) ≡ false) (sym e)
    (before-other (identity_of x) (identity_of s) (has-all (λ y. comes_before (identity_of x) (identity_of y) ≡ true) rs s a i))

changes-back : (m : FlowMod) (rs t : List Rule) (r : Rule) → InOrder rs → IsChanged m rs r ⊎ (Has t r × AllOther rs r) → Has (after_all t (map (changed m) rs)) r
changes-back m [] t r o h = ⊎_elim (λ n. absurd n) (λ k. k.0) h
changes-back m (x ∷ rs) t r o h = changes-back m rs (after t (changed m x)) r o.1 (⊎_elim
    (λ c. ⊎_elim
    (λ (e : r ≡ changed_rule m x). inr (members-after t (changed m x) r (inl e), put-other m x r rs o.0 e))
    (λ i. inl i)
    c)
    (λ k. inr (members-after t (changed m x) r (inr (k.0, k.1 x (inl refl))), λ s i. k.1 s (inr i)))
    h)

pub change-law : (t : List Rule) (m : FlowMod) (r : Rule) → InOrder t → changes_entries t m ≡ true
    → Has (after_all t (edits_of t m)) r ↔ (IsChanged m (named t m) r ⊎ (Has t r × (Has (named t m) r → ⊥)))
change-law t m r o e =
    subst (λ (xs : List Edit). Has (after_all t xs) r ↔ (IsChanged m (named t m) r ⊎ (Has t r × (Has (named t m) r → ⊥)))) (sym (puts-each m.command t m e)) (
      λ h. ⊎_elim (λ c. inl c) (λ k. inr (k.0, none-other (named t m) r k.1)) (changes-there m (named t m) t r h),
      λ h. changes-back m (named t m) t r (named-in-order m.command t m o)
          (⊎_elim (λ c. inl c) (λ k. inr (k.0, other-each t (named t m) r o k.0 (λ s i. has-named m.command t m s i) k.1)) h),
    )
