-- Tables after the edits of a message, by their members.
use Rattle.std.proofs.Common.{◌≡◌, ◌↔◌, true, false, cond, List, [], ◌∷◌, map, Some, refl, sym, subst, ◌∙◌, inl, inr, ⊎_elim}
use Rattle.std.specs.List.{filter, AllByRecursion}
use Rattle.std.specs.Option.{option_to_list}
use Rattle.std.proofs.lemmas.Bool.{false≢true, false_from_ne_true}
use Rattle.mon_list.specs.Has.{Has}
use Rattle.mon_table.specs.declared.rule.Rule.{Rule}
use Rattle.mon_table.specs.declared.edit.Edit.{Edit}
use Rattle.mon_table.specs.declared.edit.Edit.TheVariants.{Cut}
use Rattle.mon_table.specs.Rules.{Identity, identity_of, same_identity}
use Rattle.mon_table.specs.Tables.{InOrder, rule_of, is_named}
use Rattle.mon_table.specs.Edits.{after, after_all}
use Rattle.mon_table.proofs.Identities.{same-self}
use Rattle.mon_table.proofs.Members.{has-filter, filter-has, after-members, members-after, one-rule}
use Rattle.of_msgs.specs.declared.command.Command.{Command}
use Rattle.of_msgs.specs.declared.command.Command.TheVariants.{Add, Modify, ModifyStrict, Delete, DeleteStrict}
use Rattle.of_msgs.specs.declared.flow_mod.FlowMod.{FlowMod}
use Rattle.mon_edits.specs.Naming.{is_deletion, named_by, named}
use Rattle.mon_edits.specs.Edits.{changed, or_added, is_taken, taken, edits_by, edits_of}
use Rattle.mon_edits.specs.Frames.{is_cut}
use Rattle.mon_edits.specs.Laws.{IsTaken}

-- each edit takes an entry out, or none does
all-cut : (rs : List Rule) → AllByRecursion (λ e. is_cut e ≡ true) (map taken rs)
all-cut [] = tt
all-cut (r ∷ rs) = (refl, all-cut rs)

all-put : (m : FlowMod) (rs : List Rule) → AllByRecursion (λ e. is_cut e ≡ false) (map (changed m) rs)
all-put m [] = tt
all-put m (r ∷ rs) = (refl, all-put m rs)

or-put : (m : FlowMod) (xs : List Edit) → AllByRecursion (λ e. is_cut e ≡ false) xs → AllByRecursion (λ e. is_cut e ≡ false) (or_added m xs)
or-put m [] a = (refl, tt)
or-put m (x ∷ xs) a = a

suits : (c : Command) (t : List Rule) (m : FlowMod) → AllByRecursion (λ e. is_cut e ≡ is_deletion c) (edits_by c t m)
suits Add t m = (refl, tt)
suits Modify t m = or-put m (map (changed m) (named t m)) (all-put m (named t m))
suits ModifyStrict t m = or-put m (map (changed m) (named t m)) (all-put m (named t m))
suits Delete t m = all-cut (filter (is_taken m) (named t m))
suits DeleteStrict t m = all-cut (filter (is_taken m) (named t m))

pub suits-law : (t : List Rule) (m : FlowMod) → AllByRecursion (λ e. is_cut e ≡ is_deletion m.command) (edits_of t m)
suits-law t m = suits m.command t m

-- a deletion
cut-each : (c : Command) (t : List Rule) (m : FlowMod) → is_deletion c ≡ true → edits_by c t m ≡ map taken (filter (is_taken m) (named t m))
cut-each Add t m e = absurd (false≢true e)
cut-each Modify t m e = absurd (false≢true e)
cut-each ModifyStrict t m e = absurd (false≢true e)
cut-each Delete t m e = refl
cut-each DeleteStrict t m e = refl

-- what is named is of the table
has-found : (i : Identity) (t : List Rule) (r : Rule) → Has (option_to_list (rule_of i t)) r → Has t r
has-found i [] r h = h
has-found i (s ∷ t) r h =
    elim (same_identity (identity_of s) i) as (λ b. Has (option_to_list (cond b (Some s) (rule_of i t))) r → Has (s ∷ t) r) [
      | true ↦ λ k. ⊎_elim (λ (e : r ≡ s). inl e) (λ n. absurd n) k
      | false ↦ λ k. inr (has-found i t r k)
    ] h

pub has-named : (c : Command) (t : List Rule) (m : FlowMod) (r : Rule) → Has (named_by c t m) r → Has t r
has-named Add t m r h = has-found _ t r h
has-named Modify t m r h = (has-filter (is_named m.matching) t r h).0
has-named ModifyStrict t m r h = has-found _ t r h
has-named Delete t m r h = (has-filter (is_named m.matching) t r h).0
has-named DeleteStrict t m r h = has-found _ t r h

-- the rule is of another identity than those of the list
abbrev pub AllOther : List Rule → Rule → Type 0
AllOther rs r = (s : Rule) → Has rs s → same_identity (identity_of r) (identity_of s) ≡ false

-- a rule of the table that is not in a list of its rules is of another identity than all of them, and the other way round
pub other-each : (t rs : List Rule) (r : Rule) → InOrder t → Has t r → ((s : Rule) → Has rs s → Has t s) → (Has rs r → ⊥) → AllOther rs r
other-each t rs r o h inside out s i =
    false_from_ne_true _ (λ same. out (subst (Has rs) (sym (one-rule t r s o h (inside s i) same)) i))

pub none-other : (rs : List Rule) (r : Rule) → AllOther rs r → Has rs r → ⊥
none-other rs r other i = false≢true (sym (other r i) ∙ same-self (identity_of r))

cuts-there : (rs t : List Rule) (r : Rule) → Has (after_all t (map taken rs)) r → Has t r × AllOther rs r
cuts-there [] t r h = (h, λ s i. absurd i)
cuts-there (x ∷ rs) t r h =
    let g = cuts-there rs (after t (Cut x)) r h in
    ⊎_elim
    (λ n. absurd n)
    (λ l. (l.0, λ s i. ⊎_elim (λ (e : s ≡ x). subst (λ (y : Rule). same_identity (identity_of r) (identity_of y) ≡ false) (sym e) l.1) (λ k. g.1 s k) i))
    (after-members t (Cut x) r g.0)

cuts-back : (rs t : List Rule) (r : Rule) → Has t r → AllOther rs r → Has (after_all t (map taken rs)) r
cuts-back [] t r h other = h
cuts-back (x ∷ rs) t r h other =
    cuts-back rs (after t (Cut x)) r (members-after t (Cut x) r (inr (h, other x (inl refl)))) (λ s i. other s (inr i))

deletion-there : (t : List Rule) (m : FlowMod) (r : Rule) → Has (after_all t (map taken (filter (is_taken m) (named t m)))) r → Has t r × (IsTaken t m r → ⊥)
deletion-there t m r h =
    let g = cuts-there (filter (is_taken m) (named t m)) t r h in
    (g.0, λ k. none-other (filter (is_taken m) (named t m)) r g.1 (filter-has (is_taken m) (named t m) r k.0 k.1))

deletion-back : (t : List Rule) (m : FlowMod) (r : Rule) → InOrder t → Has t r → (IsTaken t m r → ⊥) → Has (after_all t (map taken (filter (is_taken m) (named t m)))) r
deletion-back t m r o h stays =
    cuts-back (filter (is_taken m) (named t m)) t r h
    (other-each t (filter (is_taken m) (named t m)) r o h
    (λ s i. has-named m.command t m s (has-filter (is_taken m) (named t m) s i).0)
    (λ i. stays (has-filter (is_taken m) (named t m) r i)))

pub deletion-law : (t : List Rule) (m : FlowMod) (r : Rule) → InOrder t → is_deletion m.command ≡ true → Has (after_all t (edits_of t m)) r ↔ (Has t r × (IsTaken t m r → ⊥))
deletion-law t m r o e =
    subst (λ (xs : List Edit). Has (after_all t xs) r ↔ (Has t r × (IsTaken t m r → ⊥))) (sym (cut-each m.command t m e))
    (deletion-there t m r, λ k. deletion-back t m r o k.0 k.1)
