-- Rules no two of which have one identity fill a table without replacing any, and are all that it has.
use Rattle.std.proofs.Common.{◌≡◌, ◌↔◌, ◌⊎◌, ⊎_elim, inl, inr, suc, Bool, true, false, not, cond, refl, sym, ap, subst, ◌∙◌, List, [], ◌∷◌, ◌++◌, length, Some, None}
use Rattle.std.specs.List.{find}
use Rattle.mon_list.specs.Has.{Has}
use Rattle.mon_table.specs.declared.rule.Rule.{Rule}
use Rattle.mon_table.specs.declared.edit.Edit.TheVariants.{Put}
use Rattle.mon_table.specs.Rules.{Identity, identity_of, same_identity, comes_before}
use Rattle.mon_table.specs.Tables.{AllNormal, IsTable, rule_of, without, placed, with_rule}
use Rattle.mon_table.specs.Edits.{after}
use Rattle.mon_table.proofs.Listing.{all-has, has-all}
use Rattle.mon_table.proofs.Identities.{other-turned}
use Rattle.mon_table.proofs.Members.{after-members, members-after, after-table, one-list}
use Rattle.mon_text.proofs.Growing.{all_push}
use Rattle.mon_table_file.specs.Filling.{AreApart, IsTableOf}
use Rattle.mon_table_file.specs.Generator.{added}
use Rattle.mon_table_file.proofs.SoFar.{all_next}

-- each rule is added where none of its identity stands
abbrev pub Fresh : List Rule → List Rule → Type 0
Fresh t [] = Unit {0}
Fresh t (r ∷ rs) = (rule_of (identity_of r) t ≡ None) × Fresh (added t r) rs

-- each rule's identity is another than those of a table
abbrev Differ : List Rule → List Rule → Type 0
Differ t rs = (r : Rule) → Has rs r → (s : Rule) → Has t s → same_identity (identity_of s) (identity_of r) ≡ false

none-stands : (i : Identity) (t : List Rule) → ((s : Rule) → Has t s → same_identity (identity_of s) i ≡ false) → rule_of i t ≡ None
none-stands i [] f = refl
none-stands i (s ∷ t) f =
    ap (λ (b : Bool). cond b (Some s) (find (λ x. same_identity (identity_of x) i) t)) (f s (inl refl)) ∙ none-stands i t (λ r has. f r (inr has))

differs-from : (i : Identity) (t : List Rule) → rule_of i t ≡ None → (s : Rule) → Has t s → same_identity (identity_of s) i ≡ false
differs-from i [] e s has = absurd has
differs-from i (x ∷ t) e s has =
    elim (same_identity (identity_of x) i) as (λ b. same_identity (identity_of x) i ≡ b → cond b (Some x) (find (λ y. same_identity (identity_of y) i) t) ≡ None → same_identity (identity_of s) i ≡ false) [
      | true ↦ λ same none. absurd (let f : ⊥ = cc in f)
      | false ↦ λ other none. ⊎_elim (λ (is : s ≡ x). ap (λ (y : Rule). same_identity (identity_of y) i) is ∙ other) (λ more. differs-from i t none s more) has
    ] refl e

-- what a table has after an ADD
added-has : (t : List Rule) (r s : Rule) → Has (added t r) s → (s ≡ r) ⊎ Has t s
added-has t r s has = ⊎_elim (λ (is : s ≡ r). inl is) (λ left. inr left.0) (after-members t (Put r (rule_of (identity_of r) t)) s has)

has-added : (t : List Rule) (r : Rule) → Has (added t r) r
has-added t r = members-after t (Put r (rule_of (identity_of r) t)) r (inl refl)

kept-added : (t : List Rule) (r s : Rule) → Has t s → same_identity (identity_of s) (identity_of r) ≡ false → Has (added t r) s
kept-added t r s has other = members-after t (Put r (rule_of (identity_of r) t)) s (inr (has, other))

fresh-from : (t rs : List Rule) → AreApart rs → Differ t rs → Fresh t rs
fresh-from t [] apart differ = tt
fresh-from t (r ∷ rs) apart differ = (
  none-stands (identity_of r) t (differ r (inl refl)),
  fresh-from (added t r) rs apart.1 (λ x in_rs s in_table. ⊎_elim
      (λ (is : s ≡ r). subst (λ (y : Rule). same_identity (identity_of y) (identity_of x) ≡ false) (sym is) (other-turned (identity_of x) (identity_of r) (has-all (λ y. same_identity (identity_of y) (identity_of r) ≡ false) rs x apart.0 in_rs)))
      (λ in_t. differ x (inr in_rs) s in_t)
      (added-has t r s in_table)),
)

record IsApart (t rs : List Rule) : Type 0 where
  apart : AreApart rs
  differ : Differ t rs

apart-from : (t rs : List Rule) → Fresh t rs → IsApart t rs
apart-from t [] fresh = record { apart = tt; differ = λ r has. absurd has }
apart-from t (r ∷ rs) fresh =
    let more = apart-from (added t r) rs fresh.1 in
    let none = differs-from (identity_of r) t fresh.0 in
    record {
      apart = (all-has (λ x. same_identity (identity_of x) (identity_of r) ≡ false) rs (λ x in_rs. other-turned (identity_of r) (identity_of x) (more.differ x in_rs r (has-added t r))), more.apart);
      differ = λ x has s in_t. ⊎_elim
          (λ (is : x ≡ r). subst (λ (y : Rule). same_identity (identity_of s) (identity_of y) ≡ false) (sym is) (none s in_t))
          (λ in_rs. more.differ x in_rs s (kept-added t r s in_t (none s in_t)))
          has;
    }

-- rules that are apart are those that replace none in turn
pub apart-fresh : (rs : List Rule) → AreApart rs → Fresh [] rs
apart-fresh rs apart = fresh-from [] rs apart (λ r has s none. absurd none)

pub fresh-apart : (rs : List Rule) → Fresh [] rs → AreApart rs
fresh-apart rs fresh = (apart-from [] rs fresh).apart

-- the rules that stand in a table and those to come are these
abbrev pub Share : List Rule → List Rule → List Rule → Type 0
Share rules t rs = (s : Rule) → (Has t s ⊎ Has rs s) ↔ Has rules s

pub share-none : (rules : List Rule) → Share rules [] rules
share-none rules s = (λ h. ⊎_elim (λ none. absurd none) (λ i. i) h, λ i. inr i)

pub share-more : (rules t new rs : List Rule) (r : Rule) → rule_of (identity_of r) t ≡ None → new ≡ added t r → Share rules t (r ∷ rs) → Share rules new rs
share-more rules t new rs r none e share s = (
  λ h. (share s).0 (⊎_elim
      (λ i. ⊎_elim (λ (is : s ≡ r). inr (inl is)) (λ j. inl j) (added-has t r s (subst (λ (u : List Rule). Has u s) e i)))
      (λ k. inr (inr k))
      h),
  λ i. ⊎_elim
      (λ j. inl (subst (λ (u : List Rule). Has u s) (sym e) (kept-added t r s j (differs-from (identity_of r) t none s j))))
      (λ j. ⊎_elim (λ (is : s ≡ r). inl (subst (λ (u : List Rule). Has u s) (sym e) (subst (Has (added t r)) (sym is) (has-added t r)))) (λ k. inr k) j)
      ((share s).1 i),
)

pub share-all : (rules t rs : List Rule) → rs ≡ [] → Share rules t rs → (s : Rule) → Has t s ↔ Has rules s
share-all rules t rs e share s = (
  λ i. (share s).0 (inl i),
  λ i. ⊎_elim (λ j. j) (λ k. absurd (subst (λ (u : List Rule). Has u s) e k)) ((share s).1 i),
)

-- they have a table
table-from : (rules t rs : List Rule) → IsTable t → AllNormal rs → Fresh t rs → Share rules t rs → (u : List Rule) × IsTableOf rules u
table-from rules t [] table normal fresh share = (t, record { table = table; members = share-all rules t [] refl share })
table-from rules t (r ∷ rs) table normal fresh share =
    table-from rules (added t r) rs (after-table t (Put r (rule_of (identity_of r) t)) table normal.0) normal.1 fresh.1 (share-more rules t (added t r) rs r fresh.0 refl share)

pub has-table : (rules : List Rule) → AllNormal rules → AreApart rules → (t : List Rule) × IsTableOf rules t
has-table rules normal apart = table-from rules [] rules (record { order = tt; normal = tt }) normal (apart-fresh rules apart) (share-none rules)

-- and only one
pub one-table : (rules t u : List Rule) → IsTableOf rules t → IsTableOf rules u → t ≡ u
one-table rules t u a b = one-list t u a.table.order b.table.order (λ r i. (b.members r).1 ((a.members r).0 i)) (λ r i. (a.members r).1 ((b.members r).0 i))

-- one rule more
pub put-added : (t new : List Rule) (r : Rule) → new ≡ with_rule r t → new ≡ added t r
unfolding after
put-added t new r e = e

push-has : (rules : List Rule) (r s : Rule) → Has (rules ++ r ∷ []) s → Has rules s ⊎ (s ≡ r)
push-has [] r s has = ⊎_elim (λ (is : s ≡ r). inr is) (λ none. absurd none) has
push-has (x ∷ rules) r s has = ⊎_elim (λ (is : s ≡ x). inl (inl is)) (λ more. ⊎_elim (λ old. inl (inr old)) (λ (is : s ≡ r). inr is) (push-has rules r s more)) has

has-push : (rules : List Rule) (r s : Rule) → Has rules s → Has (rules ++ r ∷ []) s
has-push [] r s has = absurd has
has-push (x ∷ rules) r s has = ⊎_elim (λ (is : s ≡ x). inl is) (λ more. inr (has-push rules r s more)) has

has-last : (rules : List Rule) (r : Rule) → Has (rules ++ r ∷ []) r
has-last [] r = inl refl
has-last (x ∷ rules) r = inr (has-last rules r)

-- the table has just these rules
abbrev pub Fills : List Rule → List Rule → Type 0
Fills rules t = (s : Rule) → Has t s ↔ Has rules s

pub fills-more : (rules t new : List Rule) (r : Rule) → rule_of (identity_of r) t ≡ None → new ≡ added t r → Fills rules t → Fills (rules ++ r ∷ []) new
fills-more rules t new r none e fills s = (
  λ h. ⊎_elim
      (λ (is : s ≡ r). subst (Has (rules ++ r ∷ [])) (sym is) (has-last rules r))
      (λ i. has-push rules r s ((fills s).0 i))
      (added-has t r s (subst (λ (u : List Rule). Has u s) e h)),
  λ h. subst (λ (u : List Rule). Has u s) (sym e) (⊎_elim
      (λ i. let old = (fills s).1 i in kept-added t r s old (differs-from (identity_of r) t none s old))
      (λ (is : s ≡ r). subst (Has (added t r)) (sym is) (has-added t r))
      (push-has rules r s h)),
)

apart-join : (rules : List Rule) (r : Rule) → AreApart rules → ((s : Rule) → Has rules s → same_identity (identity_of r) (identity_of s) ≡ false) → AreApart (rules ++ r ∷ [])
apart-join [] r apart f = (tt, tt)
apart-join (x ∷ rules) r apart f = (all_push (λ s. same_identity (identity_of s) (identity_of x) ≡ false) rules r apart.0 (f x (inl refl)), apart-join rules r apart.1 (λ s has. f s (inr has)))

pub apart-more : (rules t : List Rule) (r : Rule) → rule_of (identity_of r) t ≡ None → Fills rules t → AreApart rules → AreApart (rules ++ r ∷ [])
apart-more rules t r none fills apart = apart-join rules r apart (λ s has. other-turned (identity_of s) (identity_of r) (differs-from (identity_of r) t none s ((fills s).1 has)))

apart-last : (rules : List Rule) (r s : Rule) → AreApart (rules ++ r ∷ []) → Has rules s → same_identity (identity_of r) (identity_of s) ≡ false
apart-last [] r s apart has = absurd has
apart-last (x ∷ rules) r s apart has = ⊎_elim
    (λ (is : s ≡ x). subst (λ (y : Rule). same_identity (identity_of r) (identity_of y) ≡ false) (sym is) (all_next (λ y. same_identity (identity_of y) (identity_of x) ≡ false) rules r [] apart.0))
    (λ more. apart-last rules r s apart.1 more)
    has

pub not-apart : (rules t : List Rule) (r old : Rule) → Some old ≡ rule_of (identity_of r) t → Fills rules t → AreApart (rules ++ r ∷ []) → ⊥
not-apart rules t r old e fills apart =
    let none = none-stands (identity_of r) t (λ s has. other-turned (identity_of r) (identity_of s) (apart-last rules r s apart ((fills s).0 has))) in
    let f : Some old ≡ None = e ∙ none in cc

without-none : (i : Identity) (t : List Rule) → ((s : Rule) → Has t s → same_identity (identity_of s) i ≡ false) → without i t ≡ t
without-none i [] f = refl
without-none i (s ∷ t) f =
    ap (λ (b : Bool). cond (not b) (s ∷ without i t) (without i t)) (f s (inl refl)) ∙ ap (λ (u : List Rule). s ∷ u) (without-none i t (λ r has. f r (inr has)))

length-placed : (r : Rule) (t : List Rule) → length (placed r t) ≡ suc (length t)
length-placed r [] = refl
length-placed r (s ∷ t) =
    elim (comes_before (identity_of s) (identity_of r)) as (λ b. length (cond b (s ∷ placed r t) (r ∷ s ∷ t)) ≡ suc (suc (length t))) [
      | true ↦ ap suc (length-placed r t)
      | false ↦ refl
    ]

pub length-more : (t new : List Rule) (r : Rule) → rule_of (identity_of r) t ≡ None → new ≡ with_rule r t → length new ≡ suc (length t)
length-more t new r none e =
    ap length e ∙ ap (λ (u : List Rule). length (placed r u)) (without-none (identity_of r) t (λ s has. differs-from (identity_of r) t none s has)) ∙ length-placed r t
