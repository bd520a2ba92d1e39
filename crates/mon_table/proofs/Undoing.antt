-- An edit taken back leaves the table that it came to.
use Rattle.std.proofs.Common.{◌≡◌, true, false, cond, List, [], ◌∷◌, Some, None, refl, sym, ap, subst, ◌∙◌, inl, inr, ⊎_elim}
use Rattle.std.proofs.lemmas.Bool.{cases_Bool, false≢true, false_from_ne_true}
use Rattle.mon_list.specs.Has.{Has}
use Rattle.mon_header.specs.Matching.{IsNormal}
use Rattle.mon_table.specs.declared.rule.Rule.{Rule}
use Rattle.mon_table.specs.declared.edit.Edit.{Edit}
use Rattle.mon_table.specs.declared.edit.Edit.TheVariants.{Put, Cut}
use Rattle.mon_table.specs.Rules.{Identity, identity_of, same_identity}
use Rattle.mon_table.specs.Tables.{IsTable, rule_of}
use Rattle.mon_table.specs.Edits.{edited, after, inverse, undone, IsRight}
use Rattle.mon_table.proofs.Identities.{same-is, same-self, same-turned}
use Rattle.mon_table.proofs.Listing.{has-all}
use Rattle.mon_table.proofs.Members.{after-members, members-after, after-table, one-rule, one-list}

-- what looking for an identity finds
pub none-there : (i : Identity) (t : List Rule) (r : Rule) → rule_of i t ≡ None → Has t r → same_identity (identity_of r) i ≡ false
none-there i [] r e h = absurd h
none-there i (s ∷ t) r e h =
    elim (same_identity (identity_of s) i) as (λ b. same_identity (identity_of s) i ≡ b → cond b (Some s) (rule_of i t) ≡ None → same_identity (identity_of r) i ≡ false) [
      | true ↦ λ y f. absurd (let g : ⊥ = cc in g)
      | false ↦ λ y f. ⊎_elim (λ (same : r ≡ s). ap (λ (x : Rule). same_identity (identity_of x) i) same ∙ y) (λ k. none-there i t r f k) h
    ] refl e

some-there : (i : Identity) (t : List Rule) (r : Rule) → rule_of i t ≡ Some r → Has t r × (same_identity (identity_of r) i ≡ true)
some-there i [] r e = absurd (let g : ⊥ = cc in g)
some-there i (s ∷ t) r e =
    elim (same_identity (identity_of s) i) as (λ b. same_identity (identity_of s) i ≡ b → cond b (Some s) (rule_of i t) ≡ Some r → Has (s ∷ t) r × (same_identity (identity_of r) i ≡ true)) [
      | true ↦ λ y f. let same : s ≡ r = cc in (inl (sym same), ap (λ (x : Rule). same_identity (identity_of x) i) (sym same) ∙ y)
      | false ↦ λ y f. let g = some-there i t r f in (inr g.0, g.1)
    ] refl e

not-itself : (r s : Rule) → same_identity (identity_of r) (identity_of s) ≡ false → r ≡ s → ⊥
not-itself r s n e = false≢true (sym n ∙ (ap (λ (x : Rule). same_identity (identity_of x) (identity_of s)) e ∙ same-self (identity_of s)))

-- of one identity with a second, and so with a third of the second's
along : (a b c : Rule) → same_identity (identity_of a) (identity_of b) ≡ true → same_identity (identity_of b) (identity_of c) ≡ true → same_identity (identity_of a) (identity_of c) ≡ true
along a b c e f = subst (λ (i : Identity). same_identity (identity_of a) i ≡ true) (same-is (identity_of b) (identity_of c) f) e

apart : (a b c : Rule) → same_identity (identity_of a) (identity_of c) ≡ false → same_identity (identity_of b) (identity_of c) ≡ true → same_identity (identity_of a) (identity_of b) ≡ false
apart a b c n e = false_from_ne_true _ (λ d. false≢true (sym n ∙ along a b c d e))

undone-there : (t : List Rule) (x : Edit) → IsTable t → IsRight t x → (r : Rule) → Has (undone (after t x) x) r → Has t r
undone-there t (Put s None) table right r i = ⊎_elim
    (λ n. absurd n)
    (λ l. ⊎_elim (λ (e : r ≡ s). absurd (not-itself r s l.1 e)) (λ k. k.0) (after-members t (Put s None) r l.0))
    (after-members (after t (Put s None)) (Cut s) r i)
undone-there t (Put s (Some o)) table right r i =
    let found = some-there (identity_of s) t o right in
    ⊎_elim
    (λ (e : r ≡ o). subst (Has t) (sym e) found.0)
    (λ l. ⊎_elim
    (λ (e : r ≡ s). absurd (not-itself r s (subst (λ (i : Identity). same_identity (identity_of r) i ≡ false) (same-is (identity_of o) (identity_of s) found.1) l.1) e))
    (λ k. k.0)
    (after-members t (Put s (Some o)) r l.0))
    (after-members (after t (Put s (Some o))) (Put o (Some s)) r i)
undone-there t (Cut s) table right r i =
    let found = some-there (identity_of s) t s right in
    ⊎_elim
    (λ (e : r ≡ s). subst (Has t) (sym e) found.0)
    (λ l. ⊎_elim (λ n. absurd n) (λ k. k.0) (after-members t (Cut s) r l.0))
    (after-members (after t (Cut s)) (Put s None) r i)

undone-back : (t : List Rule) (x : Edit) → IsTable t → IsRight t x → (r : Rule) → Has t r → Has (undone (after t x) x) r
undone-back t (Put s None) table right r i =
    let n = none-there (identity_of s) t r right i in
    members-after (after t (Put s None)) (Cut s) r (inr (members-after t (Put s None) r (inr (i, n)), n))
undone-back t (Put s (Some o)) table right r i =
    let found = some-there (identity_of s) t o right in
    ⊎_elim
    (λ same. members-after (after t (Put s (Some o))) (Put o (Some s)) r
    (inl (one-rule t r o table.order i found.0 (along r s o same (same-turned (identity_of o) (identity_of s) found.1)))))
    (λ other. members-after (after t (Put s (Some o))) (Put o (Some s)) r
    (inr (members-after t (Put s (Some o)) r (inr (i, other)), apart r o s other found.1)))
    (cases_Bool (same_identity (identity_of r) (identity_of s)))
undone-back t (Cut s) table right r i =
    let found = some-there (identity_of s) t s right in
    ⊎_elim
    (λ same. members-after (after t (Cut s)) (Put s None) r (inl (one-rule t r s table.order i found.0 same)))
    (λ other. members-after (after t (Cut s)) (Put s None) r (inr (members-after t (Cut s) r (inr (i, other)), other)))
    (cases_Bool (same_identity (identity_of r) (identity_of s)))

inverse-normal : (t : List Rule) (x : Edit) → IsTable t → IsNormal (edited x).matching → IsRight t x → IsNormal (edited (inverse x)).matching
inverse-normal t (Put s None) table m right = m
inverse-normal t (Put s (Some o)) table m right =
    has-all (λ r. IsNormal r.matching) t o table.normal (some-there (identity_of s) t o right).0
inverse-normal t (Cut s) table m right = m

pub undone-after : (t : List Rule) (x : Edit) → IsTable t → IsNormal (edited x).matching → IsRight t x → undone (after t x) x ≡ t
undone-after t x table m right =
    let once = after-table t x table m in
    let twice = after-table (after t x) (inverse x) once (inverse-normal t x table m right) in
    one-list (undone (after t x) x) t twice.order table.order (undone-there t x table right) (undone-back t x table right)
