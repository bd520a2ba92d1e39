-- An edit is tied where its rule is tied in the table: what stands in its own place never counts.
use Rattle.std.proofs.Common.{◌≡◌, Bool, true, false, cond, not, ◌||◌, ◌&&◌, List, [], ◌∷◌, length, Some, None, refl, sym, ap, ◌∙◌, subst}
use Rattle.std.specs.Prelude.{◌==◌, nat_lt}
use Rattle.mon_table.specs.declared.rule.Rule.{Rule}
use Rattle.mon_table.specs.declared.edit.Edit.{Edit}
use Rattle.mon_table.specs.declared.edit.Edit.TheVariants.{Put, Cut}
use Rattle.mon_table.specs.Rules.{Identity, identity_of, rank, same_identity, comes_before}
use Rattle.mon_table.specs.Tables.{placed, without, with_rule, ties, tied}
use Rattle.mon_table.specs.Edits.{after, edited, undone}
use Rattle.mon_table.proofs.Identities.{same-self}
use Rattle.mon_legal.specs.Ties.{tie}
use Rattle.mon_session.specs.UnderWay.{HasItsOld}

and-none : (b : Bool) → (b && false) ≡ false
and-none true = refl
and-none false = refl

-- a rule of its own identity never ties with a rule
own-ties : (r s : Rule) → same_identity (identity_of s) (identity_of r) ≡ true → ties r s ≡ false
unfolding ties
own-ties r s e = rw e (and-none (rank s == rank r))

tied-placed : (r s : Rule) (t : List Rule) → ties r s ≡ false → tied (placed s t) r ≡ tied t r
tied-placed r s [] e = rw e refl
tied-placed r s (q ∷ t) e =
    elim (comes_before (identity_of q) (identity_of s)) as (λ b. tied (cond b (q ∷ placed s t) (s ∷ q ∷ t)) r ≡ tied (q ∷ t) r) [
      | true ↦ ap (λ (b : Bool). ties r q || b) (tied-placed r s t e)
      | false ↦ rw e refl
    ]

tied-without : (r : Rule) (t : List Rule) → tied (without (identity_of r) t) r ≡ tied t r
tied-without r [] = refl
tied-without r (q ∷ t) =
    elim (same_identity (identity_of q) (identity_of r)) as (λ b. same_identity (identity_of q) (identity_of r) ≡ b
    → tied (cond (not b) (q ∷ without (identity_of r) t) (without (identity_of r) t)) r ≡ (ties r q || tied t r)) [
      | true ↦ λ y. rw (own-ties r q y) (tied-without r t)
      | false ↦ λ n. ap (λ (b : Bool). ties r q || b) (tied-without r t)
    ] refl

-- so a rule is tied with its own place filled or empty alike
tied-with : (r s : Rule) (t : List Rule) → identity_of s ≡ identity_of r → tied (with_rule s t) r ≡ tied t r
tied-with r s t e =
    let own : same_identity (identity_of s) (identity_of r) ≡ true = subst (λ (i : Identity). same_identity (identity_of s) i ≡ true) e (same-self (identity_of s)) in
    tied-placed r s (without (identity_of s) t) (own-ties r s own)
    ∙ subst (λ (i : Identity). tied (without i t) r ≡ tied t r) (sym e) (tied-without r t)

tied-after : (t : List Rule) (x : Edit) → tied (after t x) (edited x) ≡ tied t (edited x)
unfolding after
tied-after t (Put r old) = tied-with r r t refl
tied-after t (Cut r) = tied-without r t

tied-undone : (t : List Rule) (x : Edit) → HasItsOld x → tied (undone t x) (edited x) ≡ tied t (edited x)
unfolding after
tied-undone t (Put r None) h = tied-without r t
tied-undone t (Put r (Some old)) h = tied-with r old t h
tied-undone t (Cut r) h = tied-with r r t refl

either-table : (b : Bool) (t u : List Rule) (r : Rule) → tied u r ≡ tied t r → tied (cond b u t) r ≡ tied t r
either-table true t u r e = e
either-table false t u r e = refl

-- whichever of the two tables is the larger
pub tie_is_tied : (t : List Rule) (x : Edit) → HasItsOld x → tie t x ≡ tied t (edited x)
tie_is_tied t x h = either-table (nat_lt (length t) (length (undone t x))) t (undone t x) (edited x) (tied-undone t x h)

pub tie_behind : (t : List Rule) (x : Edit) → HasItsOld x → tie (after t x) x ≡ tied t (edited x)
tie_behind t x h = tie_is_tied (after t x) x h ∙ tied-after t x
