-- What edits and slices keep: the order, and the normalised form.
use Rattle.std.proofs.Common.{◌≡◌, ℕ, ◌+◌, ◌-◌, ◌^◌, ◌<◌, ◌≤◌, Bool, true, false, not, List, [], ◌∷◌, ◌++◌, length, set, drop, sym, ap, subst, ◌∙◌, arith, ⊎_elim}
use Rattle.std.specs.List.{filter, insert, AllByRecursion}
use Rattle.std.proofs.Math.ListN.{length-set}
use Rattle.std.proofs.lemmas.List.{append-nil, drop_all}
use Rattle.std.proofs.lemmas.List.Edits.{length-insert}
use Rattle.std.proofs.lemmas.Bool.{cases_Bool}
use Rattle.mon_header.specs.Actions.{AllFit}
use Rattle.mon_header.specs.Matching.{Matching, IsNormal, overlaps}
use Rattle.mon_table.specs.declared.rule.Rule.{Rule}
use Rattle.mon_table.specs.Rules.{Identity, identity_of, same_identity, comes_before}
use Rattle.mon_table.specs.Tables.{InOrder, AllNormal, IsTable, AllActionsFit, without, placed, with_rule, slice}
use Rattle.mon_table.proofs.Identities.{other-behind}
use Rattle.mon_table.proofs.Placing.{behind-more}

pub all-filter : (P : Rule → Type 0) (p : Rule → Bool) (t : List Rule) → AllByRecursion P t → AllByRecursion P (filter p t)
all-filter P p [] a = a
all-filter P p (x ∷ t) a = ⊎_elim (λ e. rw e (a.0, all-filter P p t a.1)) (λ e. rw e (all-filter P p t a.1)) (cases_Bool (p x))

all-placed : (P : Rule → Type 0) (r : Rule) (t : List Rule) → P r → AllByRecursion P t → AllByRecursion P (placed r t)
all-placed P r [] p a = (p, tt)
all-placed P r (x ∷ t) p a = ⊎_elim (λ e. rw e (a.0, all-placed P r t p a.1)) (λ e. rw e (p, a)) (cases_Bool (comes_before (identity_of x) (identity_of r)))

pub order-filter : (p : Rule → Bool) (t : List Rule) → InOrder t → InOrder (filter p t)
order-filter p [] o = o
order-filter p (x ∷ t) o = ⊎_elim
    (λ e. rw e (all-filter (λ s. comes_before (identity_of x) (identity_of s) ≡ true) p t o.0, order-filter p t o.1))
    (λ e. rw e (order-filter p t o.1))
    (cases_Bool (p x))

-- the rules are of other identities
abbrev AllOther : Identity → List Rule → Type 0
AllOther i t = AllByRecursion (λ s. same_identity (identity_of s) i ≡ false) t

without-other : (i : Identity) (t : List Rule) → AllOther i (without i t)
without-other i [] = tt
without-other i (x ∷ t) = ⊎_elim
    (λ e. rw e (without-other i t))
    (λ e. rw e (e, without-other i t))
    (cases_Bool (same_identity (identity_of x) i))

order-placed : (r : Rule) (t : List Rule) → IsNormal r.matching → AllNormal t → AllOther (identity_of r) t → InOrder t → InOrder (placed r t)
order-placed r [] m n d o = (tt, tt)
order-placed r (x ∷ t) m n d o = ⊎_elim
    (λ e. rw e (all-placed (λ s. comes_before (identity_of x) (identity_of s) ≡ true) r t e o.0, order-placed r t m n.1 d.1 o.1))
    (λ e. rw e (
    let first : comes_before (identity_of r) (identity_of x) ≡ true = other-behind (identity_of x) (identity_of r) n.0 m e d.0 in
    ((first, behind-more (identity_of r) (identity_of x) t first o.0), o)))
    (cases_Bool (comes_before (identity_of x) (identity_of r)))

pub table-filter : (p : Rule → Bool) (t : List Rule) → IsTable t → IsTable (filter p t)
table-filter p t table = record {
  order = order-filter p t table.order;
  normal = all-filter (λ r. IsNormal r.matching) p t table.normal;
}

pub table-without : (i : Identity) (t : List Rule) → IsTable t → IsTable (without i t)
table-without i t table = table-filter (λ r. not (same_identity (identity_of r) i)) t table

pub table-with : (r : Rule) (t : List Rule) → IsNormal r.matching → IsTable t → IsTable (with_rule r t)
table-with r t m table =
    let rest = table-without (identity_of r) t table in
    record {
      order = order-placed r (without (identity_of r) t) m rest.normal (without-other (identity_of r) t) rest.order;
      normal = all-placed (λ s. IsNormal s.matching) r (without (identity_of r) t) m rest.normal;
    }

-- so do the numbers of actions
pub fit-filter : (p : Rule → Bool) (t : List Rule) → AllActionsFit t → AllActionsFit (filter p t)
fit-filter p t fit = all-filter (λ r. AllFit r.actions) p t fit

pub fit-without : (i : Identity) (t new : List Rule) → new ≡ without i t → AllActionsFit t → AllActionsFit new
fit-without i t new e fit = subst AllActionsFit (sym e) (fit-filter (λ r. not (same_identity (identity_of r) i)) t fit)

pub fit-with : (r : Rule) (t new : List Rule) → new ≡ with_rule r t → AllFit r.actions → AllActionsFit t → AllActionsFit new
fit-with r t new e own fit =
    subst AllActionsFit (sym e) (all-placed (λ s. AllFit s.actions) r (without (identity_of r) t) own (fit-filter (λ s. not (same_identity (identity_of s) (identity_of r))) t fit))

pub filter-short : (p : Rule → Bool) (t : List Rule) → length (filter p t) ≤ length t
filter-short p [] = omega arith
filter-short p (x ∷ t) = let n = filter-short p t in ⊎_elim (λ e. rw e (omega arith)) (λ e. rw e (omega arith)) (cases_Bool (p x))

pub without-short : (i : Identity) (t new : List Rule) → new ≡ without i t → length t < 2 ^ 32 → length new < 2 ^ 32
without-short i t new e lt =
    let n = filter-short (λ r. not (same_identity (identity_of r) i)) t in
    let same : length new ≡ length (without i t) = ap length e in
    omega arith

pub set-short : (t : List Rule) (n : ℕ) (r : Rule) → length t < 2 ^ 32 → length (set t n r) < 2 ^ 32
set-short t n r lt = rw length-set lt

pub insert-short : (t s new : List Rule) (n : ℕ) (r : Rule) → new ≡ insert t n r → s ≡ t → n ≤ length s → length s < 2 ^ 32 - 1 → length new < 2 ^ 32
insert-short t s new n r e f le lt =
    let size : length s ≡ length t = ap length f in
    let more : length (insert t n r) ≡ length t + 1 = length-insert t n r (omega arith) in
    let same : length new ≡ length (insert t n r) = ap length e in
    omega arith

-- the rules of a slice once the loop has come to the end
pub slice-end : (m : Matching) (t v new : List Rule) (n : ℕ) → t ≡ v → IsTable t × (length t < 2 ^ 32) × AllActionsFit t → length t ≤ n → new ++ slice m (drop n v) ≡ slice m v
    → IsTable new × (length new < 2 ^ 32) × AllActionsFit new
slice-end m t v new n e table le h =
    let none : drop n t ≡ [] = drop_all n t le in
    let part : new ++ slice m (drop n t) ≡ slice m t = subst (λ (u : List Rule). new ++ slice m (drop n u) ≡ slice m u) (sym e) h in
    let whole : new ++ [] ≡ slice m t = subst (λ (u : List Rule). new ++ slice m u ≡ slice m t) none part in
    let is : new ≡ slice m t = sym (append-nil new) ∙ whole in
    let short = filter-short (λ r. overlaps m r.matching) t in
    let same : length new ≡ length (slice m t) = ap length is in
    let few : length t < 2 ^ 32 = table.1 in
    (subst IsTable (sym is) (table-filter (λ r. overlaps m r.matching) t table.0), omega arith, subst AllActionsFit (sym is) (fit-filter (λ r. overlaps m r.matching) t table.2))
