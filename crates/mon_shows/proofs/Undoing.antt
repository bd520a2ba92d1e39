-- The table without an update, as the parts of the table around a place.
use Rattle.std.proofs.Common.{◌≡◌, ℕ, zero, suc, ◌+◌, ◌<◌, ◌≤◌, Bool, true, false, ◌||◌, cond, List, [], ◌∷◌, ◌++◌, length, take, drop, set, Some, None, Option, refl, sym, ap, ◌∙◌, arith, add-one, ⊎_elim}
use Rattle.std.proofs.lemmas.Bool.{cases_Bool, cases_lt, false≢true}
use Rattle.std.proofs.lemmas.List.{take-append-drop}
use Rattle.mon_header.specs.Matching.{IsNormal}
use Rattle.mon_header.specs.Actions.{AllFit}
use Rattle.mon_table.specs.declared.rule.Rule.{Rule}
use Rattle.mon_table.specs.declared.edit.Edit.TheVariants as edit
use Rattle.mon_table.specs.Edits.{after, undone}
use Rattle.mon_table.specs.Places.{place_of, stands_at}
use Rattle.mon_table.specs.Rules.{Identity, identity_of}
use Rattle.mon_table.specs.Tables.{IsTable, AllActionsFit, without, with_rule}
use Rattle.mon_table.proofs.Keeping.{table-with, table-without, fit-with, fit-without}
use Rattle.mon_table.proofs.Placing.{stands-past, found-set, found-remove, absent-without, absent-insert}
use Rattle.mon_shows.specs.declared.target.Target.TheVariants as target
use Rattle.mon_shows.specs.Changing.{changed}
use Rattle.mon_shows.specs.Separation.{made_unsure, without_update}

set-parts : (t : List Rule) (n : ℕ) (r : Rule) → n < length t → set t n r ≡ take n t ++ (r ∷ drop (suc n) t)
set-parts [] n r lt = absurd (omega arith)
set-parts (x ∷ t) zero r lt = refl
set-parts (x ∷ t) (suc n) r lt = ap (λ (u : List Rule). x ∷ u) (set-parts t n r (omega arith))

stands-within : (i : Identity) (t : List Rule) (n : ℕ) → stands_at i n t ≡ true → n < length t
stands-within i t n y = ⊎_elim (λ (lt : n < length t). lt) (λ (le : length t ≤ n). absurd (false≢true (sym (stands-past i t n le) ∙ y))) (cases_lt n (length t))

left-there : (i : Identity) (t : List Rule) → IsTable t → IsNormal i.matching
    → take (place_of i t) t ++ drop (cond (stands_at i (place_of i t) t) (place_of i t + 1) (place_of i t)) t ≡ without i t
left-there i t table normal = ⊎_elim
    (λ y. rw y (ap (λ (m : ℕ). take (place_of i t) t ++ drop m t) (add-one (place_of i t)) ∙ found-remove i t table.order y))
    (λ z. rw z (take-append-drop (place_of i t) t ∙ sym (absent-without i normal t table.normal table.order z)))
    (cases_Bool (stands_at i (place_of i t) t))

with-there : (r : Rule) (t : List Rule) → IsTable t → IsNormal r.matching
    → take (place_of (identity_of r) t) t ++ (r ∷ drop (cond (stands_at (identity_of r) (place_of (identity_of r) t) t) (place_of (identity_of r) t + 1) (place_of (identity_of r) t)) t) ≡ with_rule r t
with-there r t table normal =
    let n : ℕ = place_of (identity_of r) t in
    ⊎_elim
    (λ y. rw y (ap (λ (m : ℕ). take n t ++ (r ∷ drop m t)) (add-one n) ∙ (sym (set-parts t n r (stands-within (identity_of r) t n y)) ∙ found-set r t table.order y)))
    (λ z. rw z (absent-insert r t normal table.normal table.order z))
    (cases_Bool (stands_at (identity_of r) n t))

-- the parts around a place are the table without the rule of an identity
left-out : (i : Identity) (t : List Rule) (n m : ℕ) → IsTable t → IsNormal i.matching → n ≡ place_of i t → m ≡ cond (stands_at i n t) (n + 1) n
    → take n t ++ drop m t ≡ without i t
left-out i t n m table normal e f =
    ap (λ (k : ℕ). take n t ++ drop k t) f
    ∙ (ap (λ (k : ℕ). take k t ++ drop (cond (stands_at i k t) (k + 1) k) t) e ∙ left-there i t table normal)

-- with the rule between them, they are the table with the rule
counted-in : (r : Rule) (t : List Rule) (n m : ℕ) → IsTable t → IsNormal r.matching → n ≡ place_of (identity_of r) t → m ≡ cond (stands_at (identity_of r) n t) (n + 1) n
    → take n t ++ (r ∷ drop m t) ≡ with_rule r t
counted-in r t n m table normal e f =
    ap (λ (k : ℕ). take n t ++ (r ∷ drop k t)) f
    ∙ (ap (λ (k : ℕ). take k t ++ (r ∷ drop (cond (stands_at (identity_of r) k t) (k + 1) k) t)) e ∙ with-there r t table normal)

-- they are the table changed, which is in order and whose actions fit
pub changed-in : (comes : Bool) (r : Rule) (t : List Rule) (n m : ℕ) → IsTable t → IsNormal r.matching → n ≡ place_of (identity_of r) t → m ≡ cond (stands_at (identity_of r) n t) (n + 1) n
    → take n t ++ (cond comes (r ∷ []) [] ++ drop m t) ≡ changed comes r t
changed-in true r t n m table normal e f = counted-in r t n m table normal e f
changed-in false r t n m table normal e f = left-out (identity_of r) t n m table normal e f

pub table-changed : (comes : Bool) (r : Rule) (t : List Rule) → IsNormal r.matching → IsTable t → IsTable (changed comes r t)
table-changed true r t normal table = table-with r t normal table
table-changed false r t normal table = table-without (identity_of r) t table

pub fit-changed : (comes : Bool) (r : Rule) (t new : List Rule) → new ≡ changed comes r t → AllFit r.actions → AllActionsFit t → AllActionsFit new
fit-changed true r t new is own fit = fit-with r t new is own fit
fit-changed false r t new is own fit = fit-without (identity_of r) t new is fit

-- a put taken back
or-sure : (a b : Bool) → b ≡ false → (a || b) ≡ a
or-sure true b e = refl
or-sure false b e = e

pub put-undone : (t : List Rule) (r : Rule) (old : Option Rule) → r.unsure ≡ false → without_update t (target.Put r old) ≡ undone t (edit.Put r old)
put-undone t r None sure = refl
put-undone t r (Some old) sure = ap (λ (b : Bool). after t (edit.Put (made_unsure b old) (Some r))) (or-sure old.unsure r.unsure sure)
