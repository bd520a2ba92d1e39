-- Where an update is put or watched, its own rule is the only winner that can show it.
use Rattle.std.proofs.Common.{◌≡◌, ℕ, suc, true, false, not, ◌||◌, List, [], ◌∷◌, Some, None, refl, sym, ap, subst, ◌∙◌, inl, inr, ◌⊎◌, ⊎_elim}
use Rattle.std.specs.Prelude.{nat_le}
use Rattle.std.specs.List.{slice_get, list_any, AllByRecursion}
use Rattle.std.proofs.lemmas.Bool.{cases_Bool, and_parts, and_from, or_left, or_right, not-true, not_from_false, false≢true, both_ways}
use Rattle.mon_list.specs.Has.{Has}
use Rattle.mon_header.specs.declared.header.Header.{Header}
use Rattle.mon_header.specs.Matching.{IsNormal, matches}
use Rattle.mon_table.specs.declared.rule.Rule.{Rule}
use Rattle.mon_table.specs.declared.edit.Edit.{Edit}
use Rattle.mon_table.specs.Rules.{Identity, identity_of, rank, same_identity, comes_before}
use Rattle.mon_table.specs.Tables.{InOrder, IsTable, placed, without}
use Rattle.mon_table.specs.Edits.{edited, after}
use Rattle.mon_table.specs.Laws.{IsPut, IsLeft}
use Rattle.mon_table.specs.Places.{place_of}
use Rattle.mon_table.specs.Winners.{is_highest, wins, winners, may_miss}
use Rattle.mon_table.specs.declared.edit.Edit.TheVariants as edit
use Rattle.mon_table.proofs.Identities.{same-is, same-self, comes_before-self, before-once}
use Rattle.mon_table.proofs.Listing.{has-all, has-list_all, list_all-has}
use Rattle.mon_table.proofs.Members.{has-filter, filter-has, after-members, members-after, after-table, one-rule, one-list}
use Rattle.mon_outcome.specs.declared.emission.Emission.{Emission}
use Rattle.mon_outcome.specs.Emitting.{must, may}
use Rattle.mon_shows.specs.declared.target.Target.{Target}
use Rattle.mon_shows.specs.Separation.{made_unsure, taken_back, with_update, without_update, is_certain, must_show, may_show}
use Rattle.mon_shows.proofs.Showing.{must-may}
use Rattle.mon_job.specs.Jobs.{updated, ReplacesItsOwn}
use Rattle.mon_job.proofs.Separating.{back-identity, put-edited, unmatched-shows}
use Rattle.mon_encode.proofs.Winners.{miss-back}

-- a rule of a table stands at its place
pub stands-there : (t : List Rule) (r : Rule) → InOrder t → Has t r → slice_get t (place_of (identity_of r) t) ≡ Some r
stands-there [] r o i = absurd i
stands-there (x ∷ t) r o i = ⊎_elim
    (λ (e : r ≡ x).
    let here : comes_before (identity_of x) (identity_of r) ≡ false = ap (λ (y : Rule). comes_before (identity_of x) (identity_of y)) e ∙ comes_before-self (identity_of x) in
    rw here (ap Some (sym e)))
    (λ (j : Has t r).
    let before : comes_before (identity_of x) (identity_of r) ≡ true = has-all (λ s. comes_before (identity_of x) (identity_of s) ≡ true) t r o.0 j in
    rw before (stands-there t r o.1 j))
    i

any-has : (ws : List Rule) (h : Header) (e : Emission) (r : Rule) → Has ws r → may r.actions h e ≡ true → list_any (λ s. may s.actions h e) ws ≡ true
any-has [] h e r i m = absurd i
any-has (s ∷ ws) h e r i m = ⊎_elim
    (λ (same : r ≡ s). or_left _ _ (subst (λ (x : Rule). may x.actions h e ≡ true) same m))
    (λ (j : Has ws r). or_right _ _ (any-has ws h e r j m))
    i

-- a winner that may show an emission makes it possible
pub winner-possible : (t : List Rule) (h : Header) (e : Emission) (r : Rule) → Has (winners t h) r → may r.actions h e ≡ true → may_show t h e ≡ true
winner-possible t h e r i m = or_left _ _ (any-has (winners t h) h e r i m)

-- the lone winner of a table
lone-has : (t : List Rule) (h : Header) (r : Rule) → winners t h ≡ r ∷ [] → Has t r × (wins t h r ≡ true)
lone-has t h r e = has-filter (wins t h) t r (subst (λ (ws : List Rule). Has ws r) (sym e) (inl refl))

module _ (t : List Rule) (x : Edit) (h : Header) (w : Rule) (own : identity_of (edited x) ≡ identity_of w) (there : Has t w) (m : matches w.matching h ≡ true) (sure : w.unsure ≡ false) where
  -- a rule that the edit brings is no higher than the one of its identity
  put-low : (r s : Rule) → is_highest t h r ≡ true → IsPut x s ⊎ IsLeft t x s → matches s.matching h ≡ true → (s.unsure || nat_le (rank s) (rank r)) ≡ true
  unfolding is_highest
  put-low r s high p n = ⊎_elim
      (λ (put : IsPut x s).
      let same : rank s ≡ rank w = ap (λ (i : Identity). i.rank) (ap identity_of (put-edited x s put) ∙ own) in
      let low : (not (matches w.matching h) || (w.unsure || nat_le (rank w) (rank r))) ≡ true = has-list_all (λ s. not (matches s.matching h) || (s.unsure || nat_le (rank s) (rank r))) t w high there in
      let le : nat_le (rank w) (rank r) ≡ true = rw (m, sure) at low in
      or_right _ _ (ap (λ (n : ℕ). nat_le n (rank r)) same ∙ le))
      (λ (left : IsLeft t x s).
      let low : (not (matches s.matching h) || (s.unsure || nat_le (rank s) (rank r))) ≡ true = has-list_all (λ s. not (matches s.matching h) || (s.unsure || nat_le (rank s) (rank r))) t s high left.0 in
      rw n at low)
      p

  -- another winner wins after the edit too
  still-wins : (r : Rule) → Has t r → wins t h r ≡ true → same_identity (identity_of r) (identity_of (edited x)) ≡ false → Has (winners (after t x) h) r
  unfolding is_highest
  still-wins r i y other =
      let p = and_parts (matches r.matching h) _ y in
      filter-has (wins (after t x) h) (after t x) r (members-after t x r (inr (i, other)))
      (and_from _ _ p.0 (list_all-has (λ s. not (matches s.matching h) || (s.unsure || nat_le (rank s) (rank r))) (after t x)
      (λ s j. ⊎_elim
      (λ n. or_right _ _ (put-low r s p.1 (after-members t x s j) n))
      (λ n. or_left _ _ (not_from_false _ n))
      (cases_Bool (matches s.matching h)))))

  lone-own : (e : Emission) (r : Rule) → InOrder t → winners t h ≡ r ∷ [] → must r.actions h e ≡ true → may_show (after t x) h e ≡ false → r ≡ w
  lone-own e r o k y f =
      let i = lone-has t h r k in
      ⊎_elim
      (λ (same : same_identity (identity_of r) (identity_of (edited x)) ≡ true).
      one-rule t r w o i.0 there (subst (λ (j : Identity). same_identity (identity_of r) j ≡ true) own same))
      (λ (other : same_identity (identity_of r) (identity_of (edited x)) ≡ false).
      absurd (both_ways _ f (winner-possible (after t x) h e r (still-wins r i.0 i.1 other) (must-may r.actions h e y))))
      (cases_Bool (same_identity (identity_of r) (identity_of (edited x))))

  only-own : (e : Emission) (ws : List Rule) → InOrder t → winners t h ≡ ws → is_certain ws (may_miss t h) h e ≡ true → may_show (after t x) h e ≡ false → ws ≡ w ∷ []
  only-own e [] o k y f =
      absurd (let n : not (matches w.matching h) ≡ true = has-list_all (λ s. not (matches s.matching h)) t w (miss-back h t o k) there in both_ways _ (not-true _ n) m)
  only-own e (r ∷ []) o k y f = ap (λ (s : Rule). s ∷ []) (lone-own e r o k (and_parts (not (may_miss t h)) _ y).1 f)
  only-own e (r ∷ s ∷ rest) o k y f = absurd (false≢true y)

-- the target's rule as it stands in the table with the update for sure
abbrev pub own_rule : Target → Rule
own_rule x = made_unsure false (updated x)

-- an edit of the same identity later leaves the same
same-members : (t : List Rule) (w : Rule) (y : Edit) (r : Rule) → identity_of (edited y) ≡ identity_of w → Has (after (after t (edit.Put w None)) y) r → Has (after t y) r
same-members t w y r own i = members-after t y r (⊎_elim
    (λ p. inl p)
    (λ l. inr (
      ⊎_elim
          (λ (p : r ≡ w). absurd (false≢true (sym l.1 ∙ subst (λ (j : Identity). same_identity (identity_of r) j ≡ true) (ap identity_of p ∙ sym own) (same-self (identity_of r)))))
          (λ k. k.0)
          (after-members t (edit.Put w None) r l.0),
      l.1,
    ))
    (after-members (after t (edit.Put w None)) y r i))

members-same : (t : List Rule) (w : Rule) (y : Edit) (r : Rule) → identity_of (edited y) ≡ identity_of w → Has (after t y) r → Has (after (after t (edit.Put w None)) y) r
members-same t w y r own i = members-after (after t (edit.Put w None)) y r (⊎_elim
    (λ p. inl p)
    (λ l. inr (members-after t (edit.Put w None) r (inr (l.0, subst (λ (j : Identity). same_identity (identity_of r) j ≡ false) own l.1)), l.1))
    (after-members t y r i))

pub put-twice : (t : List Rule) (w : Rule) (y : Edit) → IsTable t → IsNormal w.matching → IsNormal (edited y).matching → identity_of (edited y) ≡ identity_of w
    → after (after t (edit.Put w None)) y ≡ after t y
put-twice t w y table n k own =
    one-list (after (after t (edit.Put w None)) y) (after t y)
    (after-table (after t (edit.Put w None)) y (after-table t (edit.Put w None) table n) k).order (after-table t y table k).order
    (λ r i. same-members t w y r own i) (λ r i. members-same t w y r own i)

-- so it is of any put or watch: its rule is the only winner that can show it
pub own-winner : (t : List Rule) (x : Target) (h : Header) (e : Emission) → IsTable t → IsNormal (updated x).matching → IsNormal (edited (taken_back x)).matching → ReplacesItsOwn x
    → with_update t x ≡ after t (edit.Put (own_rule x) None) → must_show (with_update t x) h e ≡ true → may_show (without_update t x) h e ≡ false
    → winners (with_update t x) h ≡ own_rule x ∷ []
own-winner t x h e table n k own is y f = ⊎_elim
    (λ (m : matches (updated x).matching h ≡ true).
    let p = after t (edit.Put (own_rule x) None) in
    let same = put-twice t (own_rule x) (taken_back x) table n k (back-identity x own) in
    ap (λ (u : List Rule). winners u h) is
    ∙ only-own p (taken_back x) h (own_rule x) (back-identity x own) (members-after t (edit.Put (own_rule x) None) (own_rule x) (inl refl)) m refl e (winners p h)
    (after-table t (edit.Put (own_rule x) None) table n).order refl
    (subst (λ (u : List Rule). must_show u h e ≡ true) is y)
    (ap (λ (u : List Rule). may_show u h e) same ∙ f))
    (λ (m : matches (updated x).matching h ≡ false). absurd (both_ways _ f (unmatched-shows t x h e own m y)))
    (cases_Bool (matches (updated x).matching h))

-- the places of the table with the update are those of the job's table
none-before : (s : Rule) (i : Identity) (t : List Rule) → identity_of s ≡ i → AllByRecursion (λ x. comes_before (identity_of s) (identity_of x) ≡ true) t → place_of i t ≡ 0
none-before s i [] e a = refl
none-before s i (x ∷ t) e a =
    let behind : comes_before (identity_of x) i ≡ false = subst (λ (j : Identity). comes_before (identity_of x) j ≡ false) e (before-once (identity_of s) (identity_of x) a.0) in
    rw behind refl

pub place-kept : (r : Rule) (t : List Rule) → InOrder t → place_of (identity_of r) (placed r (without (identity_of r) t)) ≡ place_of (identity_of r) t
place-kept r [] o = rw (comes_before-self (identity_of r)) refl
place-kept r (s ∷ t) o = ⊎_elim
    (λ (same : same_identity (identity_of s) (identity_of r) ≡ true).
    let e = same-is (identity_of s) (identity_of r) same in
    let here : comes_before (identity_of s) (identity_of r) ≡ false = subst (λ (j : Identity). comes_before (identity_of s) j ≡ false) e (comes_before-self (identity_of s)) in
    rw (same, here) (place-kept r t o.1 ∙ none-before s (identity_of r) t e o.0))
    (λ (other : same_identity (identity_of s) (identity_of r) ≡ false). ⊎_elim
    (λ (y : comes_before (identity_of s) (identity_of r) ≡ true).
    rw (other, y) (rw y (ap suc (place-kept r t o.1))))
    (λ (z : comes_before (identity_of s) (identity_of r) ≡ false).
    rw (other, z) (rw (comes_before-self (identity_of r)) refl))
    (cases_Bool (comes_before (identity_of s) (identity_of r))))
    (cases_Bool (same_identity (identity_of s) (identity_of r)))

pub present-place : (t : List Rule) (w : Rule) → InOrder t → place_of (identity_of w) (after t (edit.Put w None)) ≡ place_of (identity_of w) t
unfolding after
present-place t w o = place-kept w t o

pub present-there : (t : List Rule) (w : Rule) → IsTable t → IsNormal w.matching → slice_get (after t (edit.Put w None)) (place_of (identity_of w) t) ≡ Some w
present-there t w table n =
    ap (slice_get (after t (edit.Put w None))) (sym (present-place t w table.order))
    ∙ stands-there (after t (edit.Put w None)) w (after-table t (edit.Put w None) table n).order (members-after t (edit.Put w None) w (inl refl))
