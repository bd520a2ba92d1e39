-- The rules that overlap a match say of the headers that it takes all that the table says.
use Rattle.std.proofs.Common.{◌≡◌, Bool, true, false, not, cond, ◌||◌, List, [], ◌∷◌, refl, sym, ap, ◌∙◌, inl, inr, ⊎_elim}
use Rattle.std.specs.Prelude.{nat_le}
use Rattle.std.specs.List.{list_any}
use Rattle.std.proofs.lemmas.Bool.{and_parts, and_from, and_right, or_left, cases_Bool, not_from_false}
use Rattle.mon_list.specs.Has.{Has}
use Rattle.mon_header.specs.declared.header.Header.{Header}
use Rattle.mon_header.specs.Matching.{Matching, IsNormal, matches, overlaps}
use Rattle.mon_header.proofs.Sharing.{both-taken}
use Rattle.mon_table.specs.declared.rule.Rule.{Rule}
use Rattle.mon_table.specs.declared.edit.Edit.{Edit}
use Rattle.mon_table.specs.Edits.{edited, after}
use Rattle.mon_table.specs.Rules.{rank}
use Rattle.mon_table.specs.Tables.{InOrder, IsTable, slice, ties, tied}
use Rattle.mon_table.specs.Winners.{is_highest, wins, winners, may_miss}
use Rattle.std.specs.Cmp.{both_ways}
use Rattle.mon_table.proofs.Keeping.{order-filter, table-filter}
use Rattle.mon_table.proofs.Listing.{has-list_all, list_all-has}
use Rattle.mon_table.proofs.Members.{has-filter, filter-has, one-list, after-members, members-after, after-table}

-- both tables have the same rules that match the header
pub record SameAt (h : Header) (t u : List Rule) : Type 0 where
  pub there : (r : Rule) → matches r.matching h ≡ true → Has t r → Has u r
  pub back : (r : Rule) → matches r.matching h ≡ true → Has u r → Has t r

pub same-turned : (h : Header) (t u : List Rule) → SameAt h t u → SameAt h u t
same-turned h t u s = record { there = s.back; back = s.there }

pub winners-there : (h : Header) (t u : List Rule) → SameAt h t u → (r : Rule) → Has (winners t h) r → Has (winners u h) r
unfolding is_highest
winners-there h t u same r i =
    let f = has-filter (wins t h) t r i in
    let g = and_parts (matches r.matching h) _ f.1 in
    filter-has (wins u h) u r (same.there r g.0 f.0)
    (and_from _ _ g.0 (list_all-has (λ s. not (matches s.matching h) || (s.unsure || nat_le (rank s) (rank r))) u
    (λ s j. ⊎_elim
    (λ m. has-list_all (λ s. not (matches s.matching h) || (s.unsure || nat_le (rank s) (rank r))) t s g.1 (same.back s m j))
    (λ n. or_left _ _ (not_from_false _ n))
    (cases_Bool (matches s.matching h)))))

-- so they have the same winners, in the same order
pub winners-same : (h : Header) (t u : List Rule) → InOrder t → InOrder u → SameAt h t u → winners t h ≡ winners u h
winners-same h t u a b same =
    one-list (winners t h) (winners u h) (order-filter (wins t h) t a) (order-filter (wins u h) u b) (winners-there h t u same) (winners-there h u t (same-turned h t u same))

miss-there : (h : Header) (t u : List Rule) → SameAt h t u → may_miss t h ≡ true → may_miss u h ≡ true
miss-there h t u same e =
    list_all-has (λ s. not (matches s.matching h) || s.unsure) u
    (λ s j. ⊎_elim
    (λ m. has-list_all (λ s. not (matches s.matching h) || s.unsure) t s e (same.back s m j))
    (λ n. or_left _ _ (not_from_false _ n))
    (cases_Bool (matches s.matching h)))

-- and both may miss, or neither
pub miss-same : (h : Header) (t u : List Rule) → SameAt h t u → may_miss t h ≡ may_miss u h
miss-same h t u same = both_ways (may_miss t h) (may_miss u h) (miss-there h t u same) (miss-there h u t (same-turned h t u same))

pub slice-same : (h : Header) (m : Matching) (t : List Rule) → matches m h ≡ true → SameAt h (slice m t) t
slice-same h m t y = record {
  there = λ r e i. (has-filter (λ s. overlaps m s.matching) t r i).0;
  back = λ r e i. filter-has (λ s. overlaps m s.matching) t r i (both-taken m r.matching h y e);
}

pub slice-winners : (t : List Rule) (m : Matching) (h : Header) → InOrder t → matches m h ≡ true → winners (slice m t) h ≡ winners t h
slice-winners t m h o y = winners-same h (slice m t) t (order-filter (λ r. overlaps m r.matching) t o) o (slice-same h m t y)

pub slice-misses : (t : List Rule) (m : Matching) (h : Header) → matches m h ≡ true → may_miss (slice m t) h ≡ may_miss t h
slice-misses t m h y = miss-same h (slice m t) t (slice-same h m t y)

-- and still do after one edit of both
after-there : (h : Header) (t u : List Rule) (x : Edit) → SameAt h t u → (r : Rule) → matches r.matching h ≡ true → Has (after t x) r → Has (after u x) r
after-there h t u x same r m i = members-after u x r (⊎_elim (λ p. inl p) (λ l. inr (same.there r m l.0, l.1)) (after-members t x r i))

after-same : (h : Header) (t u : List Rule) (x : Edit) → SameAt h t u → SameAt h (after t x) (after u x)
after-same h t u x same = record { there = after-there h t u x same; back = after-there h u t x (same-turned h t u same) }

pub slice-edited : (t : List Rule) (m : Matching) (h : Header) (x : Edit) → IsTable t → IsNormal (edited x).matching → matches m h ≡ true
    → winners (after (slice m t) x) h ≡ winners (after t x) h
slice-edited t m h x table n y =
    let part : IsTable (slice m t) = table-filter (λ r. overlaps m r.matching) t table in
    let one = after-table (slice m t) x part n in
    let other = after-table t x table n in
    winners-same h (after (slice m t) x) (after t x) one.order other.order (after-same h (slice m t) t x (slice-same h m t y))

pub slice-misses-edited : (t : List Rule) (m : Matching) (h : Header) (x : Edit) → matches m h ≡ true → may_miss (after (slice m t) x) h ≡ may_miss (after t x) h
slice-misses-edited t m h x y = miss-same h (after (slice m t) x) (after t x) (after-same h (slice m t) t x (slice-same h m t y))

no-tie : (r s : Rule) → overlaps r.matching s.matching ≡ false → ties r s ≡ false
unfolding ties
no-tie r s e = and_right _ _ (and_right _ _ e)

pub slice-tied : (t : List Rule) (r : Rule) → tied (slice r.matching t) r ≡ tied t r
slice-tied [] r = refl
slice-tied (s ∷ t) r =
    elim (overlaps r.matching s.matching) as (λ b. overlaps r.matching s.matching ≡ b → list_any (ties r) (cond b (s ∷ slice r.matching t) (slice r.matching t)) ≡ (ties r s || list_any (ties r) t)) [
      | true ↦ λ e. ap (λ (b : Bool). ties r s || b) (slice-tied t r)
      | false ↦ λ e. slice-tied t r ∙ ap (λ (b : Bool). b || list_any (ties r) t) (sym (no-tie r s e))
    ] refl

-- the law
pub ruleset slicing = (slice-winners, slice-edited, slice-misses, slice-misses-edited, slice-tied)
