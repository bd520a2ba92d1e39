-- The slice of the table with the catching rules is that of the entries with those that overlap.
use Rattle.std.proofs.Common.{◌≡◌, ℕ, zero, suc, ◌+◌, ◌<◌, length, drop, arith, true, false, cond, List, [], ◌∷◌, None, refl, sym, ap, ◌∙◌, inl, inr, ⊎_elim}
use Rattle.std.specs.Prelude.{slice_index_or}
use Rattle.std.proofs.lemmas.Bool.{false≢true}
use Rattle.mon_header.specs.Matching.{Matching, IsNormal, overlaps}
use Rattle.mon_table.specs.declared.rule.Rule.{Rule}
use Rattle.mon_table.specs.declared.edit.Edit.TheVariants.{Put}
use Rattle.mon_table.specs.Rules.{Identity, identity_of, same_identity}
use Rattle.mon_table.specs.Tables.{IsTable, AllNormal, with_rule, slice}
use Rattle.mon_table.specs.Edits.{after}
use Rattle.mon_table.proofs.Identities.{same-is}
use Rattle.mon_table.proofs.Keeping.{order-filter, table-filter, table-with}
use Rattle.mon_table.proofs.Members.{has-filter, filter-has, after-members, members-after, one-list}
use Rattle.mon_legal.specs.Messages.{put_all}

-- a rule that overlaps is put into the slice
put-in : (m : Matching) (r : Rule) (t : List Rule) → IsNormal r.matching → IsTable t → overlaps m r.matching ≡ true
    → slice m (with_rule r t) ≡ with_rule r (slice m t)
unfolding after
put-in m r t n table o =
    let part : IsTable (slice m t) = table-filter (λ s. overlaps m s.matching) t table in
    one-list (slice m (with_rule r t)) (with_rule r (slice m t))
    (order-filter (λ s. overlaps m s.matching) (with_rule r t) (table-with r t n table).order)
    (table-with r (slice m t) n part).order
    (λ x h. let f = has-filter (λ s. overlaps m s.matching) (with_rule r t) x h in
    members-after (slice m t) (Put r None) x
    (⊎_elim (λ (e : x ≡ r). inl e) (λ l. inr (filter-has (λ s. overlaps m s.matching) t x l.0 f.1, l.1)) (after-members t (Put r None) x f.0)))
    (λ x h. ⊎_elim
    (λ (e : x ≡ r). filter-has (λ s. overlaps m s.matching) (with_rule r t) x (members-after t (Put r None) x (inl e)) (ap (λ (s : Rule). overlaps m s.matching) e ∙ o))
    (λ l. let f = has-filter (λ s. overlaps m s.matching) t x l.0 in
    filter-has (λ s. overlaps m s.matching) (with_rule r t) x (members-after t (Put r None) x (inr (f.0, l.1))) f.1)
    (after-members (slice m t) (Put r None) x h))

-- one that does not leaves it as it is
other-match : (m : Matching) (r x : Rule) → overlaps m r.matching ≡ false → overlaps m x.matching ≡ true → same_identity (identity_of x) (identity_of r) ≡ false
other-match m r x o y =
    elim (same_identity (identity_of x) (identity_of r)) as (λ b. same_identity (identity_of x) (identity_of r) ≡ b → b ≡ false) [
      | true ↦ λ e. absurd (false≢true (sym o ∙ (sym (ap (λ (i : Identity). overlaps m i.matching) (same-is (identity_of x) (identity_of r) e)) ∙ y)))
      | false ↦ λ e. refl
    ] refl

put-beside : (m : Matching) (r : Rule) (t : List Rule) → IsNormal r.matching → IsTable t → overlaps m r.matching ≡ false
    → slice m (with_rule r t) ≡ slice m t
unfolding after
put-beside m r t n table o =
    one-list (slice m (with_rule r t)) (slice m t)
    (order-filter (λ s. overlaps m s.matching) (with_rule r t) (table-with r t n table).order)
    (order-filter (λ s. overlaps m s.matching) t table.order)
    (λ x h. let f = has-filter (λ s. overlaps m s.matching) (with_rule r t) x h in
    ⊎_elim
    (λ (e : x ≡ r). absurd (false≢true (sym o ∙ (sym (ap (λ (s : Rule). overlaps m s.matching) e) ∙ f.1))))
    (λ l. filter-has (λ s. overlaps m s.matching) t x l.0 f.1)
    (after-members t (Put r None) x f.0))
    (λ x h. let f = has-filter (λ s. overlaps m s.matching) t x h in
    filter-has (λ s. overlaps m s.matching) (with_rule r t) x (members-after t (Put r None) x (inr (f.0, other-match m r x o f.1))) f.1)

pub slice_put : (m : Matching) (rs t : List Rule) → AllNormal rs → IsTable t → slice m (put_all rs t) ≡ put_all (slice m rs) (slice m t)
slice_put m [] t a table = refl
slice_put m (r ∷ rs) t a table =
    slice_put m rs (with_rule r t) a.1 (table-with r t a.0 table)
    ∙ elim (overlaps m r.matching) as (λ b. overlaps m r.matching ≡ b
    → put_all (slice m rs) (slice m (with_rule r t)) ≡ put_all (cond b (r ∷ slice m rs) (slice m rs)) (slice m t)) [
      | true ↦ λ e. ap (put_all (slice m rs)) (put-in m r t a.0 table e)
      | false ↦ λ e. ap (put_all (slice m rs)) (put-beside m r t a.0 table e)
    ] refl

-- rule by rule
put-on : (m : Matching) (rs : List Rule) (i : ℕ) (r : Rule) (part new whole : List Rule) → put_all (slice m (drop i rs)) part ≡ whole → i < length rs
    → r ≡ slice_index_or rs i r → new ≡ put_all (slice m (r ∷ [])) part → put_all (slice m (drop (suc i) rs)) new ≡ whole
put-on m [] i r part new whole h lt is e = absurd (omega (arith, lt))
put-on m (x ∷ rs) zero r part new whole h lt is e =
    ap (put_all (slice m rs)) (e ∙ ap (λ (y : Rule). put_all (slice m (y ∷ [])) part) is)
    ∙ (elim (overlaps m x.matching) as (λ b. put_all (slice m rs) (put_all (cond b (x ∷ []) []) part) ≡ put_all (cond b (x ∷ slice m rs) (slice m rs)) part) [
      | true ↦ refl
      | false ↦ refl
    ] ∙ h)
put-on m (x ∷ rs) (suc i) r part new whole h lt is e =
    let less : i < length rs = omega (arith, lt) in
    put-on m rs i r part new whole h less is e

pub put_next : (m : Matching) (rs : List Rule) (i : ℕ) (r : Rule) (part new whole : List Rule) → put_all (slice m (drop i rs)) part ≡ whole → i < length rs
    → r ≡ slice_index_or rs i r → new ≡ put_all (slice m (r ∷ [])) part → put_all (slice m (drop (i + 1) rs)) new ≡ whole
put_next m rs i r part new whole h lt is e =
    let more : i + 1 ≡ suc i = omega arith in
    rw more (put-on m rs i r part new whole h lt is e)
