-- The rules that overlap the match of the target's rule separate as the whole table does.
use Rattle.std.proofs.Common.{◌≡◌, ◌↔◌, Bool, true, false, not, ◌&&◌, ◌||◌, List, Some, None, refl, sym, ap, ap₂, subst, ◌∙◌, inr, ⊎_elim}
use Rattle.std.proofs.lemmas.Bool.{cases_Bool, false≢true, false_from_ne_true}
use Rattle.std.specs.List.{list_any}
use Rattle.mon_header.specs.declared.header.Header.{Header}
use Rattle.mon_header.specs.Matching.{Matching, IsNormal, matches}
use Rattle.mon_table.specs.declared.rule.Rule.{Rule}
use Rattle.mon_table.specs.declared.edit.Edit.{Edit}
use Rattle.mon_table.specs.declared.edit.Edit.TheVariants as edit
use Rattle.mon_table.specs.Rules.{Identity, identity_of, same_identity}
use Rattle.mon_table.specs.Tables.{IsTable, slice}
use Rattle.mon_table.specs.Edits.{edited, after}
use Rattle.mon_table.specs.Laws.{IsPut}
use Rattle.mon_table.proofs.Identities.{same-is}
use Rattle.mon_table.proofs.Members.{after-members, members-after}
use Rattle.mon_table.proofs.Slicing.{SameAt, slice-winners, slice-edited, slice-misses, slice-misses-edited}
use Rattle.mon_outcome.specs.declared.emission.Emission.{Emission}
use Rattle.mon_outcome.specs.Emitting.{may}
use Rattle.mon_shows.specs.declared.target.Target.{Target}
use Rattle.mon_shows.specs.declared.target.Target.TheVariants.{Put, Cut, Watch}
use Rattle.mon_shows.specs.Views.{Viewing, craftable, caught}
use Rattle.mon_shows.specs.Separation.{made_unsure, taken_back, with_update, without_update, is_miss, is_certain, must_show, may_show, separates}
use Rattle.mon_shows.specs.Under.{Under}
use Rattle.mon_shows.proofs.Showing.{must-may-show, under-shows, never}
use Rattle.mon_job.specs.Jobs.{Task, updated, sliced, ReplacesItsOwn}
use Rattle.mon_job.specs.Verdicts.{IsTrueOf}
use Rattle.mon_job.specs.declared.verdict.Says.{Says}
use Rattle.mon_job.specs.declared.verdict.Says.TheVariants.{Probe, Indistinguishable, Skipped, NoMemory}

-- what takes an update back edits a rule of the update's identity
pub back-identity : (x : Target) → ReplacesItsOwn x → identity_of (edited (taken_back x)) ≡ identity_of (updated x)
back-identity (Put r None) own = refl
back-identity (Put r (Some old)) own = own
back-identity (Cut r) own = refl
back-identity (Watch r) own = refl

pub back-match : (x : Target) → ReplacesItsOwn x → (edited (taken_back x)).matching ≡ (updated x).matching
back-match x own = ap (λ (i : Identity). i.matching) (back-identity x own)

-- a header that the match takes
with-taken : (t : List Rule) (x : Target) (h : Header) (e : Emission) → IsTable t → IsNormal (updated x).matching → matches (updated x).matching h ≡ true
    → must_show (with_update (slice (updated x).matching t) x) h e ≡ must_show (with_update t x) h e
with-taken t (Put r old) h e table n y =
    ap₂ (λ (ws : List Rule) (b : Bool). is_certain ws b h e)
    (slice-edited t r.matching h (edit.Put (made_unsure false r) None) table n y) (slice-misses-edited t r.matching h (edit.Put (made_unsure false r) None) y)
with-taken t (Cut r) h e table n y =
    ap₂ (λ (ws : List Rule) (b : Bool). is_certain ws b h e) (slice-winners t r.matching h table.order y) (slice-misses t r.matching h y)
with-taken t (Watch r) h e table n y =
    ap₂ (λ (ws : List Rule) (b : Bool). is_certain ws b h e)
    (slice-edited t r.matching h (edit.Put (made_unsure false r) None) table n y) (slice-misses-edited t r.matching h (edit.Put (made_unsure false r) None) y)

separates-taken : (v : Viewing) (t : List Rule) (x : Target) (h : Header) (e : Emission) → IsTable t → IsNormal (updated x).matching → ReplacesItsOwn x
    → matches (updated x).matching h ≡ true → separates v (slice (updated x).matching t) x h e ≡ separates v t x h e
unfolding separates
separates-taken v t x h e table n own y =
    let m = (updated x).matching in
    let normal : IsNormal (edited (taken_back x)).matching = subst IsNormal (sym (back-match x own)) n in
    let without : may_show (without_update (slice m t) x) h e ≡ may_show (without_update t x) h e =
    ap₂ (λ (ws : List Rule) (b : Bool). list_any (λ r. may r.actions h e) ws || (b && is_miss h e))
    (slice-edited t m h (taken_back x) table normal y) (slice-misses-edited t m h (taken_back x) y) in
    ap₂ (λ (a b : Bool). craftable v h && (a && (caught v e && not b))) (with-taken t x h e table n y) without

-- an edit changes nothing for a header that its rule doesn't match
pub put-edited : (y : Edit) (r : Rule) → IsPut y r → r ≡ edited y
put-edited (edit.Put s old) r p = p
put-edited (edit.Cut s) r p = absurd p

not-put : (y : Edit) (h : Header) (r : Rule) → matches (edited y).matching h ≡ false → matches r.matching h ≡ true → IsPut y r → ⊥
not-put y h r n m p = false≢true (sym n ∙ subst (λ (s : Rule). matches s.matching h ≡ true) (put-edited y r p) m)

other-rule : (y : Edit) (h : Header) (r : Rule) → matches (edited y).matching h ≡ false → matches r.matching h ≡ true → same_identity (identity_of r) (identity_of (edited y)) ≡ false
other-rule y h r n m = false_from_ne_true _ (λ s. false≢true (sym n ∙ subst (λ (i : Identity). matches i.matching h ≡ true) (same-is (identity_of r) (identity_of (edited y)) s) m))

pub edited-elsewhere : (t : List Rule) (y : Edit) (h : Header) → matches (edited y).matching h ≡ false → SameAt h (after t y) t
edited-elsewhere t y h n = record {
  there = λ r m i. ⊎_elim (λ p. absurd (not-put y h r n m p)) (λ l. l.0) (after-members t y r i);
  back = λ r m i. members-after t y r (inr (i, other-rule y h r n m));
}

pub with-elsewhere : (t : List Rule) (x : Target) (h : Header) → matches (updated x).matching h ≡ false → SameAt h (with_update t x) t
with-elsewhere t (Put r old) h n = edited-elsewhere t (edit.Put (made_unsure false r) None) h n
with-elsewhere t (Cut r) h n = record { there = λ r m i. i; back = λ r m i. i }
with-elsewhere t (Watch r) h n = edited-elsewhere t (edit.Put (made_unsure false r) None) h n

pub without-elsewhere : (t : List Rule) (x : Target) (h : Header) → ReplacesItsOwn x → matches (updated x).matching h ≡ false → SameAt h (without_update t x) t
without-elsewhere t x h own n = edited-elsewhere t (taken_back x) h (subst (λ (w : Matching). matches w h ≡ false) (sym (back-match x own)) n)

-- two tables that agree with a third for a header
pub both-under : (h : Header) (t a b : List Rule) → SameAt h a t → SameAt h b t → Under h a b
both-under h t a b p q = record {
  like = λ r m i. record { like = r; has = q.back r m (p.there r m i); identity = refl; actions = refl };
  sure = λ s m sure j. record { sure = s; has = p.back s m (q.there s m j); is_sure = sure; identity = refl };
}

-- so nothing separates for one
pub unmatched-shows : (t : List Rule) (x : Target) (h : Header) (e : Emission) → ReplacesItsOwn x → matches (updated x).matching h ≡ false
    → must_show (with_update t x) h e ≡ true → may_show (without_update t x) h e ≡ true
unmatched-shows t x h e own m y =
    under-shows h (with_update t x) (without_update t x) e
    (both-under h t (with_update t x) (without_update t x) (with-elsewhere t x h m) (without-elsewhere t x h own m))
    (must-may-show (with_update t x) h e y)

separates-never : (v : Viewing) (t : List Rule) (x : Target) (h : Header) (e : Emission) → ReplacesItsOwn x
    → matches (updated x).matching h ≡ false → separates v t x h e ≡ false
unfolding separates
separates-never v t x h e own m =
    never (craftable v h) (must_show (with_update t x) h e) (caught v e) (may_show (without_update t x) h e) (unmatched-shows t x h e own m)

pub slice-separates : (v : Viewing) (t : List Rule) (x : Target) (h : Header) (e : Emission) → IsTable t → IsNormal (updated x).matching → ReplacesItsOwn x
    → separates v (slice (updated x).matching t) x h e ≡ separates v t x h e
slice-separates v t x h e table n own = ⊎_elim
    (λ y. separates-taken v t x h e table n own y)
    (λ m. separates-never v (slice (updated x).matching t) x h e own m ∙ sym (separates-never v t x h e own m))
    (cases_Bool (matches (updated x).matching h))

-- and a verdict is true of both or of neither
pub slice-verdicts : (j : Task) (says : Says) → IsTable j.table → IsNormal (updated j.target).matching → ReplacesItsOwn j.target → IsTrueOf (sliced j) says ↔ IsTrueOf j says
slice-verdicts j (Probe h e) table n own =
    let same = slice-separates j.view j.table j.target h e table n own in
    (λ y. sym same ∙ y, λ y. same ∙ y)
slice-verdicts j Indistinguishable table n own =
    (λ f h e. sym (slice-separates j.view j.table j.target h e table n own) ∙ f h e, λ f h e. slice-separates j.view j.table j.target h e table n own ∙ f h e)
slice-verdicts j (Skipped seen) table n own = (λ lt. lt, λ lt. lt)
slice-verdicts j NoMemory table n own = (λ u. u, λ u. u)
