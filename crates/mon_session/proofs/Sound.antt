-- A confirmation is sound: the table without the edit is under the one with which it was compared.
use Rattle.std.proofs.Common.{◌≡◌, ℕ, Bool, true, false, cond, not, ◌||◌, ◌&&◌, List, [], ◌∷◌, map, Option, Some, None, refl, sym, ap, subst, ◌∙◌, inl, inr, ⊎_elim, arith, eqb-true}
use Rattle.std.specs.Prelude.{◌==◌, filter}
use Rattle.std.specs.List.{AllByRecursion}
use Rattle.std.proofs.lemmas.Bool.{cases_Bool, false≢true, eq-eqb}
use Rattle.mon_list.specs.Has.{Has}
use Rattle.mon_header.specs.declared.header.Header.{Header}
use Rattle.mon_header.specs.Matching.{Matching, matches, overlaps}
use Rattle.mon_header.proofs.Sharing.{both-taken}
use Rattle.mon_table.specs.declared.rule.Rule.{Rule}
use Rattle.mon_table.specs.declared.edit.Edit.{Edit}
use Rattle.mon_table.specs.declared.edit.Edit.TheVariants.{Put, Cut}
use Rattle.mon_table.specs.Rules.{Identity, identity_of, same_identity}
use Rattle.mon_table.specs.Tables.{IsTable}
use Rattle.mon_table.specs.Winners.{left}
use Rattle.mon_table.specs.Edits.{edited, after}
use Rattle.mon_table.proofs.Members.{after-members, members-after}
use Rattle.mon_table.proofs.Slicing.{SameAt, same-turned}
use Rattle.mon_outcome.specs.declared.emission.Emission.{Emission}
use Rattle.mon_shows.specs.Views.{Viewing, craftable, caught}
use Rattle.mon_shows.specs.Under.{Under}
use Rattle.mon_shows.specs.Separation.{made_unsure, with_update, without_update, must_show, may_show, separates}
use Rattle.mon_shows.proofs.Showing.{under-shows, left-under}
use Rattle.mon_job.specs.Jobs.{ReplacesItsOwn}
use Rattle.mon_job.proofs.Separating.{edited-elsewhere, both-under, unmatched-shows}
use Rattle.mon_legal.specs.Edits.{Passed, table_of, is_number}
use Rattle.mon_legal.specs.Possible.{KeepsSettled, chosen}
use Rattle.mon_session.specs.Now as Now
use Rattle.mon_session.specs.Now.{edit_numbered, reverse}
use Rattle.mon_session.specs.Standing.{Apart, is_vanishing, IsPlanned, AllPassedWell}
use Rattle.mon_session.specs.Confirmed.{IsOpen, others, takes_header, around_header, shown_by}
use Rattle.mon_session.proofs.Rejected.{IsGood, all-good, take-back, has_open, skip-open, none-open, own-numbers}

-- rules at a header -----------------------------------------------------------

same-self : (h : Header) (t : List Rule) → SameAt h t t
same-self h t = record { there = λ r m i. i; back = λ r m i. i }

pub same-on : (h : Header) (t u w : List Rule) → SameAt h t u → SameAt h u w → SameAt h t w
same-on h t u w a b = record { there = λ r m i. b.there r m (a.there r m i); back = λ r m i. a.back r m (b.back r m i) }

after-there : (h : Header) (t u : List Rule) (x : Edit) → SameAt h t u → (r : Rule) → matches r.matching h ≡ true → Has (after t x) r → Has (after u x) r
after-there h t u x same r m i = members-after u x r (⊎_elim (λ p. inl p) (λ l. inr (same.there r m l.0, l.1)) (after-members t x r i))

after-same : (h : Header) (t u : List Rule) (x : Edit) → SameAt h t u → SameAt h (after t x) (after u x)
after-same h t u x same = record { there = after-there h t u x same; back = after-there h u t x (same-turned h t u same) }

-- the edits that take the header make the same rules there as all
at-taken : (start : List Rule) (h : Header) (ps : List Passed) → SameAt h (table_of start ps) (table_of start (filter (takes_header h) ps))
at-taken start h [] = same-self h start
at-taken start h (p ∷ ps) =
    elim (takes_header h p) as (λ b. takes_header h p ≡ b → SameAt h (after (table_of start ps) p.edit) (table_of start (cond b (p ∷ filter (takes_header h) ps) (filter (takes_header h) ps)))) [
      | true ↦ λ y. after-same h (table_of start ps) (table_of start (filter (takes_header h) ps)) p.edit (at-taken start h ps)
      | false ↦ λ n. same-on h (after (table_of start ps) p.edit) (table_of start ps) (table_of start (filter (takes_header h) ps))
          (edited-elsewhere (table_of start ps) p.edit h n) (at-taken start h ps)
    ] refl

-- what a list of edits makes of a table
abbrev pub made_by : List Rule → List Edit → List Rule
made_by start [] = start
made_by start (x ∷ before) = after (made_by start before) x

made-is : (start : List Rule) (ps : List Passed) → table_of start ps ≡ made_by start (map (λ q. q.edit) ps)
made-is start [] = refl
made-is start (p ∷ ps) = ap (λ (t : List Rule). after t p.edit) (made-is start ps)

at-made : (start : List Rule) (h : Header) (ps : List Passed) → SameAt h (table_of start ps) (made_by start (map (λ q. q.edit) (filter (takes_header h) ps)))
at-made start h ps =
    subst (λ (t : List Rule). SameAt h (table_of start ps) t) (made-is start (filter (takes_header h) ps)) (at-taken start h ps)

-- sublists ---------------------------------------------------------------------

one-more : (p : Passed) (qs rs : List Passed) → map (λ q. q.edit) qs ≡ map (λ q. q.edit) rs → map (λ q. q.edit) (p ∷ qs) ≡ map (λ q. q.edit) (p ∷ rs)
one-more p qs rs e = ap (λ (es : List Edit). p.edit ∷ es) e

-- choosing all that take the header but one
choose : (t k n : Bool) (p : Passed) (test : Passed → Bool) (qs rs : List Passed) → (t ≡ true → k ≡ not n) → test p ≡ t
    → map (λ q. q.edit) (filter test qs) ≡ map (λ q. q.edit) rs
    → map (λ q. q.edit) (filter test (cond k (p ∷ qs) qs)) ≡ map (λ q. q.edit) (cond (t && not n) (p ∷ rs) rs)
choose true true true p test qs rs f y e = absurd (false≢true (sym (f refl)))
choose true true false p test qs rs f y e = rw y (one-more p (filter test qs) rs e)
choose true false true p test qs rs f y e = e
choose true false false p test qs rs f y e = absurd (false≢true (f refl))
choose false true n p test qs rs f y e = rw y e
choose false false n p test qs rs f y e = e

chosen-around : (h : Header) (k : ℕ) (keep : ℕ → Bool) (ps : List Passed)
    → AllByRecursion (λ q. takes_header h q ≡ true → keep q.number ≡ not (is_number k q)) ps
    → map (λ q. q.edit) (filter (takes_header h) (chosen keep ps)) ≡ around_header h k ps
chosen-around h k keep [] a = refl
chosen-around h k keep (p ∷ ps) a =
    choose (takes_header h p) (keep p.number) (is_number k p) p (takes_header h) (chosen keep ps) (filter (λ q. takes_header h q && not (is_number k q)) ps) a.0 refl
    (chosen-around h k keep ps a.1)

-- the edit that is unsettled ---------------------------------------------------

-- it has what all have
pub open-has : (P : Passed → Type 0) (k : ℕ) (x : Edit) (ps : List Passed) → AllByRecursion P ps → IsOpen k x ps
    → (q : Passed) × P q × (q.number ≡ k) × (q.settled ≡ false) × (q.edit ≡ x)
open-has P k x [] a o = absurd o
open-has P k x (p ∷ ps) a o = ⊎_elim (λ y. (p, a.0, y.0, y.1, y.2)) (λ i. open-has P k x ps a.1 i) o

-- another edit that takes a header that it takes is settled
settled-by : (m : Matching) (h : Header) (q : Passed) → matches m h ≡ true → (q.settled ≡ false → overlaps m (edited q.edit).matching ≡ false)
    → takes_header h q ≡ true → q.settled ≡ true
settled-by m h q y w t = ⊎_elim (λ s. s) (λ u. absurd (false≢true (sym (w u) ∙ both-taken m (edited q.edit).matching h y t))) (cases_Bool q.settled)

all-settled : (m : Matching) (h : Header) (k : ℕ) (ps : List Passed) → matches m h ≡ true
    → AllByRecursion (λ q. q.settled ≡ false → overlaps m (edited q.edit).matching ≡ false) ps
    → AllByRecursion (λ q. takes_header h q ≡ true → is_number k q ≡ false → q.settled ≡ true) ps
all-settled m h k [] y a = tt
all-settled m h k (p ∷ ps) y a = (λ t n. settled-by m h p y a.0 t, all-settled m h k ps y a.1)

-- an edit with a number overlaps no unsettled one before it
pub real-apart : (p : Passed) (ps : List Passed) (b : Bool) → b ≡ false → AllByRecursion (λ q. q.settled ≡ false → Apart b p.edit q.edit) ps
    → AllByRecursion (λ q. q.settled ≡ false → overlaps (edited p.edit).matching (edited q.edit).matching ≡ false) ps
real-apart p ps true e a = absurd (false≢true (sym e))
real-apart p ps false e a = a

newer-settled : (start : List Rule) (h : Header) (k : ℕ) (x : Edit) (p : Passed) (ps : List Passed) → AllPassedWell start (p ∷ ps) → IsOpen k x ps
    → matches (edited x).matching h ≡ true → takes_header h p ≡ true → p.settled ≡ true
newer-settled start h k x p ps a older y t = ⊎_elim (λ s. s)
    (λ u.
    let f = open-has (λ q. q.settled ≡ false → overlaps (edited p.edit).matching (edited q.edit).matching ≡ false) k x ps (real-apart p ps (is_vanishing p) (a.0.counted u) a.0.waited) older in
    let taken = subst (λ (z : Edit). matches (edited z).matching h ≡ true) (sym f.4) y in
    absurd (false≢true (sym (f.1 f.3) ∙ both-taken (edited p.edit).matching (edited f.0.edit).matching h t taken)))
    (cases_Bool p.settled)

pub others-settled : (start : List Rule) (h : Header) (k : ℕ) (x : Edit) (ps : List Passed) → AllPassedWell start ps → IsOpen k x ps → matches (edited x).matching h ≡ true
    → AllByRecursion (λ q. takes_header h q ≡ true → is_number k q ≡ false → q.settled ≡ true) ps
others-settled start h k x [] a o y = absurd o
others-settled start h k x (p ∷ ps) a o y = ⊎_elim
    (λ own. (
      λ t n. absurd (false≢true (sym n ∙ eq-eqb p.number k own.0)),
      all-settled (edited p.edit).matching h k ps (subst (λ (z : Edit). matches (edited z).matching h ≡ true) (sym own.2) y)
          (real-apart p ps (is_vanishing p) (a.0.counted own.1) a.0.waited),
    ))
    (λ older. (
      λ t n. newer-settled start h k x p ps a older y t,
      others-settled start h k x ps a.1 older y,
    ))
    o

-- so a choice that has every settled edit and lacks this one has just the others
chooses : (k : ℕ) (keep : ℕ → Bool) (h : Header) (q : Passed) → keep k ≡ false → (q.settled ≡ true → keep q.number ≡ true)
    → (takes_header h q ≡ true → is_number k q ≡ false → q.settled ≡ true) → takes_header h q ≡ true → keep q.number ≡ not (is_number k q)
chooses k keep h q gone kept settled t =
    elim (is_number k q) as (λ b. is_number k q ≡ b → keep q.number ≡ not b) [
      | true ↦ λ y. subst (λ (n : ℕ). keep n ≡ false) (sym (eqb-true q.number k y)) gone
      | false ↦ λ n. kept (settled t n)
    ] refl

all-chosen : (k : ℕ) (keep : ℕ → Bool) (h : Header) (ps : List Passed) → keep k ≡ false → KeepsSettled keep ps
    → AllByRecursion (λ q. takes_header h q ≡ true → is_number k q ≡ false → q.settled ≡ true) ps
    → AllByRecursion (λ q. takes_header h q ≡ true → keep q.number ≡ not (is_number k q)) ps
all-chosen k keep h [] gone kept a = tt
all-chosen k keep h (p ∷ ps) gone kept a = (λ t. chooses k keep h p gone kept.0 a.0 t, all-chosen k keep h ps gone kept.1 a.1)

all-but : (k : ℕ) (h : Header) (ps : List Passed) → AllByRecursion (λ q. takes_header h q ≡ true → not (q.number == k) ≡ not (is_number k q)) ps
all-but k h [] = tt
all-but k h (p ∷ ps) = (λ t. refl, all-but k h ps)

-- tables under others ------------------------------------------------------------

pub under-same : (h : Header) (t u : List Rule) → SameAt h t u → Under h t u
under-same h t u s = both-under h u t u s (same-self h u)

like-matches : (h : Header) (r : Rule) (i : Identity) → i ≡ identity_of r → matches r.matching h ≡ true → matches i.matching h ≡ true
like-matches h r i e m = subst (λ (j : Identity). matches j.matching h ≡ true) (sym e) m

pub under-on : (h : Header) (t u w : List Rule) → Under h t u → Under h u w → Under h t w
under-on h t u w a b = record {
  like = λ r m i.
      let k = a.like r m i in
      let l = b.like k.like (like-matches h r (identity_of k.like) k.identity m) k.has in
      record { like = l.like; has = l.has; identity = l.identity ∙ k.identity; actions = l.actions ∙ k.actions };
  sure = λ s m sure j.
      let k = b.sure s m sure j in
      let l = a.sure k.sure (like-matches h s (identity_of k.sure) k.identity m) k.is_sure k.has in
      record { sure = l.sure; has = l.has; is_sure = l.is_sure; identity = l.identity ∙ k.identity };
}

impossible-under : (h : Header) (e : Emission) (t u : List Rule) → Under h t u → may_show u h e ≡ false → may_show t h e ≡ false
impossible-under h e t u under n = ⊎_elim
    (λ y. absurd (false≢true (sym n ∙ under-shows h t u e under y)))
    (λ m. m)
    (cases_Bool (may_show t h e))

-- what separates matches --------------------------------------------------------

parts-of : (a b c d : Bool) → (a && (b && (c && not d))) ≡ true → (b ≡ true) × (d ≡ false)
parts-of true true true false e = (refl, refl)
parts-of true true true true e = absurd (false≢true e)
parts-of true true false d e = absurd (false≢true e)
parts-of true false c d e = absurd (false≢true e)
parts-of false b c d e = absurd (false≢true e)

separated : (v : Viewing) (t : List Rule) (x : Edit) (h : Header) (e : Emission) → separates v t (shown_by x) h e ≡ true
    → (must_show (with_update t (shown_by x)) h e ≡ true) × (may_show (without_update t (shown_by x)) h e ≡ false)
unfolding separates
separated v t x h e y =
    parts-of (craftable v h) (must_show (with_update t (shown_by x)) h e) (caught v e) (may_show (without_update t (shown_by x)) h e) y

own-target : (x : Edit) (stood : Option Rule) → IsPlanned x stood → ReplacesItsOwn (shown_by x)
own-target (Put r None) stood p = tt
own-target (Put r (Some old)) stood p = p.0
own-target (Cut r) stood p = tt

edit-matches : (x : Edit) (h : Header) → matches (edited x).matching h ≡ false
    → (t : List Rule) (stood : Option Rule) (e : Emission) → IsPlanned x stood
    → must_show (with_update t (shown_by x)) h e ≡ true → may_show (without_update t (shown_by x)) h e ≡ true
edit-matches (Put r old) h n t stood e p y = unmatched-shows t (shown_by (Put r old)) h e (own-target (Put r old) stood p) n y
edit-matches (Cut r) h n t stood e p y = unmatched-shows t (shown_by (Cut r)) h e (own-target (Cut r) stood p) n y

separated-takes : (v : Viewing) (t : List Rule) (x : Edit) (stood : Option Rule) (h : Header) (e : Emission) → IsPlanned x stood → separates v t (shown_by x) h e ≡ true
    → matches (edited x).matching h ≡ true
separated-takes v t x stood h e planned y = ⊎_elim
    (λ m. m)
    (λ n.
    let f = separated v t x h e y in
    absurd (false≢true (sym f.1 ∙ edit-matches x h n t stood e planned f.0)))
    (cases_Bool (matches (edited x).matching h))

-- the table without the edit is under the one that it was compared with ------------

or-falses : (a b : Bool) → (a || b) ≡ false → a ≡ false
or-falses true b e = e
or-falses false b e = refl

-- the old rule comes back, or an unsure one like it
replaced-under : (h : Header) (t : List Rule) (r old : Rule) → Under h (after t (Put old (Some r))) (after t (Put (made_unsure (old.unsure || r.unsure) old) (Some r)))
replaced-under h t r old =
    let made = made_unsure (old.unsure || r.unsure) old in
    record {
      like = λ s m i. ⊎_elim
          (λ (same : s ≡ old).
          record {
            like = made;
            has = members-after t (Put made (Some r)) made (inl refl);
            identity = ap identity_of (sym same);
            actions = ap (λ (y : Rule). y.actions) (sym same);
          })
          (λ l. record { like = s; has = members-after t (Put made (Some r)) s (inr l); identity = refl; actions = refl })
          (after-members t (Put old (Some r)) s i);
      sure = λ s m sure j. ⊎_elim
          (λ (same : s ≡ made).
          let low : (old.unsure || r.unsure) ≡ false = sym (ap (λ (y : Rule). y.unsure) same) ∙ sure in
          record {
            sure = old;
            has = members-after t (Put old (Some r)) old (inl refl);
            is_sure = or-falses old.unsure r.unsure low;
            identity = ap identity_of (sym same);
          })
          (λ l. record { sure = s; has = members-after t (Put old (Some r)) s (inr l); is_sure = sure; identity = refl })
          (after-members t (Put made (Some r)) s j);
    }

-- an unsure rule that is gone leaves a table under the one with it
cut-under : (h : Header) (t : List Rule) (r o : Rule) (old : Option Rule) → o.unsure ≡ true → identity_of o ≡ identity_of r → Under h (after t (Cut r)) (after t (Put o old))
cut-under h t r o old u i = record {
  like = λ s m j. ⊎_elim
      (λ put. absurd put)
      (λ l. record {
        like = s;
        has = members-after t (Put o old) s (inr (l.0, subst (λ (k : Identity). same_identity (identity_of s) k ≡ false) (sym i) l.1));
        identity = refl;
        actions = refl;
      })
      (after-members t (Cut r) s j);
  sure = λ s m sure j. ⊎_elim
      (λ (same : s ≡ o). absurd (false≢true (sym sure ∙ (ap (λ (y : Rule). y.unsure) same ∙ u))))
      (λ l. record {
        sure = s;
        has = members-after t (Cut r) s (inr (l.0, subst (λ (k : Identity). same_identity (identity_of s) k ≡ false) i l.1));
        is_sure = sure;
        identity = refl;
      })
      (after-members t (Put o old) s j);
}

or-true-first : (a b : Bool) → a ≡ true → (a || b) ≡ true
or-true-first true b e = refl
or-true-first false b e = absurd (false≢true e)

again-under : (h : Header) (t : List Rule) (r : Rule) → Under h (after t (Put r (Some r))) (after t (Put r None))
unfolding after
again-under h t r = under-same h (after t (Put r None)) (after t (Put r None)) (same-self h (after t (Put r None)))

back-under : (h : Header) (t : List Rule) (x : Edit) (stood : Option Rule) → IsPlanned x stood → Under h (after t (reverse x stood)) (without_update t (shown_by x))
back-under h t (Put r None) stood p =
    subst (λ (o : Option Rule). Under h (after t (reverse (Put r None) o)) (after t (Cut r))) (sym p) (under-same h (after t (Cut r)) (after t (Cut r)) (same-self h (after t (Cut r))))
back-under h t (Put r (Some old)) stood p = ⊎_elim
    (λ same. subst (λ (o : Option Rule). Under h (after t (reverse (Put r (Some old)) o)) (without_update t (shown_by (Put r (Some old))))) (sym same)
    (replaced-under h t r old))
    (λ gone. subst (λ (o : Option Rule). Under h (after t (reverse (Put r (Some old)) o)) (without_update t (shown_by (Put r (Some old))))) (sym gone.0)
    (cut-under h t r (made_unsure (old.unsure || r.unsure) old) (Some r) (or-true-first old.unsure r.unsure gone.1) p.0))
    p.1
back-under h t (Cut r) stood p = ⊎_elim
    (λ same. subst (λ (o : Option Rule). Under h (after t (reverse (Cut r) o)) (after t (Put r None))) (sym same)
    (again-under h t r))
    (λ gone. subst (λ (o : Option Rule). Under h (after t (reverse (Cut r) o)) (after t (Put r None))) (sym gone.0)
    (cut-under h t r r None gone.1 refl))
    p

-- the edit of the number ---------------------------------------------------------

-- an unsettled edit is found by its number
other-number : (a b : ℕ) → (b == a) ≡ false → (a == b) ≡ false
other-number a b e = grind (arith, e)

own-number : (k : ℕ) (p : Passed) (ps : List Passed) → p.number ≡ k → p.settled ≡ false
    → (has_open k (p ∷ ps) ≡ true) × (edit_numbered k (filter (λ q. not q.settled) (p ∷ ps)) ≡ Some p)
own-number k p ps n s =
    let y : is_number k p ≡ true = eq-eqb p.number k n in
    (rw s (rw y refl), rw s (rw y refl))

or-true : (a b : Bool) → b ≡ true → (a || b) ≡ true
or-true true b e = refl
or-true false b e = e

pub open-number : (start : List Rule) (k : ℕ) (x : Edit) (ps : List Passed) → AllPassedWell start ps → IsOpen k x ps
    → (has_open k ps ≡ true) × ((q : Passed) × (edit_numbered k (filter (λ p. not p.settled) ps) ≡ Some q) × (q.edit ≡ x) × IsPlanned q.edit q.stood × IsGood q)
open-number start k x [] a o = absurd o
open-number start k x (p ∷ ps) a o = ⊎_elim
    (λ own. let f = own-number k p ps own.0 own.1 in (f.0, (p, f.1, own.2, a.0.planned, (all-good start (p ∷ ps) a).0)))
    (λ older.
    let rest = open-number start k x ps a.1 older in
    elim (is_number k p) as (λ b. is_number k p ≡ b → (has_open k (p ∷ ps) ≡ true) × ((q : Passed) × (edit_numbered k (filter (λ p. not p.settled) (p ∷ ps)) ≡ Some q) × (q.edit ≡ x) × IsPlanned q.edit q.stood × IsGood q)) [
      | true ↦ λ y.
          let there = or-true (not p.settled && is_number k p) (has_open k ps) rest.0 in
          let numbers = own-numbers start k p ps a y there in
          absurd (false≢true (sym (none-open k ps numbers) ∙ rest.0))
      | false ↦ λ n. (or-true (not p.settled && is_number k p) (has_open k ps) rest.0, (rest.1.0, skip-open k p ps n ∙ rest.1.1, rest.1.2, rest.1.3, rest.1.4))
    ] refl)
    o

-- the whole ----------------------------------------------------------------------

-- the edits around a header say what stands there
pub around-is : (start : List Rule) (h : Header) (k : ℕ) (ps : List Passed) → SameAt h (table_of start (others k ps)) (made_by start (around_header h k ps))
around-is start h k ps =
    let one : map (λ q. q.edit) (filter (takes_header h) (others k ps)) ≡ around_header h k ps = chosen-around h k (λ n. not (n == k)) ps (all-but k h ps) in
    subst (λ (es : List Edit). SameAt h (table_of start (others k ps)) (made_by start es)) one (at-made start h (others k ps))

-- at the moment at which the probe was sent, and as long as the others only lose unsure rules at its header
pub sound-later : (start : List Rule) (earlier later : List Passed) (v : Viewing) (h : Header) (e : Emission) (k : ℕ) (x : Edit)
    (keep : ℕ → Bool) (goes : Rule → Bool)
    → IsTable start → AllPassedWell start earlier → AllPassedWell start later → IsOpen k x earlier → IsOpen k x later
    → (matches (edited x).matching h ≡ true → Under h (table_of start (others k later)) (table_of start (others k earlier)))
    → separates v (table_of start earlier) (shown_by x) h e ≡ true
    → KeepsSettled keep later → keep k ≡ false
    → may_show (left goes (table_of start (chosen keep later))) h e ≡ false
sound-later start earlier later v h e k x keep goes t a b o u stays y kept gone =
    let was = open-number start k x earlier a o in
    let planned = subst (λ (z : Edit). IsPlanned z was.1.0.stood) was.1.2 was.1.3 in
    let m = separated-takes v (table_of start earlier) x was.1.0.stood h e planned y in
    let under = stays m in
    let f = separated v (table_of start earlier) x h e y in
    let back : table_of start (others k earlier) ≡ after (table_of start earlier) (reverse was.1.0.edit was.1.0.stood) =
    take-back start k earlier t a was.0 ∙ ap (λ (z : Option Passed). Now.taken_back z (table_of start earlier)) was.1.1 in
    let here : Under h (table_of start (others k earlier)) (without_update (table_of start earlier) (shown_by x)) =
    subst (λ (z : List Rule). Under h z (without_update (table_of start earlier) (shown_by x))) (sym back)
    (subst (λ (z : Edit). Under h (after (table_of start earlier) (reverse z was.1.0.stood)) (without_update (table_of start earlier) (shown_by x))) (sym was.1.2)
    (back-under h (table_of start earlier) x was.1.0.stood planned)) in
    let settled = others-settled start h k x later b u m in
    let two : map (λ q. q.edit) (filter (takes_header h) (chosen keep later)) ≡ around_header h k later =
    chosen-around h k keep later (all-chosen k keep h later gone kept settled) in
    let chose : SameAt h (table_of start (chosen keep later)) (made_by start (around_header h k later)) =
    subst (λ (es : List Edit). SameAt h (table_of start (chosen keep later)) (made_by start es)) two (at-made start h (chosen keep later)) in
    let sames : SameAt h (table_of start (chosen keep later)) (table_of start (others k later)) =
    same-on h (table_of start (chosen keep later)) (made_by start (around_header h k later)) (table_of start (others k later)) chose
    (same-turned h (table_of start (others k later)) (made_by start (around_header h k later)) (around-is start h k later)) in
    let possible = table_of start (chosen keep later) in
    let one : Under h (left goes possible) (table_of start (others k later)) =
    under-on h (left goes possible) possible (table_of start (others k later)) (left-under possible goes h)
    (under-same h possible (table_of start (others k later)) sames) in
    let all : Under h (left goes possible) (without_update (table_of start earlier) (shown_by x)) =
    under-on h (left goes possible) (table_of start (others k later)) (without_update (table_of start earlier) (shown_by x)) one
    (under-on h (table_of start (others k later)) (table_of start (others k earlier)) (without_update (table_of start earlier) (shown_by x)) under here) in
    impossible-under h e (left goes possible) (without_update (table_of start earlier) (shown_by x)) all f.1
