-- What the reason of a literal and a conflict give together is a line that follows, and is false without the literal.
use Rattle.std.proofs.Common.{◌≡◌, ◌≢◌, ℕ, true, false, not, refl, sym, ap, ◌∙◌, subst, List, [], ◌∷◌, length, set, Some, ◌⊎◌, ⊎_elim, inl, inr}
use Rattle.std.specs.Prelude.{◌==◌}
use Rattle.std.proofs.lemmas.List.{get_or-set_other}
use Rattle.std.proofs.lemmas.Bool.{false≢true, and_parts, and_from, eqb-true, or_right, or_cases, or_parts, false_from_ne_true, cases_eq, eqb-false}
use Rattle.mon_list.specs.Has.{Has}
use Rattle.mon_cnf.specs.declared.clause.Lit.{Lit}
use Rattle.mon_refute.specs.declared.lines.LogLine.{LogLine}
use Rattle.mon_refute.specs.declared.marks.Reading.TheVariants.{Contradicts, Gives}
use Rattle.mon_refute.specs.Follow.{opposite, is_true, is_false, rest, reading, reading_of, named, by_hints, by_start, follows, mentions}
use Rattle.mon_refute.proofs.Readings.{all_has, has_all, has_true, true_has, reading_none, reading_unit, opposite_opposite, not_not, hint_then}
use Rattle.mon_plain.specs.declared.look.Mark.{Mark}
use Rattle.mon_plain.specs.declared.look.Mark.TheVariants.{Free, Is}
use Rattle.mon_plain.specs.Marks.{mark_at, is_off, makes_on, makes_off, all_off, IsOpen}
use Rattle.mon_plain.specs.Trail.{IsClosed}
use Rattle.mon_plain.specs.Search.{Resolved}
use Rattle.mon_plain.proofs.Falsified.{KnownOn, falsified, off_here}

some_is : (a b : List Lit) → Some a ≡ Some b → a ≡ b
some_is a b e = cc

unmarked : (marks : List Mark) (x : ℕ) (m : Mark) (l : Lit) → (l.var == x) ≡ false → is_off (set marks x m) l ≡ is_off marks l
unmarked marks x m l n = ap (λ k. makes_off k l.positive) (get_or-set_other marks x l.var m Free (eqb-false l.var x n))

pub not_mentioned : (marks : List Mark) (x : ℕ) (m : Mark) (c : List Lit) → all_off (set marks x m) c ≡ true → mentions x c ≡ false → all_off marks c ≡ true
not_mentioned marks x m [] a n = refl
not_mentioned marks x m (l ∷ ls) a n =
    let p = and_parts (is_off (set marks x m) l) _ a in
    let q = or_parts (l.var == x) _ n in
    and_from _ _ (sym (unmarked marks x m l q.0) ∙ p.0) (not_mentioned marks x m ls p.1 q.1)

pub off_there : (cs : List (List Lit)) (marks : List Mark) (h : ℕ) (c : List Lit) → IsClosed cs marks h → named cs h ≡ Some c → all_off marks c ≡ true
off_there cs marks h c k e = subst (λ d. all_off marks d ≡ true) (some_is k.clause c (sym k.there ∙ e)) k.off

pub closed_without : (cs : List (List Lit)) (marks : List Mark) (x : ℕ) (m : Mark) (h : ℕ) (c : List Lit) → IsClosed cs (set marks x m) h → named cs h ≡ Some c → mentions x c ≡ false → IsClosed cs marks h
closed_without cs marks x m h c k e n = record { clause = c; there = e; off = not_mentioned marks x m c (off_there cs (set marks x m) h c k e) n }

mentioned : (c : List Lit) (x : ℕ) → mentions x c ≡ true → (k : Lit) × Has c k × (k.var ≡ x)
mentioned [] x e = absurd (false≢true e)
mentioned (l ∷ ls) x e =
    ⊎_elim (λ (s : (l.var == x) ≡ true). (l, inl refl, eqb-true l.var x s)) (λ (s : mentions x ls ≡ true). let m = mentioned ls x s in (m.0, inr m.1, m.2)) (or_cases (l.var == x) _ e)

module _ (marks : List Mark) (l : Lit) (one two r : List Lit) (open_is : IsOpen marks l)
    (off_one : all_off (set marks l.var (Is (not l.positive))) one ≡ true)
    (off_two : all_off (set marks l.var (Is l.positive)) two ≡ true)
    (has_one : (k : Lit) → Has one k → k.var ≢ l.var → Has r k)
    (has_two : (k : Lit) → Has two k → k.var ≢ l.var → Has r k)
    (only : (k : Lit) → Has r k → k.var ≢ l.var × (Has one k ⊎ Has two k)) where
  off_other : (m : Mark) (k : Lit) → is_off (set marks l.var m) k ≡ true → k.var ≢ l.var → is_off marks k ≡ true
  off_other m k o n = ap (λ m. makes_off m k.positive) (sym (get_or-set_other marks l.var k.var m Free n)) ∙ o

  pub resolved_off : all_off marks r ≡ true
  resolved_off = has_all (is_off marks) r (λ k h. let o = only k h in ⊎_elim (λ (i : Has one k). off_other _ k (all_has _ one k off_one i) o.0) (λ (i : Has two k). off_other _ k (all_has _ two k off_two i) o.0) o.1)

  not_on : (known : List Lit) (k : Lit) → KnownOn marks known → k.var ≡ l.var → is_true known k ≡ false
  not_on known k a e = false_from_ne_true _ (λ t. false≢true (ap (λ m. makes_on m k.positive) (sym (ap (mark_at marks) e ∙ open_is.1)) ∙ a.each k (true_has known k t)))

  first_gives : (known : List Lit) → KnownOn marks known → ((k : Lit) → Has r k → is_false known k ≡ true) → Has one l → reading known (rest known one) ≡ Gives l
  first_gives known a f h = reading_unit known one l (not_on known (opposite l) a refl) (not_on known l a refl)
      (λ k i. ⊎_elim (λ (e : k.var ≡ l.var). inr (off_here marks l k open_is.0 (all_has _ one k off_one i) e)) (λ (n : k.var ≡ l.var → ⊥). inl (f k (has_one k i n))) (cases_eq k.var l.var)) h

  second_closes : (known : List Lit) → ((k : Lit) → Has r k → is_false known k ≡ true) → reading (l ∷ known) (rest (l ∷ known) two) ≡ Contradicts
  second_closes known f = reading_none (l ∷ known) two
      (λ k i. ⊎_elim
      (λ (e : k.var ≡ l.var).
      let o = all_has (is_off (set marks l.var (Is l.positive))) two k off_two i in
      let p : is_off (set marks l.var (Is (not (not l.positive)))) k ≡ true = subst (λ b. is_off (set marks l.var (Is b)) k ≡ true) (sym (not_not l.positive)) o in
      let q : k ≡ opposite l = off_here marks (opposite l) k open_is.0 p e in
      has_true (l ∷ known) (opposite k) (inl (ap opposite q ∙ opposite_opposite l)))
      (λ (n : k.var ≡ l.var → ⊥). or_right _ _ (f k (has_two k i n)))
      (cases_eq k.var l.var))

pub resolved_follows : (marks : List Mark) (cs : List (List Lit)) (l : Lit) (first second : ℕ) (line : LogLine) (c : List Lit) → IsOpen marks l
    → Resolved cs first second l.var line.literals → line.hints ≡ first ∷ second ∷ []
    → IsClosed cs (set marks l.var (Is (not l.positive))) first → IsClosed cs (set marks l.var (Is l.positive)) second
    → named cs first ≡ Some c → mentions l.var c ≡ true
    → (all_off marks line.literals ≡ true) × (follows (length marks) cs line ≡ true)
resolved_follows marks cs l first second line c o r hs one two e m =
    let a = off_there cs _ first r.one one r.one_there in
    let b = off_there cs _ second r.two two r.two_there in
    let off = resolved_off marks l r.one r.two line.literals o a b r.has_one r.has_two r.only in
    let f = falsified marks [] line.literals (record { each = λ k h. absurd h }) off in
    let y = mentioned r.one l.var (subst (λ d. mentions l.var d ≡ true) (some_is c r.one (sym e ∙ r.one_there)) m) in
    let h : Has r.one l = subst (Has r.one) (off_here marks l y.0 o.0 (all_has _ r.one y.0 a y.1) y.2) y.1 in
    let s : reading_of f.more (named cs first) ≡ Gives l = ap (reading_of f.more) r.one_there ∙ first_gives marks l r.one r.two line.literals o a b r.has_one r.has_two r.only f.more f.on f.off h in
    let t : reading_of (l ∷ f.more) (named cs second) ≡ Contradicts = ap (reading_of (l ∷ f.more)) r.two_there ∙ second_closes marks l r.one r.two line.literals o a b r.has_one r.has_two r.only f.more f.off in
    (off, ap (by_start cs line.hints) f.is ∙ ap (by_hints cs f.more) hs ∙ hint_then cs f.more first (second ∷ []) (Gives l) s ∙ hint_then cs (l ∷ f.more) second [] Contradicts t)
