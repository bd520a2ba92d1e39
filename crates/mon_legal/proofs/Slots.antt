-- Slots are below 64 and differ, so no more than 64 sessions have one.
use Rattle.std.proofs.Common.{◌≡◌, ◌⊎◌, inl, inr, ℕ, zero, suc, ◌+◌, ◌<◌, ◌≤◌, Bool, true, false, cond, not, ◌||◌, List, [], ◌∷◌, length, map, Option, Some, None, refl, sym, ap, subst, arith, eqb}
use Rattle.std.specs.Prelude.{filter, ◌==◌}
use Rattle.std.specs.List.{AllByRecursion, list_any, IsDistinct}
use Rattle.std.proofs.lemmas.Bool.{false≢true}
use Rattle.std.proofs.lemmas.Bool.Decides.{eqb_tells}
use Rattle.std.proofs.lemmas.Map.Steps.{length-le_from_distinct_below}
use Rattle.mon_legal.specs.Runs.{Run}
use Rattle.mon_legal.specs.Moments.{Moment}
use Rattle.mon_legal.specs.Moments.Moment.{Is}
use Rattle.mon_legal.specs.Sessions.{Placed, is_taken, least_free, with_slot, open_with_slot}
use Rattle.mon_legal.proofs.Coming.{some-same}
use Rattle.mon_legal.proofs.Fitting.{same-of}
use Rattle.mon_legal.specs.Jobs.{openings}
use Rattle.mon_world.specs.declared.event.Event.TheVariants.{Opened}
use Rattle.mon_world.specs.declared.history.Entry.TheVariants.{End, Given}

abbrev slots : List Placed → List ℕ
slots placed = map (λ p. p.slot) placed

-- a free slot of the first n from one on is below their end, and no one has it
least-free : (n from slot : ℕ) (placed : List Placed) → least_free n from placed ≡ Some slot → (slot < from + n) × (is_taken placed slot ≡ false)
least-free zero from slot placed e = absurd (let g : None ≡ Some slot = e in cc)
least-free (suc n) from slot placed e =
    elim (is_taken placed from) as (λ b. is_taken placed from ≡ b → cond b (least_free n (from + 1) placed) (Some from) ≡ Some slot → (slot < from + suc n) × (is_taken placed slot ≡ false)) [
      | true ↦ λ y g. let l = least-free n (from + 1) slot placed g in (let a : slot < (from + 1) + n = l.0 in omega arith, l.1)
      | false ↦ λ x g. let s : from ≡ slot = some-same from slot g in ((subst (λ (k : ℕ). k < from + suc n) s (omega arith)), subst (λ (k : ℕ). is_taken placed k ≡ false) s x)
    ] refl e

-- the slots differ, and are below 64
abbrev Differ : List Placed → Type 0
Differ [] = Unit {0}
Differ (p ∷ placed) = AllByRecursion (λ q. (p.slot == q.slot) ≡ false) placed × Differ placed

abbrev Below : List Placed → Type 0
Below placed = AllByRecursion (λ p. p.slot < 64) placed

all-kept : (P : Placed → Type 0) (test : Placed → Bool) (placed : List Placed) → AllByRecursion P placed → AllByRecursion P (filter test placed)
all-kept P test [] a = tt
all-kept P test (p ∷ placed) a =
    elim (test p) as (λ b. AllByRecursion P (cond b (p ∷ filter test placed) (filter test placed))) [
      | true ↦ (a.0, all-kept P test placed a.1)
      | false ↦ all-kept P test placed a.1
    ]

differ-kept : (test : Placed → Bool) (placed : List Placed) → Differ placed → Differ (filter test placed)
differ-kept test [] d = tt
differ-kept test (p ∷ placed) d =
    elim (test p) as (λ b. Differ (cond b (p ∷ filter test placed) (filter test placed))) [
      | true ↦ (all-kept (λ q. (p.slot == q.slot) ≡ false) test placed d.0, differ-kept test placed d.1)
      | false ↦ differ-kept test placed d.1
    ]

other-slot : (a b : ℕ) → (a == b) ≡ false → (b == a) ≡ false
other-slot a b e = grind (arith, eqb_tells a b, eqb_tells b a, e)

or-false : (a b : Bool) → a || b ≡ false → (a ≡ false) × (b ≡ false)
or-false true b e = absurd (false≢true (sym e))
or-false false b e = (refl, e)

free-differs : (slot : ℕ) (placed : List Placed) → is_taken placed slot ≡ false → AllByRecursion (λ q. (slot == q.slot) ≡ false) placed
free-differs slot [] e = tt
free-differs slot (p ∷ placed) e =
    let both = or-false (p.slot == slot) (is_taken placed slot) e in (other-slot p.slot slot both.0, free-differs slot placed both.1)

abbrev Good : List Placed → Type 0
Good placed = Differ placed × Below placed

good-with : (session : ℕ) (o : Option ℕ) (placed : List Placed) → least_free 64 0 placed ≡ o → Good placed → Good (with_slot session o placed)
good-with session None placed e g = g
good-with session (Some slot) placed e g =
    let l = least-free 64 0 slot placed e in ((free-differs slot placed l.1, g.0), (let a : slot < 0 + 64 = l.0 in omega arith, g.1))

good : (run : Run) (f : List Moment) → Good (open_with_slot run f)
good run [] = (tt, tt)
good run (Is (Given Opened) ∷ f) = good-with (openings run f) (least_free 64 0 (open_with_slot run f)) (open_with_slot run f) refl (good run f)
good run (Is (End s) ∷ f) =
    let g = good run f in
    (differ-kept (λ p. not (p.session == s)) (open_with_slot run f) g.0, all-kept (λ p. p.slot < 64) (λ p. not (p.session == s)) (open_with_slot run f) g.1)
good run (m ∷ f) = good run f

all-slots : (P : ℕ → Type 0) (placed : List Placed) → AllByRecursion (λ p. P p.slot) placed → AllByRecursion P (slots placed)
all-slots P [] a = tt
all-slots P (p ∷ placed) a = (a.0, all-slots P placed a.1)

distinct : (placed : List Placed) → Differ placed → IsDistinct eqb (slots placed)
unfolding IsDistinct
distinct [] d = tt
distinct (p ∷ placed) d = (all-slots (λ k. eqb p.slot k ≡ false) placed d.0, distinct placed d.1)

or-cases : (a b : Bool) → a || b ≡ true → (a ≡ true) ⊎ (b ≡ true)
or-cases true b e = inl refl
or-cases false b e = inr e

below : (placed : List Placed) → Below placed → (q : ℕ) → list_any (eqb q) (slots placed) ≡ true → q < 64
below [] a q e = absurd (false≢true e)
below (p ∷ placed) a q e =
    elim (or-cases (eqb q p.slot) (list_any (eqb q) (slots placed)) e) as (λ _. q < 64) [
      | inl y ↦ subst (λ (k : ℕ). k < 64) (sym (same-of q p.slot y)) a.0
      | inr y ↦ below placed a.1 q y
    ]

same-length : (placed : List Placed) → length (slots placed) ≡ length placed
same-length [] = refl
same-length (p ∷ placed) = ap (λ (n : ℕ). suc n) (same-length placed)

pub few-open : (run : Run) (f : List Moment) → length (open_with_slot run f) ≤ 64
few-open run f =
    let g = good run f in
    subst (λ (n : ℕ). n ≤ 64) (same-length (open_with_slot run f)) (length-le_from_distinct_below (slots (open_with_slot run f)) 64 (distinct (open_with_slot run f) g.0) (below (open_with_slot run f) g.1))
