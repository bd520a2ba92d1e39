-- The edit of a number among those whose numbers fall.
use Rattle.std.proofs.Common.{◌≡◌, ◌⊎◌, inl, inr, ⊎_elim, subst, ℕ, suc, ◌<◌, ◌≤◌, Bool, true, false, cond, not, List, [], ◌∷◌, Option, Some, None, refl, sym, ap, ◌∙◌, arith, ◌-◌}
use Rattle.std.specs.Prelude.{◌==◌, zero, length, remove, set, ◌||◌, slice_index_or, slice_set, IsSome, OnSome, IfNone}
use Rattle.std.proofs.lemmas.Bool.{false≢true}
use Rattle.std.proofs.lemmas.Bool.Decides.{eqb_tells, leb_tells}
use Rattle.mon_legal.specs.Edits.{Passed, is_number, oldest}
use Rattle.mon_session.specs.Now.{edit_numbered}
use Rattle.mon_session.specs.Passing.{Falls, newer, without_edit, mark, marked}

pub falls_below : (n m : ℕ) (ps : List Passed) → n ≤ m → Falls n ps → Falls m ps
falls_below n m [] le f = tt
falls_below n m (p ∷ ps) le f = (grind (arith, le, f.0), f.1, f.2)

-- a number that is none of theirs takes nothing out
all-stay : (k n : ℕ) (ps : List Passed) → n ≤ k → Falls n ps → without_edit k ps ≡ ps
all-stay k n [] le f = refl
all-stay k n (p ∷ ps) le f =
    let other : (p.number == k) ≡ false = grind (arith, eqb_tells p.number k, f.0, le) in
    let below : p.number ≤ k = grind (arith, f.0, le) in
    rw other (rw (all-stay k p.number ps below f.2) refl)

-- the one of the number goes, and no other
pub removed : (n k : ℕ) (ps : List Passed) → Falls n ps → newer k ps < length ps → remove ps (newer k ps) ≡ without_edit k ps
removed n k [] f lt = absurd (omega (arith, lt))
removed n k (p ∷ ps) f lt =
    elim (is_number k p) as (λ b. is_number k p ≡ b → cond b 0 (suc (newer k ps)) < suc (length ps)
    → remove (p ∷ ps) (cond b 0 (suc (newer k ps))) ≡ cond (not b) (p ∷ without_edit k ps) (without_edit k ps)) [
      | true ↦ λ y l.
          let same : p.number ≤ k = grind (arith, eqb_tells p.number k, y) in
          sym (all-stay k p.number ps same f.2)
      | false ↦ λ y l.
          let later : newer k ps < length ps = grind (arith, l) in
          ap (λ (qs : List Passed). p ∷ qs) (removed p.number k ps f.2 later)
    ] refl lt

pub numbered_at : (k : ℕ) (ps : List Passed) (d : Passed) → newer k ps < length ps → edit_numbered k ps ≡ Some (slice_index_or ps (newer k ps) d)
numbered_at k [] d lt = absurd (omega (arith, lt))
numbered_at k (p ∷ ps) d lt =
    elim (is_number k p) as (λ b. is_number k p ≡ b → cond b 0 (suc (newer k ps)) < suc (length ps)
    → cond b (Some p) (edit_numbered k ps) ≡ Some (slice_index_or (p ∷ ps) (cond b 0 (suc (newer k ps))) d)) [
      | true ↦ λ y l. refl
      | false ↦ λ y l.
          let later : newer k ps < length ps = grind (arith, l) in
          numbered_at k ps d later
    ] refl lt

pub numbered_none : (k : ℕ) (ps : List Passed) → length ps ≤ newer k ps → edit_numbered k ps ≡ None
numbered_none k [] le = refl
numbered_none k (p ∷ ps) le =
    elim (is_number k p) as (λ b. suc (length ps) ≤ cond b 0 (suc (newer k ps)) → cond b (Some p) (edit_numbered k ps) ≡ None) [
      | true ↦ λ l. absurd (omega (arith, l))
      | false ↦ λ l.
          let later : length ps ≤ newer k ps = grind (arith, l) in
          numbered_none k ps later
    ] le

pub none_out : (k : ℕ) (ps : List Passed) → length ps ≤ newer k ps → without_edit k ps ≡ ps
none_out k [] le = refl
none_out k (p ∷ ps) le =
    elim (is_number k p) as (λ b. suc (length ps) ≤ cond b 0 (suc (newer k ps)) → cond (not b) (p ∷ without_edit k ps) (without_edit k ps) ≡ p ∷ ps) [
      | true ↦ λ l. absurd (omega (arith, l))
      | false ↦ λ l.
          let later : length ps ≤ newer k ps = grind (arith, l) in
          ap (λ (qs : List Passed). p ∷ qs) (none_out k ps later)
    ] le

-- what is left still falls
pub falls_without : (n k : ℕ) (ps : List Passed) → Falls n ps → Falls n (without_edit k ps)
falls_without n k [] f = tt
falls_without n k (p ∷ ps) f =
    elim (is_number k p) as (λ b. Falls n (cond (not b) (p ∷ without_edit k ps) (without_edit k ps))) [
      | true ↦
          let below : p.number ≤ n = grind (arith, f.0) in
          falls_below p.number n (without_edit k ps) below (falls_without p.number k ps f.2)
      | false ↦ (f.0, f.1, falls_without p.number k ps f.2)
    ]

-- the oldest is the last
pub oldest_last : (ps : List Passed) (d : Passed) → 0 < length ps → oldest ps ≡ Some (slice_index_or ps (length ps - 1) d).number
oldest_last [] d lt = absurd (omega (arith, lt))
oldest_last (p ∷ []) d lt = refl
oldest_last (p ∷ q ∷ ps) d lt =
    let more : 0 < suc (length ps) = omega arith in
    let e : suc (suc (length ps)) - 1 ≡ suc (suc (length ps) - 1) = omega arith in
    rw e (oldest_last (q ∷ ps) d more)

or-none : (b : Bool) → (b || false) ≡ b
or-none true = refl
or-none false = refl

or-all : (b : Bool) → (b || true) ≡ true
or-all true = refl
or-all false = refl

-- the one of the number is marked, and no other
others-same : (k n : ℕ) (ps : List Passed) → n ≤ k → Falls n ps → marked k ps ≡ ps
others-same k n [] le f = refl
others-same k n (p ∷ ps) le f =
    let other : (p.number == k) ≡ false = grind (arith, eqb_tells p.number k, f.0, le) in
    let below : p.number ≤ k = grind (arith, f.0, le) in
    let same : mark k p ≡ p = rw other (rw (or-none p.reported) refl) in
    rw same (rw (others-same k p.number ps below f.2) refl)

pub marked_at : (n k : ℕ) (ps : List Passed) (d : Passed) → Falls n ps → newer k ps < length ps
    → set ps (newer k ps) (record (slice_index_or ps (newer k ps) d) { reported = true }) ≡ marked k ps
marked_at n k [] d f lt = absurd (omega (arith, lt))
marked_at n k (p ∷ ps) d f lt =
    elim (is_number k p) as (λ b. is_number k p ≡ b → cond b 0 (suc (newer k ps)) < suc (length ps)
    → set (p ∷ ps) (cond b 0 (suc (newer k ps))) (record (slice_index_or (p ∷ ps) (cond b 0 (suc (newer k ps))) d) { reported = true }) ≡ record p { reported = p.reported || b } ∷ marked k ps) [
      | true ↦ λ y l.
          let same : p.number ≤ k = grind (arith, eqb_tells p.number k, y) in
          rw (or-all p.reported) (ap (λ (qs : List Passed). record p { reported = true } ∷ qs) (sym (others-same k p.number ps same f.2)))
      | false ↦ λ y l.
          let later : newer k ps < length ps = grind (arith, l) in
          rw (or-none p.reported) (ap (λ (qs : List Passed). p ∷ qs) (marked_at p.number k ps d f.2 later))
    ] refl lt

-- by its place, where the one that stood there is told
pub marked_here : (n k place : ℕ) (ps : List Passed) (p q : Passed) → Falls n ps → place ≡ newer k ps → place < length ps → p ≡ slice_index_or ps place p
    → q ≡ record p { reported = true } → set ps place q ≡ marked k ps
marked_here n k place ps p q f w lt e m =
    let here : newer k ps < length ps = subst (λ (i : ℕ). i < length ps) w lt in
    let same : p ≡ slice_index_or ps (newer k ps) p = e ∙ ap (λ (i : ℕ). slice_index_or ps i p) w in
    ap (λ (i : ℕ). set ps i q) w
    ∙ (ap (λ (x : Passed). set ps (newer k ps) x) (m ∙ ap (λ (x : Passed). record x { reported = true }) same) ∙ marked_at n k ps p f here)

pub marked_none : (k : ℕ) (ps : List Passed) → length ps ≤ newer k ps → marked k ps ≡ ps
marked_none k [] le = refl
marked_none k (p ∷ ps) le =
    elim (is_number k p) as (λ b. suc (length ps) ≤ cond b 0 (suc (newer k ps)) → record p { reported = p.reported || b } ∷ marked k ps ≡ p ∷ ps) [
      | true ↦ λ l. absurd (omega (arith, l))
      | false ↦ λ l.
          let later : length ps ≤ newer k ps = grind (arith, l) in
          rw (or-none p.reported) (ap (λ (qs : List Passed). p ∷ qs) (marked_none k ps later))
    ] le

falls-marked-from : (n k : ℕ) (ps : List Passed) → Falls n ps → Falls n (marked k ps)
falls-marked-from n k [] f = tt
falls-marked-from n k (p ∷ ps) f = (f.0, f.1, falls-marked-from p.number k ps f.2)

pub falls_marked : (n k : ℕ) (ps : List Passed) → Falls n ps → Falls n (marked k ps)
falls_marked n k ps f = falls-marked-from n k ps f

-- what is taken out by its place
decide : (a b : ℕ) → (a ≤ b) ⊎ (b < a)
decide a b = ⊎_elim (λ x. inl x.1) (λ y. inr y.1) (leb_tells a b)

is-none : (found : Option Passed) (place len : ℕ) → (IsSome found → place < len) → len ≤ place → found ≡ None
is-none None place len f le = refl
is-none (Some y) place len f le =
    let lt = f refl in
    absurd (omega (arith, lt, le))

found-at : (k : ℕ) (ps : List Passed) (found : Option Passed) → newer k ps < length ps
    → ((d : Passed) → newer k ps < length ps → found ≡ Some (slice_index_or ps (newer k ps) d)) → found ≡ edit_numbered k ps
found-at k [] found lt f = absurd (omega (arith, lt))
found-at k (p ∷ ps) found lt f = f p lt ∙ sym (numbered_at k (p ∷ ps) p lt)

pub out_taken : (k place len : ℕ) (ps : List Passed) (found : Option Passed) → len ≡ length ps → place ≡ newer k ps
    → (IsSome found → place < len) → ((d : Passed) → place < len → found ≡ Some (slice_index_or ps place d)) → found ≡ edit_numbered k ps
out_taken k place len ps found e w some at =
    let some-now : IsSome found → newer k ps < length ps = subst (λ (n : ℕ). IsSome found → newer k ps < n) e (subst (λ (m : ℕ). IsSome found → m < len) w some) in
    let at-now : (d : Passed) → newer k ps < length ps → found ≡ Some (slice_index_or ps (newer k ps) d) =
    subst (λ (n : ℕ). (d : Passed) → newer k ps < n → found ≡ Some (slice_index_or ps (newer k ps) d)) e
    (subst (λ (m : ℕ). (d : Passed) → m < len → found ≡ Some (slice_index_or ps m d)) w at) in
    ⊎_elim
    (λ le. is-none found (newer k ps) (length ps) some-now le ∙ sym (numbered_none k ps le))
    (λ lt. found-at k ps found lt at-now)
    (decide (length ps) (newer k ps))

pub out_left : (n k place len : ℕ) (ps new : List Passed) (found : Option Passed) → Falls n ps → len ≡ length ps → place ≡ newer k ps
    → (IsSome found → place < len) → (place < len → IsSome found) → OnSome found (new ≡ remove ps place) → (found ≡ None → new ≡ ps) → new ≡ without_edit k ps
out_left n k place len ps new None f e w some none on off =
    let gone : length ps ≤ newer k ps = ⊎_elim (λ le. le)
    (λ lt. absurd (false≢true (none (subst (λ (m : ℕ). m < len) (sym w) (subst (λ (l : ℕ). newer k ps < l) (sym e) lt))))) (decide (length ps) (newer k ps)) in
    off refl ∙ sym (none_out k ps gone)
out_left n k place len ps new (Some y) f e w some none on off =
    let lt : newer k ps < length ps = subst (λ (l : ℕ). newer k ps < l) e (subst (λ (m : ℕ). m < len) w (some refl)) in
    on ∙ ap (remove ps) w ∙ removed n k ps f lt

pub if_none : {A : Type 0} (found : Option Passed) → IfNone found A → found ≡ None → A
if_none None i e = i
if_none (Some y) i e = absurd (let g : Some y ≡ None = e in cc)

-- they still fall where one gives way to another of its number
pub falls_set : (n : ℕ) (ps : List Passed) (i : ℕ) (d y : Passed) → Falls n ps → i < length ps → y.number ≡ (slice_index_or ps i d).number → y.settled ≡ false
    → Falls n (slice_set ps i y)
falls_set n [] i d y f lt e un = absurd (omega (arith, lt))
falls_set n (p ∷ ps) zero d y f lt e un =
    (subst (λ (k : ℕ). k < n) (sym e) f.0, un, subst (λ (k : ℕ). Falls k ps) (sym e) f.2)
falls_set n (p ∷ ps) (suc i) d y f lt e un =
    let less : i < length ps = omega (arith, lt) in
    (f.0, f.1, falls_set p.number ps i d y f.2 less e un)
