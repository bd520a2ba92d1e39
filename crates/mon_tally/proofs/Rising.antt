-- Elements with rising numbers: one more, and one less.
use Rattle.std.proofs.Common.{◌≡◌, ℕ, zero, suc, ◌<◌, ◌≤◌, ◌&&◌, ◌==◌, nat_lt, nat_le, not, cond, Bool, true, false, true≢false, List, [], ◌∷◌, ◌++◌, length, get_or, sym, refl, ap, ◌∙◌, arith, eq-eqb}
use Rattle.std.proofs.lemmas.Bool.Decides.{nat_tests}
use Rattle.std.specs.List.{remove}
use Rattle.mon_tally.specs.Rising.{rise, without}

both : (a b : Bool) → a ≡ true → b ≡ true → (a && b) ≡ true
both true b x y = y
both false b x y = absurd (true≢false (sym x))

first : (a b : Bool) → (a && b) ≡ true → a ≡ true
first true b h = refl
first false b h = absurd (true≢false (sym h))

second : (a b : Bool) → (a && b) ≡ true → b ≡ true
second true b h = h
second false b h = absurd (true≢false (sym h))

below : (a b : ℕ) → nat_lt a b ≡ true → a < b
below a b h = grind (arith, nat_tests)

below_tells : (a b : ℕ) → a < b → nat_lt a b ≡ true
below_tells a b h = grind (arith, nat_tests)

up_to : (a b : ℕ) → nat_le a b ≡ true → a ≤ b
up_to a b h = grind (arith, nat_tests)

up_to_tells : (a b : ℕ) → a ≤ b → nat_le a b ≡ true
up_to_tells a b h = grind (arith, nat_tests)

other_tells : (a b : ℕ) → a < b → (b == a) ≡ false
other_tells a b h = grind (arith, nat_tests)

other_tells_too : (a b : ℕ) → a < b → (a == b) ≡ false
other_tells_too a b h = grind (arith, nat_tests)

module _ {J : Type 0} (number : J → ℕ) where
  above : (from : ℕ) (j : J) (js : List J) (to : ℕ) → rise number from (j ∷ js) to ≡ true → from < number j
  above from j js to h = below from (number j) (first (nat_lt from (number j)) (rise number (number j) js to) h)

  rest : (from : ℕ) (j : J) (js : List J) (to : ℕ) → rise number from (j ∷ js) to ≡ true → rise number (number j) js to ≡ true
  rest from j js to h = second (nat_lt from (number j)) (rise number (number j) js to) h

  join : (from : ℕ) (j : J) (js : List J) (to : ℕ) → from < number j → rise number (number j) js to ≡ true → rise number from (j ∷ js) to ≡ true
  join from j js to lt h = both (nat_lt from (number j)) (rise number (number j) js to) (below_tells from (number j) lt) h

  rise_lower : (low from : ℕ) (js : List J) (to : ℕ) → low ≤ from → rise number from js to ≡ true → rise number low js to ≡ true
  rise_lower low from [] to le h = let a : from ≤ to = up_to from to h in up_to_tells low to (omega arith)
  rise_lower low from (j ∷ js) to le h = let a : from < number j = above from j js to h in join low j js to (omega arith) (rest from j js to h)

  pub rise_snoc : (from : ℕ) (js : List J) (to : ℕ) (j : J) → rise number from js to ≡ true → to < number j → rise number from (js ++ j ∷ []) (number j) ≡ true
  rise_snoc from [] to j h lt = let a : from ≤ to = up_to from to h in join from j [] (number j) (omega arith) (up_to_tells (number j) (number j) (omega arith))
  rise_snoc from (i ∷ is) to j h lt = join from i (is ++ j ∷ []) (number j) (above from i is to h) (rise_snoc (number i) is to j (rest from i is to h) lt)

  pub rise_remove : (from : ℕ) (js : List J) (to k : ℕ) → rise number from js to ≡ true → rise number from (remove js k) to ≡ true
  rise_remove from [] to zero h = h
  rise_remove from [] to (suc k) h = h
  rise_remove from (j ∷ js) to zero h = let a : from < number j = above from j js to h in rise_lower from (number j) js to (omega arith) (rest from j js to h)
  rise_remove from (j ∷ js) to (suc k) h = join from j (remove js k) to (above from j js to h) (rise_remove (number j) js to k (rest from j js to h))

  none_without : (from : ℕ) (js : List J) (to n : ℕ) → n ≤ from → rise number from js to ≡ true → without number n js ≡ js
  none_without from [] to n le h = refl
  none_without from (j ∷ js) to n le h =
      let a : from < number j = above from j js to h in
      let other : (number j == n) ≡ false = other_tells n (number j) (omega arith) in
      let ih : without number n js ≡ js = none_without (number j) js to n (omega arith) (rest from j js to h) in
      ap (λ (b : Bool). cond (not b) (j ∷ without number n js) (without number n js)) other ∙ ap (λ (l : List J). j ∷ l) ih

  rise_at : (from : ℕ) (js : List J) (to k : ℕ) (d : J) → k < length js → rise number from js to ≡ true → from < number (get_or js k d)
  rise_at from [] to k d lt h = absurd (omega arith)
  rise_at from (j ∷ js) to zero d lt h = above from j js to h
  rise_at from (j ∷ js) to (suc k) d lt h =
      let a : from < number j = above from j js to h in
      let b : number j < number (get_or js k d) = rise_at (number j) js to k d (omega arith) (rest from j js to h) in omega arith

  -- to take one out is to leave those that have another number
  pub remove_without : (from : ℕ) (js : List J) (to k : ℕ) (d : J) → k < length js → rise number from js to ≡ true → remove js k ≡ without number (number (get_or js k d)) js
  remove_without from [] to k d lt h = absurd (omega arith)
  remove_without from (j ∷ js) to zero d lt h =
      let w : List J = without number (number j) js in
      let same : (number j == number j) ≡ true = eq-eqb (number j) (number j) refl in
      let none : w ≡ js = none_without (number j) js to (number j) (omega arith) (rest from j js to h) in
      sym (ap (λ (b : Bool). cond (not b) (j ∷ w) w) same ∙ none)
  remove_without from (j ∷ js) to (suc k) d lt h =
      let n : ℕ = number (get_or js k d) in
      let w : List J = without number n js in
      let b : number j < n = rise_at (number j) js to k d (omega arith) (rest from j js to h) in
      let other : (number j == n) ≡ false = other_tells_too (number j) n b in
      let ih : remove js k ≡ w = remove_without (number j) js to k d (omega arith) (rest from j js to h) in
      ap (λ (l : List J). j ∷ l) ih ∙ sym (ap (λ (b : Bool). cond (not b) (j ∷ w) w) other)
