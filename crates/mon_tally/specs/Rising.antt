-- Elements with rising numbers.
use Rattle.std.specs.Prelude.{ℕ, Bool, not, ◌&&◌, ◌==◌, nat_lt, nat_le, List, [], ◌∷◌, filter}

module _ {J : Type 0} (number : J → ℕ) where
  -- the numbers rise, from above the first number up to the last
  abbrev pub rise : ℕ → List J → ℕ → Bool
  rise from [] to = nat_le from to
  rise from (j ∷ js) to = nat_lt from (number j) && rise (number j) js to

  -- those that have another number
  abbrev pub without : ℕ → List J → List J
  without n js = filter (λ j. not (number j == n)) js
