-- How marks show what is known.
use Rattle.std.specs.Prelude.{◌≡◌, ℕ, ◌<◌, Bool, true, false, cond, ◌==◌, List, [], ◌∷◌, length, Option, Some, None, slice_index}
use Rattle.mon_cnf.specs.declared.clause.Lit.{Lit}
use Rattle.mon_refute.specs.declared.marks.Reading.{Reading}
use Rattle.mon_refute.specs.declared.marks.Reading.TheVariants.{Contradicts, Gives, Neither}
use Rattle.mon_refute.specs.Follow.{is_true, is_false, same, mentions}

-- the mark of a true variable is 1, that of a false one 2
abbrev pub says : ℕ → Bool → Bool
says mark positive = mark == cond positive 1 2

pub record Shows (marks : List ℕ) (known : List Lit) : Type 0 where
  pub each : (l : Lit) → l.var < length marks → is_true known l ≡ says (slice_index marks l.var) l.positive

abbrev pub Started : Bool → List ℕ → Option (List Lit) → Type 0
Started b marks None = b ≡ false
Started b marks (Some known) = (b ≡ true) × Shows marks known

-- what is said once one more literal is seen, which is false or true as the tests say
abbrev pub note_with : Bool → Bool → Reading → Lit → Reading
note_with f t Contradicts l = cond f Contradicts (cond t Neither (Gives l))
note_with f t (Gives g) l = cond f (Gives g) (cond (same g l) (Gives g) Neither)
note_with f t Neither l = Neither

abbrev pub reads : List Lit → Reading → List Lit → Reading
reads known so_far [] = so_far
reads known so_far (l ∷ ls) = reads known (note_with (is_false known l) (is_true known l) so_far l) ls

-- nothing is marked
abbrev pub AreClear : List ℕ → Type 0
AreClear marks = (x : ℕ) → slice_index marks x ≡ 0

-- nothing is marked but variables of these literals
abbrev pub ClearBut : List Lit → List ℕ → Type 0
ClearBut c marks = (x : ℕ) → mentions x c ≡ false → slice_index marks x ≡ 0
