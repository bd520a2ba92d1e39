-- The gates of the calls for an event: those of the moment of each call.
use Rattle.std.specs.Prelude.{◌≡◌, ℕ, suc, ◌<◌, List, [], ◌∷◌, ◌++◌, replicate, Option, Some, None}
use Rattle.mon_world.specs.declared.event.Note.TheVariants.{Verdict}
use Rattle.mon_world.specs.declared.history.Entry.TheVariants.{Given, Noted}
use Rattle.mon_legal.specs.Runs.{Run}
use Rattle.mon_legal.specs.Moments.{Moment}
use Rattle.mon_legal.specs.Moments.Moment.{Is}
use Rattle.mon_legal.specs.Legal.{HasEnded, gated}

-- the gates of the calls before the newest turn, the newest first. Calls are made between turns alone: before an event some
-- that failed and the one that gave it, before an answer some that failed
abbrev pub GatesBefore : Run → List Moment → List (List ℕ) → Type 0
GatesBefore run [] calls = calls ≡ []
GatesBefore run (Is (Given event) ∷ f) calls =
    (failed : ℕ) × (rest : List (List ℕ)) × (calls ≡ replicate (suc failed) (gated run f) ++ rest) × GatesBefore run f rest
GatesBefore run (Is (Noted (Verdict job kind)) ∷ f) calls =
    (failed : ℕ) × (rest : List (List ℕ)) × (calls ≡ replicate failed (gated run f) ++ rest) × GatesBefore run f rest
GatesBefore run (m ∷ f) calls = GatesBefore run f calls

-- and those of all calls: some failed since, only where the newest turn has ended
pub record AreGates (run : Run) (f : List Moment) (calls : List (List ℕ)) : Type 0 where
  pub failed : ℕ
  pub rest : List (List ℕ)
  pub newest : calls ≡ replicate failed (gated run f) ++ rest
  pub ended : 0 < failed → HasEnded run f
  pub before : GatesBefore run f rest

-- a hub that tells its log tells its calls
abbrev pub GatesWere : Run → List Moment → Option (List (List ℕ)) → Type 0
GatesWere run f None = ⊥
GatesWere run f (Some calls) = AreGates run f calls
