-- What a line's hints are.
use Rattle.std.specs.Prelude.{ℕ, ◌<◌, List}
use Rattle.std.specs.List.{AllByRecursion}

-- no hint is 0
abbrev pub AreHints : List ℕ → Type 0
AreHints hs = AllByRecursion (λ h. 0 < h) hs
