-- How often a stop was asked.
use Rattle.std.specs.Prelude.{ℕ, ◌+◌, ◌-◌, ◌^◌, ◌≤◌, min, Option, Some, None}

-- a count of asks, but for those that a u64 has no number for: it stands still at its last value
abbrev pub counted : ℕ → ℕ
counted asks = min asks (2 ^ 64 - 1)

-- a stop that tells how often it was asked was asked that often, at least
abbrev pub AskedAtLeast : ℕ → Option ℕ → Option ℕ → Type 0
AskedAtLeast least None now = Unit {0}
AskedAtLeast least (Some before) None = ⊥
AskedAtLeast least (Some before) (Some now) = counted (before + least) ≤ now
