-- What a step tells its seat.
use Rattle.std.specs.Prelude.{◌≡◌, ℕ, [], ◌∷◌, ◌++◌}
use Rattle.atomic_table.specs.Table.{Me, Step}
use Rattle.mon_board.specs.declared.rule.View.{View}
use Rattle.mon_board.specs.Versions.{AllPublished, NoneAbove}
use Rattle.mon_board.specs.Rule.{view}

-- the version at the step's slot joins what was seen, and is not below any seen there
abbrev pub Looks : Step (Unit {0}) → Me (Unit {0}) View → ℕ → Me (Unit {0}) View → Type 0
Looks s v n w = (w.1 ≡ v.1) × (w.0 ≡ view v.0.writes v.0.published (v.0.seen ++ (s.word, n) ∷ [])) × NoneAbove v.0.seen s.word n

-- the version joins what was published
abbrev pub Publishes : Step (Unit {0}) → Me (Unit {0}) View → ℕ → Me (Unit {0}) View → Type 0
Publishes s v n w = (w.1 ≡ v.1) × (w.0 ≡ view v.0.writes (v.0.published ++ (s.word, n) ∷ []) v.0.seen)

-- nothing changes, and what the seat saw was published
abbrev pub Shows : Step (Unit {0}) → Me (Unit {0}) View → ℕ → Me (Unit {0}) View → Type 0
Shows s v n w = (w ≡ v) × AllPublished v.0.published v.0.seen
