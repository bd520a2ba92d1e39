-- Which slot the next session takes.
use Rattle.std.specs.Prelude.{ℕ, map, Option}
use Rattle.mon_legal.specs.Sessions.{Placed, least_free}
use Rattle.mon_turns.specs.Core.{Connected, State, SLOTS}

abbrev pub placed_of : Connected → Placed
placed_of c = record { session = c.session.number; slot = c.session.slot }

-- the least slot that no open session has
unfoldable pub free_slot : State → Option ℕ
free_slot core = least_free SLOTS 0 (map placed_of core.sessions)
