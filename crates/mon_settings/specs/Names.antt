-- The names that the settings may have.
use Rattle.std.specs.Prelude.{ℕ, Bool, nat_eq, ◌||◌, if◌then◌else◌, List, codes, Option, Some, None, option_and_then, Result, Ok, Err, ⊤}
use Rattle.std.specs.Cmp.Lexicographic.{pointwise}
use Rattle.serde_json.specs.Data.{Data, Members, no_members, member}
use Rattle.serde_json.specs.Find.{as_object}

-- two texts are equal
unfoldable pub is_name : List ℕ → List ℕ → Bool
is_name key name = pointwise nat_eq key name

-- the name of a member up to `sessions`
unfoldable pub is_peers_name : List ℕ → Bool
is_peers_name key =
    is_name key (codes "alarm_ticks")
    || (is_name key (codes "controller")
    || (is_name key (codes "listen")
    || (is_name key (codes "retry_ticks")
    || is_name key (codes "sessions"))))

-- `switches`, `links` or `tags`
unfoldable pub is_network_name : List ℕ → Bool
is_network_name key =
    is_name key (codes "switches")
    || (is_name key (codes "links")
    || is_name key (codes "tags"))

-- the name of a member from `tick_ms` on
unfoldable pub is_pace_name : List ℕ → Bool
is_pace_name key =
    is_name key (codes "tick_ms")
    || (is_name key (codes "watch_ticks")
    || is_name key (codes "workers"))

-- the name of a member of the settings
abbrev pub is_known : List ℕ → Bool
is_known key = is_peers_name key || (is_network_name key || is_pace_name key)

-- the least name of a member that isn't one of the settings: members stand in the order of their names
abbrev pub unknown : Members → Option (List ℕ)
unknown no_members = None
unknown (member key d ms) = if is_known key then unknown ms else Some key

-- no member has another name, or the path of the first that does
abbrev pub or_unknown : Option (List ℕ) → Result ⊤ (List ℕ)
or_unknown None = Ok tt
or_unknown (Some name) = Err name

abbrev pub all_known : Data → Result ⊤ (List ℕ)
all_known d = or_unknown (option_and_then unknown (as_object d))
