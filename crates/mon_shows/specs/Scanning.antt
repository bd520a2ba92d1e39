-- How tables are gone through rule by rule, in table order.
use Rattle.std.specs.Prelude.{ℕ, Bool, not, ◌&&◌, ◌||◌, if◌then◌else◌, List, [], ◌∷◌}
use Rattle.std.specs.List.{list_any}
use Rattle.mon_header.specs.declared.header.Header.{Header}
use Rattle.mon_header.specs.Matching.{matches}
use Rattle.mon_table.specs.declared.rule.Rule.{Rule}
use Rattle.mon_table.specs.Rules.{rank}
use Rattle.mon_table.specs.Places.{is_from_rank}
use Rattle.mon_outcome.specs.declared.emission.Emission.{Emission}
use Rattle.mon_outcome.specs.Emitting.{must, may}
use Rattle.mon_shows.specs.Separation.{is_miss}

-- a rule of this effective priority or a higher one matches the header
abbrev pub any_at : Header → ℕ → List Rule → Bool
any_at h n t = list_any (is_from_rank h n) t

-- the first rule that matches is sure and must emit this, and none behind it has its effective priority; or none matches,
-- and this is the miss
abbrev pub must_show_in : List Rule → Header → Emission → Bool
must_show_in [] h e = is_miss h e
must_show_in (r ∷ t) h e =
    if matches r.matching h then not r.unsure && (not (any_at h (rank r) t) && must r.actions h e) else must_show_in t h e

-- the rule matches the header, has this effective priority or a higher one, and may emit this
abbrev pub may_from_rank : Header → ℕ → Emission → Rule → Bool
may_from_rank h n e r = is_from_rank h n r && may r.actions h e

-- one of the rules matches, has this effective priority or a higher one, and may emit this
abbrev pub any_may_at : Header → ℕ → Emission → List Rule → Bool
any_may_at h n e t = list_any (may_from_rank h n e) t

-- a rule up to the first sure one that matches may emit this, or one behind that of its effective priority; or no sure one
-- matches, and this is the miss
abbrev pub may_show_in : List Rule → Header → Emission → Bool
may_show_in [] h e = is_miss h e
may_show_in (r ∷ t) h e =
    if matches r.matching h then may r.actions h e || (if r.unsure then may_show_in t h e else any_may_at h (rank r) e t)
    else may_show_in t h e
