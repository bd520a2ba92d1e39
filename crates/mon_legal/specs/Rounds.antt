-- Which rule of a table is watched next.
use Rattle.std.specs.Prelude.{Bool, not, ◌&&◌, List, [], ◌++◌, filter, find, Option, Some, None}
use Rattle.mon_header.specs.Matching.{Matching}
use Rattle.mon_table.specs.declared.rule.Rule.{Rule}
use Rattle.mon_table.specs.Rules.{Identity, identity_of, comes_before}
use Rattle.mon_table.specs.Tables.{tied}
use Rattle.mon_queue.specs.Apart.{apart}

-- the rules behind an identity in table order; it keeps its place where its rule is gone
abbrev pub behind : Option Identity → List Rule → List Rule
behind None t = []
behind (Some last) t = filter (λ r. comes_before last (identity_of r)) t

-- the rule is not tied, and overlaps none of these matches, which are those of unsettled edits
abbrev pub may_watch : List Rule → List Matching → Rule → Bool
may_watch t unsettled r = not (tied t r) && apart r.matching unsettled

-- the next one behind the last, wrapping: the last may be chosen again
abbrev pub next_rule : Option Identity → List Rule → List Matching → Option Rule
next_rule last t unsettled = find (may_watch t unsettled) (behind last t ++ t)
