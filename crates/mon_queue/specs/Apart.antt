-- Which edit may go out while others are unsettled.
use Rattle.std.specs.Prelude.{Bool, List, not}
use Rattle.std.specs.List.{list_all}
use Rattle.mon_header.specs.Matching.{Matching, overlaps}

-- the match overlaps none of the others
abbrev pub apart : Matching → List Matching → Bool
apart m others = list_all (λ other. not (overlaps m other)) others
