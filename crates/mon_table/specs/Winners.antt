-- Which rules of a table win for a header (OpenFlow 1.0.0, matching), whichever of its unsure rules are gone.
use Rattle.std.specs.Prelude.{◌≡◌, Bool, false, not, nat_le, ◌&&◌, ◌||◌, List}
use Rattle.std.specs.List.{filter, list_all, AllByRecursion}
use Rattle.mon_header.specs.declared.header.Header.{Header}
use Rattle.mon_header.specs.Matching.{matches}
use Rattle.mon_table.specs.declared.rule.Rule.{Rule}
use Rattle.mon_table.specs.Rules.{rank}

-- no sure rule of the table that matches the header has a higher effective priority
unfoldable pub is_highest : List Rule → Header → Rule → Bool
is_highest t h r = list_all (λ s. not (matches s.matching h) || (s.unsure || nat_le (rank s) (rank r))) t

-- the rule matches the header, and no sure one that does is higher
abbrev pub wins : List Rule → Header → Rule → Bool
wins t h r = matches r.matching h && is_highest t h r

-- the rules that win for the header, in table order: where unsure ones are gone, each that is left may be the one
abbrev pub winners : List Rule → Header → List Rule
winners t h = filter (wins t h) t

-- a packet with this header may miss: no sure rule of the table matches it
abbrev pub may_miss : List Rule → Header → Bool
may_miss t h = list_all (λ s. not (matches s.matching h) || s.unsure) t

-- what is left of a table where the unsure rules of which the test says so are gone
abbrev pub left : (Rule → Bool) → List Rule → List Rule
left goes t = filter (λ r. not (r.unsure && goes r)) t

-- the second table is the first without some of its unsure rules
pub record Gone (t u : List Rule) : Type 0 where
  pub goes : Rule → Bool
  pub is : u ≡ left goes t

-- no rule of the table is unsure
abbrev pub AllSure : List Rule → Type 0
AllSure t = AllByRecursion (λ r. r.unsure ≡ false) t
