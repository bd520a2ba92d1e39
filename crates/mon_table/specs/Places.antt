-- Where a rule stands, or would stand.
use Rattle.std.specs.Prelude.{ℕ, zero, suc, Bool, false, not, nat_le, ◌&&◌, if◌then◌else◌, List, [], ◌∷◌}
use Rattle.mon_header.specs.declared.header.Header.{Header}
use Rattle.mon_header.specs.Matching.{matches}
use Rattle.mon_table.specs.declared.rule.Rule.{Rule}
use Rattle.mon_table.specs.Rules.{Identity, identity_of, rank, same_identity, comes_before}

-- the number of rules at the front that stand before the identity
abbrev pub place_of : Identity → List Rule → ℕ
place_of i [] = 0
place_of i (r ∷ t) = if comes_before (identity_of r) i then suc (place_of i t) else 0

-- a rule of the identity stands at the place
abbrev pub stands_at : Identity → ℕ → List Rule → Bool
stands_at i n [] = false
stands_at i zero (r ∷ t) = same_identity (identity_of r) i
stands_at i (suc n) (r ∷ t) = stands_at i n t

-- the rule is sure, and matches the header: so it hides what is below it
abbrev pub hides : Header → Rule → Bool
hides h r = not r.unsure && matches r.matching h

-- the lowest effective priority that may win for the header: that of the first sure rule that matches, and 0 where none
-- does
abbrev pub least_rank : Header → List Rule → ℕ
least_rank h [] = 0
least_rank h (r ∷ t) = if hides h r then rank r else least_rank h t

-- the rule matches the header, and has this effective priority or a higher one
abbrev pub is_from_rank : Header → ℕ → Rule → Bool
is_from_rank h n r = nat_le n (rank r) && matches r.matching h
