-- A table is its list of rules, in table order.
use Rattle.std.specs.Prelude.{◌≡◌, ℕ, suc, Bool, true, not, ◌==◌, ◌&&◌, if◌then◌else◌, List, [], ◌∷◌, Option}
use Rattle.std.specs.List.{filter, find, list_any, AllByRecursion}
use Rattle.mon_header.specs.Actions.{AllFit}
use Rattle.mon_header.specs.Matching.{Matching, IsNormal, covers, overlaps}
use Rattle.mon_table.specs.declared.rule.Rule.{Rule}
use Rattle.mon_table.specs.Rules.{Identity, identity_of, rank, same_identity, comes_before}

-- each rule stands before every later one
abbrev pub InOrder : List Rule → Type 0
InOrder [] = Unit {0}
InOrder (r ∷ t) = AllByRecursion (λ s. comes_before (identity_of r) (identity_of s) ≡ true) t × InOrder t

-- the matches are in their normalised form
abbrev pub AllNormal : List Rule → Type 0
AllNormal t = AllByRecursion (λ r. IsNormal r.matching) t

-- a table: rules in table order, so no two of one identity
pub record IsTable (t : List Rule) : Type 0 where
  pub order : InOrder t
  pub normal : AllNormal t

-- the numbers of the actions of each of these rules fit
abbrev pub AllActionsFit : List Rule → Type 0
AllActionsFit t = AllByRecursion (λ r. AllFit r.actions) t

-- the rule of this identity
abbrev pub rule_of : Identity → List Rule → Option Rule
rule_of i t = find (λ r. same_identity (identity_of r) i) t

-- the table without a rule of this identity
abbrev pub without : Identity → List Rule → List Rule
without i t = filter (λ r. not (same_identity (identity_of r) i)) t

-- the table with the rule behind those that stand before it
abbrev pub placed : Rule → List Rule → List Rule
placed r [] = r ∷ []
placed r (s ∷ t) = if comes_before (identity_of s) (identity_of r) then s ∷ placed r t else r ∷ s ∷ t

-- the table with the rule, in place of one of its identity
abbrev pub with_rule : Rule → List Rule → List Rule
with_rule r t = placed r (without (identity_of r) t)

-- the places, counted from a first one, of the rules that pass a test
abbrev pub places_from : ℕ → (Rule → Bool) → List Rule → List ℕ
places_from n test [] = []
places_from n test (r ∷ t) = if test r then n ∷ places_from (suc n) test t else places_from (suc n) test t

-- the places of the rules that pass a test, rising
abbrev pub places : (Rule → Bool) → List Rule → List ℕ
places test t = places_from 0 test t

-- the match names the rule: it covers the rule's match
abbrev pub is_named : Matching → Rule → Bool
is_named m r = covers m r.matching

-- the rules that overlap the match
abbrev pub slice : Matching → List Rule → List Rule
slice m t = filter (λ r. overlaps m r.matching) t

-- another rule of the same effective priority, whose match overlaps
unfoldable pub ties : Rule → Rule → Bool
ties r s = (rank s == rank r) && (not (same_identity (identity_of s) (identity_of r)) && overlaps r.matching s.matching)

-- some rule of the table ties with the rule
abbrev pub tied : List Rule → Rule → Bool
tied t r = list_any (ties r) t
