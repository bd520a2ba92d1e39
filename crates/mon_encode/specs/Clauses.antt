-- What a case asks, as clauses over the bits of a header and two helper variables for each sure rule of the table without
-- the update: the first may be true only where the rule matches, the second only where it or a sure rule before it does.
use Rattle.std.specs.Prelude.{ℕ, suc, ◌+◌, Bool, true, false, not, ◌==◌, nat_lt, ◌||◌, if◌then◌else◌, List, [], ◌∷◌, ◌++◌, map, Option, Some, None}
use Rattle.std.specs.List.{slice_get, filter}
use Rattle.mon_cnf.specs.declared.clause.Lit.{Lit}
use Rattle.mon_header.specs.declared.class.Class.{Class}
use Rattle.mon_table.specs.declared.rule.Rule.{Rule}
use Rattle.mon_table.specs.Rules.{rank}
use Rattle.mon_outcome.specs.declared.door.Door.{Door}
use Rattle.mon_outcome.specs.declared.door.Door.TheVariants.{Port, Controller}
use Rattle.mon_outcome.specs.declared.shape.Shape.{Shape}
use Rattle.mon_outcome.specs.Emitting.{any_unknown}
use Rattle.mon_outcome.specs.Shaping.{shapes_of}
use Rattle.mon_literals.specs.Clauses.{denied, alone}
use Rattle.mon_literals.specs.Patterns.{pattern_of}
use Rattle.mon_literals.specs.Differing.{differ}

-- the variable is true, and false
abbrev pub true_at : ℕ → Lit
true_at k = record { var = k; positive = true }

abbrev pub false_at : ℕ → Lit
false_at k = record { var = k; positive = false }

-- the literal, where there is one
abbrev pub listed : Option Lit → List Lit
listed None = []
listed (Some l) = l ∷ []

-- the rule does not match
abbrev pub unmatched : Rule → List Lit
unmatched r = denied (pattern_of r.matching)

-- none of these rules, which stand from a place on, matches, but for the winner and those of a lower effective priority
abbrev pub beaten : ℕ → ℕ → ℕ → List Rule → List (List Lit)
beaten winner least place [] = []
beaten winner least place (r ∷ t) =
    if (place == winner) || nat_lt (rank r) least then beaten winner least (suc place) t
    else unmatched r ∷ beaten winner least (suc place) t

-- the rule at this place matches, and beats the others
abbrev pub won : ℕ → Option Rule → List Rule → List (List Lit)
won winner None t = []
won winner (Some r) t = alone (pattern_of r.matching) ++ beaten winner (rank r) 0 t

-- the rule at the winner's place is the only winner, or no rule matches
abbrev pub winning : Option ℕ → List Rule → List (List Lit)
winning None t = map unmatched t
winning (Some winner) t = won winner (slice_get t winner) t

-- the rules that hide what is below them: an unsure one may be gone
abbrev pub sures : List Rule → List Rule
sures t = filter (λ r. not r.unsure) t

-- the helpers of sure rules, from variable k on, with the literal that says that a rule before them matches
abbrev pub chain : ℕ → List Lit → List Rule → List (List Lit)
chain k earlier [] = []
chain k earlier (r ∷ t) =
    map (λ l. false_at k ∷ l ∷ []) (pattern_of r.matching)
    ++ ((false_at (k + 1) ∷ true_at k ∷ earlier) ∷ chain (k + 2) (true_at (k + 1) ∷ []) t)

-- a rule of a higher effective priority matches: the second helper of the last one. Rules stand by falling priority
abbrev pub above : ℕ → List Lit → ℕ → List Rule → List Lit
above k earlier n [] = earlier
above k earlier n (r ∷ t) = if nat_lt n (rank r) then above (k + 2) (true_at (k + 1) ∷ []) n t else earlier

-- some rule matches: the second helper of the last one
abbrev pub matched : ℕ → List Lit → List Rule → List Lit
matched k earlier [] = earlier
matched k earlier (r ∷ t) = matched (k + 2) (true_at (k + 1) ∷ []) t

-- both doors lead to one port, or to the controller
abbrev pub same_door : Door → Door → Bool
same_door (Port p) (Port q) = p == q
same_door (Port p) (Controller whole) = false
same_door (Controller whole) (Port q) = false
same_door (Controller whole) (Controller part) = true

-- what leaves by a rule's shape differs from the case's emission; None where it always does
abbrev pub apart : Option Shape → Shape → Option (List Lit)
apart None other = None
apart (Some shape) other = if same_door other.door shape.door then differ other.bits shape.bits else None

-- one of these literals is true, or what leaves differs
abbrev pub or_apart : List Lit → Option (List Lit) → List (List Lit) → List (List Lit)
or_apart base None rest = rest
or_apart base (Some d) rest = (base ++ d) ∷ rest

-- one of these literals is true, or what leaves by each of the shapes differs
abbrev pub or_all_apart : List Lit → Option Shape → List Shape → List (List Lit)
or_all_apart base shape [] = []
or_all_apart base shape (other ∷ shapes) = or_apart base (apart shape other) (or_all_apart base shape shapes)

-- one of these literals is true, or the rule cannot show the emission
abbrev pub or_hidden : List Lit → Class → ℕ → Option Shape → Rule → List (List Lit)
or_hidden base class in_port shape r =
    if any_unknown r.actions then base ∷ [] else or_all_apart base shape (shapes_of r.actions class in_port)

-- none of the rules wins, over the sure rules of the whole table, and can show the emission
abbrev pub hidden : ℕ → Class → ℕ → Option Shape → List Rule → List Rule → List (List Lit)
hidden k class in_port shape sure [] = []
hidden k class in_port shape sure (r ∷ t) =
    or_hidden (unmatched r ++ above k [] (rank r) sure) class in_port shape r ++ hidden k class in_port shape sure t

-- the emission is no miss of a header that no sure rule matches
abbrev pub not_missed : ℕ → Option Shape → List Rule → List (List Lit)
not_missed k None t = matched k [] t ∷ []
not_missed k (Some shape) t = []
