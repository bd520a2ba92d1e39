-- When two rewrites of one header differ, as one clause.
use Rattle.std.specs.Prelude.{ℕ, ◌+◌, ◌^◌, ◌<◌, ◌==◌, if◌then◌else◌, List, [], ◌∷◌, ◌++◌, Option, Some, None}
use Rattle.std.specs.List.{AllByRecursion}
use Rattle.mon_cnf.specs.declared.clause.Lit.{Lit}
use Rattle.mon_outcome.specs.declared.rewrite.Rewrite.{Rewrite}
use Rattle.mon_outcome.specs.Filling.{laid}
use Rattle.mon_literals.specs.Runs.{run, spelled}
use Rattle.mon_literals.specs.Clauses.{denied}

-- a fixed value fits the field's bits
abbrev pub FitsField : ℕ × Option ℕ → Type 0
FitsField (count, None) = Unit {0}
FitsField (count, Some x) = x < 2 ^ count

-- each fixed value fits its field
abbrev pub FitsFields : Rewrite → Type 0
FitsFields r = AllByRecursion FitsField (laid r)

-- the literals of which one is true where a field differs: none where both copy it or fix it to the same value, those
-- of the fixed value where one copies it; None where it always differs, by two values
abbrev pub field_differs : ℕ → ℕ → Option ℕ → Option ℕ → Option (List Lit)
field_differs start count None None = Some []
field_differs start count None (Some y) = Some (denied (spelled (run start count y)))
field_differs start count (Some x) None = Some (denied (spelled (run start count x)))
field_differs start count (Some x) (Some y) = if x == y then Some [] else None

-- one or the other differs
abbrev pub either_differs : Option (List Lit) → Option (List Lit) → Option (List Lit)
either_differs None d = None
either_differs (Some ls) None = None
either_differs (Some ls) (Some rest) = Some (ls ++ rest)

-- some field differs, the first of which begins at this place
abbrev pub fields_differ : ℕ → List (ℕ × Option ℕ) → List (ℕ × Option ℕ) → Option (List Lit)
fields_differ start [] bs = Some []
fields_differ start (a ∷ others) [] = Some []
fields_differ start (a ∷ others) (b ∷ bs) =
    either_differs (field_differs start a.0 a.1 b.1) (fields_differ (start + a.0) others bs)

-- the clause that says that what two rewrites make of one header differs; None where it always does
abbrev pub differ : Rewrite → Rewrite → Option (List Lit)
differ a b = fields_differ 0 (laid a) (laid b)
