-- The formula of a case, and how its models and its separating headers are read as one another.
use Rattle.std.specs.Prelude.{ℕ, ◌+◌, ◌*◌, Bool, true, false, not, ◌&&◌, ◌||◌, if◌then◌else◌, List, [], ◌∷◌, ◌++◌, length, Option, Some, None}
use Rattle.mon_cnf.specs.declared.clause.Lit.{Lit}
use Rattle.mon_cnf.specs.Formulas.{Cnf}
use Rattle.mon_header.specs.declared.header.Header.{Header}
use Rattle.mon_header.specs.declared.header.TheConstants.{BLANK}
use Rattle.mon_header.specs.Matching.{matches}
use Rattle.mon_header.specs.Places.{header_size, header_bits}
use Rattle.mon_table.specs.declared.rule.Rule.{Rule}
use Rattle.mon_outcome.specs.declared.emission.Emission.{Emission}
use Rattle.mon_outcome.specs.declared.shape.Shape.{Shape}
use Rattle.mon_outcome.specs.Emitting.{any_unknown}
use Rattle.mon_shows.specs.Views.{Viewing, caught}
use Rattle.mon_shows.specs.Separation.{without_update}
use Rattle.mon_job.specs.Jobs.{Task}
use Rattle.mon_literals.specs.Bearing.{borne}
use Rattle.mon_literals.specs.Conditions.{class_clauses}
use Rattle.mon_encode.specs.declared.case.Case.{Case}
use Rattle.mon_encode.specs.Cases.{winner_at, shape_of, given, present}
use Rattle.mon_encode.specs.Clauses.{sures, winning, chain, hidden, not_missed}

-- a header with nothing but a tag
abbrev pub tagged : ℕ → Header
tagged tag = record BLANK { dl_vlan = tag }

-- no action of the winner is unknown
abbrev pub is_known : Option Rule → Bool
is_known None = true
is_known (Some r) = not (any_unknown r.actions)

-- whatever the header, the emission shows the whole packet and comes back: of a header only the view's tag counts
abbrev pub comes_back : Viewing → Option Shape → Bool
comes_back v shape = (given shape (tagged v.tag)).1 && caught v (given shape (tagged v.tag)).0

-- the clauses of a case in the table with the update for sure, and in the one without it
abbrev pub clauses_in : Viewing → List Rule → List Rule → Case → List (List Lit)
clauses_in v t undone c =
    class_clauses v c.class c.in_port
    ++ (winning c.winner t
    ++ (chain header_size [] (sures undone)
    ++ (hidden header_size c.class c.in_port (shape_of t c) (sures undone) undone
    ++ not_missed header_size (shape_of t c) (sures undone))))

-- the clauses of a case; only the empty one where its emission never shows anything
unfoldable pub clauses_of : Task → Case → List (List Lit)
clauses_of j c =
    if is_known (winner_at (present j) c.winner) && comes_back j.view (shape_of (present j) c)
    then clauses_in j.view (present j) (without_update j.table j.target) c
    else [] ∷ []

-- the bits of a header, and two helpers for each sure rule of the table without the update
abbrev pub vars_of : Task → ℕ
vars_of j = header_size + 2 * length (sures (without_update j.table j.target))

-- the formula of a case
abbrev pub formula_of : Task → Case → Cnf
formula_of j c = record { vars = vars_of j; clauses = clauses_of j c }

-- the header that an assignment bears, and what it gives in the case
unfoldable pub decoded : Task → Case → (ℕ → Bool) → Header × Emission
decoded j c v = (borne v, (given (shape_of (present j) c) (borne v)).0)

-- the helpers of rules: whether each matches, and whether it or one before it does
abbrev pub helpers : Header → Bool → List Rule → List Bool
helpers h seen [] = []
helpers h seen (r ∷ t) = matches r.matching h ∷ (seen || matches r.matching h) ∷ helpers h (seen || matches r.matching h) t

-- a value for each variable, by which the formula of a case bears the header
unfoldable pub encoded : Task → Header → List Bool
encoded j h = header_bits h ++ helpers h false (sures (without_update j.table j.target))
