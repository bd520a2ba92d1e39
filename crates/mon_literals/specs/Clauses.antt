-- Clauses of literals that are true together, and formulas with more clauses.
use Rattle.std.specs.Prelude.{not, List, [], ◌∷◌, ◌++◌, map}
use Rattle.mon_cnf.specs.declared.clause.Lit.{Lit}
use Rattle.mon_cnf.specs.Formulas.{Cnf}

-- the clause that says that not all of these literals are true
abbrev pub denied : List Lit → List Lit
denied ls = map (λ l. record { var = l.var; positive = not l.positive }) ls

-- the clauses that say that each of these literals is true
abbrev pub alone : List Lit → List (List Lit)
alone ls = map (λ l. l ∷ []) ls

-- the formula with more clauses
abbrev pub appended : Cnf → List (List Lit) → Cnf
appended f cs = record { vars = f.vars; clauses = f.clauses ++ cs }
