-- A formula as contracts see it.
use Rattle.std.specs.Prelude.{ℕ, List}
use Rattle.mon_cnf.specs.declared.clause.Lit.{Lit}

-- how many variables there are, and the clauses in order
pub record Cnf : Type 0 where
  pub vars : ℕ
  pub clauses : List (List Lit)
