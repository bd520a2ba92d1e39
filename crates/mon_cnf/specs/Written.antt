-- Clauses written as numbers, as in the format of DIMACS.
use Rattle.std.specs.Prelude.{ℕ, zero, suc, ℤ, pos, negsuc, true, false, nat_lt, if◌then◌else◌, List, [], ◌∷◌, ◌++◌}
use Rattle.mon_cnf.specs.declared.clause.Lit.{Lit}

-- the variable n is n + 1, and its negation is -(n + 1), where n is one of so many variables; other numbers are no literal
abbrev pub literals_of : ℕ → ℤ → List Lit
literals_of vars (pos zero) = []
literals_of vars (pos (suc n)) = if nat_lt n vars then record { var = n; positive = true } ∷ [] else []
literals_of vars (negsuc n) = if nat_lt n vars then record { var = n; positive = false } ∷ [] else []

-- the literals that numbers are
abbrev pub written : ℕ → List ℤ → List Lit
written vars [] = []
written vars (n ∷ ns) = literals_of vars n ++ written vars ns
