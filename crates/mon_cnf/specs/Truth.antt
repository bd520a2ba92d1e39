-- When an assignment satisfies a formula. An assignment is any function from variables to Bool.
use Rattle.std.specs.Prelude.{ℕ, ◌<◌, Bool, false, not, cond, List, slice_index_or}
use Rattle.std.specs.List.{list_any, list_all, AllByRecursion}
use Rattle.mon_cnf.specs.declared.clause.Lit.{Lit}

-- the assignment that a list of values spells, and false past its end
abbrev pub values_of : List Bool → ℕ → Bool
values_of values x = slice_index_or values x false

-- a literal is true where its variable has the value that it asks for
abbrev pub lit_true : (ℕ → Bool) → Lit → Bool
lit_true v l = cond l.positive (v l.var) (not (v l.var))

-- a clause is true where one of its literals is
abbrev pub clause_true : (ℕ → Bool) → List Lit → Bool
clause_true v c = list_any (lit_true v) c

-- a formula is true where each of its clauses is
abbrev pub formula_true : (ℕ → Bool) → List (List Lit) → Bool
formula_true v cs = list_all (clause_true v) cs

-- each literal of a clause is of one of so many variables
abbrev pub Within : ℕ → List Lit → Type 0
Within vars c = AllByRecursion (λ l. l.var < vars) c

-- the same of each clause
abbrev pub WithinAll : ℕ → List (List Lit) → Type 0
WithinAll vars cs = AllByRecursion (λ c. Within vars c) cs
