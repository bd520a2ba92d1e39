-- What the solver answers.
use Rattle.std.specs.Prelude.{◌≡◌, true, length}
use Rattle.mon_cnf.specs.Formulas.{Cnf}
use Rattle.mon_cnf.specs.Truth.{formula_true, values_of}
use Rattle.mon_refute.specs.Follow.{is_accepted}
use Rattle.mon_cdcl.specs.declared.solver.Found.{Found}
use Rattle.mon_cdcl.specs.declared.solver.Found.TheVariants.{Model, Refuted, Stopped}

-- a value for each variable, with which the formula is true, or a log that is accepted, or nothing where it was given up
abbrev pub Solved : Cnf → Found → Type 0
Solved f (Model values) = (length values ≡ f.vars) × (formula_true (values_of values) f.clauses ≡ true)
Solved f (Refuted log) = is_accepted f.vars f.clauses log ≡ true
Solved f (Stopped seen) = Unit {0}
