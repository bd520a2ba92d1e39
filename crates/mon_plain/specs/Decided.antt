-- What the solver answers.
use Rattle.std.specs.Prelude.{◌≡◌, true, length}
use Rattle.mon_cnf.specs.Formulas.{Cnf}
use Rattle.mon_cnf.specs.Truth.{formula_true, values_of}
use Rattle.mon_refute.specs.Follow.{is_accepted}
use Rattle.mon_plain.specs.declared.solve.Outcome.{Outcome}
use Rattle.mon_plain.specs.declared.solve.Outcome.TheVariants.{Model, Refuted}

-- a value for each variable, with which the formula is true, or a log that is accepted
abbrev pub Decided : Cnf → Outcome → Type 0
Decided f (Model values) = (length values ≡ f.vars) × (formula_true (values_of values) f.clauses ≡ true)
Decided f (Refuted log) = is_accepted f.vars f.clauses log ≡ true
