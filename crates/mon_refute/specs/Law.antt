-- What an accepted log means.
use Rattle.std.specs.Prelude.{◌≡◌, ℕ, Bool, true, List}
use Rattle.mon_cnf.specs.declared.clause.Lit.{Lit}
use Rattle.mon_cnf.specs.Truth.{formula_true}
use Rattle.mon_refute.specs.declared.lines.LogLine.{LogLine}
use Rattle.mon_refute.specs.Follow.{is_accepted}

-- no assignment makes the clauses true
abbrev pub Unsatisfiable : List (List Lit) → Type 0
Unsatisfiable cs = (v : ℕ → Bool) → formula_true v cs ≡ true → ⊥

abbrev pub AcceptedMeansNone : Type 0
AcceptedMeansNone = (vars : ℕ) (cs : List (List Lit)) (log : List LogLine) → is_accepted vars cs log ≡ true → Unsatisfiable cs
