-- What the steps of the search answer.
use Rattle.std.specs.Prelude.{◌≡◌, ℕ, ◌+◌, ◌-◌, ◌*◌, ◌^◌, ◌<◌, true, List, ◌++◌, length, Option, Some, None}
use Rattle.mon_cnf.specs.Formulas.{Cnf}
use Rattle.mon_refute.specs.declared.lines.LogLine.{LogLine}
use Rattle.mon_refute.specs.Follow.{is_accepted}
use Rattle.mon_trail.specs.declared.look.Mark.{Mark}
use Rattle.mon_trail.specs.declared.trail.Entry.{Entry}
use Rattle.mon_trail.specs.Picks.{AllOn}
use Rattle.mon_trail.specs.Trail.{CanEnter, IsClosed, Jumped, Stands, clauses_with, is_forced, rank_of}
use Rattle.mon_cdcl.specs.declared.propagate.Visit.{Visit}
use Rattle.mon_cdcl.specs.declared.propagate.Visit.TheVariants.{Stays, Moves, Conflict}
use Rattle.mon_cdcl.specs.declared.solver.End.{End}
use Rattle.mon_cdcl.specs.declared.solver.End.TheVariants.{AllTrue, Refuted, Stopped}
use Rattle.mon_cdcl.specs.declared.solver.Go.{Go}
use Rattle.mon_cdcl.specs.declared.solver.Go.TheVariants.{On, Conflict as Clashes, End as Ends}
use Rattle.mon_trail.specs.declared.trail.Trail.{Trail}

-- the trail has grown, or is the same
pub record Grown (f : Cnf) (log : List LogLine) (old new : Trail) : Type 0 where
  pub stands : Stands f log new.entries.items new.marks.items
  pub more : List Entry
  pub is : new.entries.items ≡ old.entries.items ++ more

-- a clause that was named false is
abbrev pub Propagated : Cnf → List LogLine → Trail → Trail → Option ℕ → Type 0
Propagated f log old new None = Grown f log old new
Propagated f log old new (Some h) = Grown f log old new × IsClosed (clauses_with f log) new.marks.items h

abbrev pub Visited : Cnf → List LogLine → Trail → Trail → Visit → Type 0
Visited f log old new Stays = Grown f log old new
Visited f log old new Moves = Grown f log old new
Visited f log old new (Conflict h) = Propagated f log old new (Some h)

-- what a conflict leads to: an entry in a decision's place, or the end of the log
abbrev pub Settled : Cnf → List Entry → List LogLine → List Entry → List Mark → Option Entry → Type 0
Settled f old log es marks None = is_accepted f.vars f.clauses log ≡ true
Settled f old log es marks (Some e) = Stands f log es marks × CanEnter (clauses_with f log) marks e × (is_forced e ≡ true) × Jumped old es

-- what is left to do, at most: the ranks that are left, and all ranks for each restart that may come
abbrev pub work : Cnf → ℕ → List Entry → ℕ
work f left es = left * 3 ^ f.vars + (3 ^ f.vars - rank_of f es)

abbrev pub Ended : Cnf → List LogLine → List Mark → End → Type 0
Ended f log marks AllTrue = (length marks ≡ f.vars) × AllOn marks f.clauses
Ended f log marks Refuted = is_accepted f.vars f.clauses log ≡ true
Ended f log marks (Stopped seen) = Unit {0}

-- the search has come nearer to its end, or is there
abbrev pub Stepped : Cnf → ℕ → List Entry → ℕ → List LogLine → Trail → Option End → Type 0
Stepped f left old left_now log t None = Stands f log t.entries.items t.marks.items × (work f left_now t.entries.items < work f left old)
Stepped f left old left_now log t (Some end) = Ended f log t.marks.items end

-- a restart, a decision, a clause that is false, or the end
abbrev pub WentOn : Cnf → ℕ → Trail → ℕ → List LogLine → Trail → Go → Type 0
WentOn f left old left_now log t On = Stands f log t.entries.items t.marks.items × (work f left_now t.entries.items < work f left old.entries.items)
WentOn f left old left_now log t (Clashes h) = (t ≡ old) × (left_now ≡ left) × IsClosed (clauses_with f log) t.marks.items h
WentOn f left old left_now log t Ends = (length t.marks.items ≡ f.vars) × AllOn t.marks.items f.clauses
