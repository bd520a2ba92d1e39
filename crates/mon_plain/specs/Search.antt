-- What the steps of the search answer.
use Rattle.std.specs.Prelude.{◌≡◌, ◌≢◌, ℕ, ◌<◌, ◌+◌, true, false, ◌⊎◌, List, [], ◌∷◌, ◌++◌, length, replicate, Option, Some, None, slice_index_or}
use Rattle.std.specs.List.{list_all}
use Rattle.mon_list.specs.Has.{Has}
use Rattle.mon_cnf.specs.declared.clause.Lit.{Lit}
use Rattle.mon_cnf.specs.Formulas.{Cnf}
use Rattle.mon_refute.specs.declared.lines.LogLine.{LogLine}
use Rattle.mon_refute.specs.Follow.{named, literals_of, all_follow}
use Rattle.mon_plain.specs.declared.look.Mark.{Mark}
use Rattle.mon_plain.specs.declared.look.Mark.TheVariants.{Free}
use Rattle.mon_plain.specs.declared.pick.Pick.{Pick}
use Rattle.mon_plain.specs.declared.pick.Pick.TheVariants.{Close, Enter, Done}
use Rattle.mon_plain.specs.declared.pick.Entry.{Entry}
use Rattle.mon_plain.specs.declared.back.Back.{Back}
use Rattle.mon_plain.specs.declared.back.Back.TheVariants.{Refutes, Forces}
use Rattle.mon_plain.specs.declared.solve.Step.{Step}
use Rattle.mon_plain.specs.declared.solve.Step.TheVariants.{Next, Satisfied, Refuted}
use Rattle.mon_plain.specs.declared.solve.End.{End}
use Rattle.mon_plain.specs.declared.solve.End.TheVariants.{AllTrue, Conflict}
use Rattle.mon_plain.specs.Marks.{any_on}
use Rattle.mon_plain.specs.Trail.{IsClosed, CanEnter, Stands, is_forced, rank_of, clauses_with}

-- a pick is right, whatever lines the log has
abbrev pub Picked : List (List Lit) → List (List Lit) → List Mark → Pick → Type 0
Picked cs lines marks (Close h) = IsClosed (cs ++ lines) marks h
Picked cs lines marks (Enter e) = CanEnter (cs ++ lines) marks e
Picked cs lines marks Done = list_all (any_on marks) cs ≡ true

-- the clause at the place is true, or asks for this
abbrev pub PickedAt : List (List Lit) → List (List Lit) → List Mark → ℕ → Option Pick → Type 0
PickedAt cs lines marks place None = any_on marks (slice_index_or cs place []) ≡ true
PickedAt cs lines marks place (Some p) = Picked cs lines marks p

abbrev pub AllOn : List Mark → List (List Lit) → Type 0
AllOn marks cs = list_all (any_on marks) cs ≡ true

-- some clause has this number
abbrev pub IsNamed : List (List Lit) → List LogLine → ℕ → Type 0
IsNamed cs log h = (c : List Lit) × (named (cs ++ literals_of log) h ≡ Some c)

-- new has the literals of old, and those of c with another variable
pub record Joined (old c : List Lit) (x : ℕ) (new : List Lit) : Type 0 where
  pub kept : (k : Lit) → Has old k → Has new k
  pub added : (k : Lit) → Has c k → k.var ≢ x → Has new k
  pub only : (k : Lit) → Has new k → Has old k ⊎ (Has c k × k.var ≢ x)

-- the literals of both clauses but for those of x
pub record Resolved (cs : List (List Lit)) (first second x : ℕ) (r : List Lit) : Type 0 where
  pub one : List Lit
  pub two : List Lit
  pub one_there : named cs first ≡ Some one
  pub two_there : named cs second ≡ Some two
  pub has_one : (k : Lit) → Has one k → k.var ≢ x → Has r k
  pub has_two : (k : Lit) → Has two k → k.var ≢ x → Has r k
  pub only : (k : Lit) → Has r k → k.var ≢ x × (Has one k ⊎ Has two k)

-- the line of both clauses was added, and has this number
pub record Added (cs : List (List Lit)) (old new : List LogLine) (first second x h : ℕ) : Type 0 where
  pub line : LogLine
  pub log : new ≡ old ++ (line ∷ [])
  pub hints : line.hints ≡ first ∷ second ∷ []
  pub literals : Resolved (cs ++ literals_of old) first second x line.literals
  pub number : h ≡ length cs + length new

-- the trail was taken back to before a decision
pub record Jumped (old new : List Entry) : Type 0 where
  pub decision : Entry
  pub cut : List Entry
  pub was : old ≡ new ++ (decision ∷ cut)
  pub decided : is_forced decision ≡ false

-- what a conflict leads to: it closes the log, or forces a literal in a decision's place
abbrev pub BackedUp : Cnf → List Entry → List LogLine → List Entry → List Mark → Back → Type 0
BackedUp f old log trail marks (Refutes h) = Stands f log trail marks × (trail ≡ []) × IsClosed (clauses_with f log) marks h
BackedUp f old log trail marks (Forces e) = Stands f log trail marks × CanEnter (clauses_with f log) marks e × (is_forced e ≡ true) × Jumped old trail

-- a conflict, while the trail is taken back
pub record Backing (f : Cnf) (old : List Entry) (log : List LogLine) (trail : List Entry) (marks : List Mark) (h : ℕ) : Type 0 where
  pub stands : Stands f log trail marks
  pub closed : IsClosed (clauses_with f log) marks h
  pub cut : List Entry
  pub was : old ≡ trail ++ cut

-- the next step of the search, or its end
abbrev pub Stepped : Cnf → List Entry → List LogLine → List Entry → List Mark → Step → Type 0
Stepped f old log trail marks (Next e) = Stands f log trail marks × CanEnter (clauses_with f log) marks e × (rank_of f old < rank_of f (trail ++ (e ∷ [])))
Stepped f old log trail marks Satisfied = (length marks ≡ f.vars) × AllOn marks f.clauses
Stepped f old log trail marks (Refuted h) = (all_follow f.vars f.clauses log ≡ true) × IsClosed (clauses_with f log) (replicate f.vars Free) h

abbrev pub Ended : Cnf → List LogLine → List Mark → End → Type 0
Ended f log marks AllTrue = (length marks ≡ f.vars) × AllOn marks f.clauses
Ended f log marks (Conflict h) = (all_follow f.vars f.clauses log ≡ true) × IsClosed (clauses_with f log) (replicate f.vars Free) h
