-- The trail: literals that are taken as true, the oldest first, and why.
use Rattle.std.specs.Prelude.{◌≡◌, ℕ, zero, suc, ◌+◌, ◌*◌, ◌^◌, Bool, true, false, cond, List, [], ◌∷◌, ◌++◌, map, replicate, Option, Some, None, slice_set}
use Rattle.mon_cnf.specs.declared.clause.Lit.{Lit}
use Rattle.mon_cnf.specs.Formulas.{Cnf}
use Rattle.mon_refute.specs.declared.lines.LogLine.{LogLine}
use Rattle.mon_refute.specs.Follow.{named, literals_of, all_follow}
use Rattle.mon_trail.specs.declared.look.Mark.{Mark}
use Rattle.mon_trail.specs.declared.look.Mark.TheVariants.{Free, Is}
use Rattle.mon_trail.specs.declared.trail.Entry.{Entry}
use Rattle.mon_trail.specs.Marks.{IsOpen, Forces, all_off}

-- the clause of this number forces the literal
pub record HasReason (cs : List (List Lit)) (marks : List Mark) (l : Lit) (h : ℕ) : Type 0 where
  pub clause : List Lit
  pub there : named cs h ≡ Some clause
  pub forces : Forces marks clause l

-- a decision needs no reason
abbrev pub Reasoned : List (List Lit) → List Mark → Lit → Option ℕ → Type 0
Reasoned cs marks l None = Unit {0}
Reasoned cs marks l (Some h) = HasReason cs marks l h

abbrev pub entered : List Mark → Entry → List Mark
entered marks e = slice_set marks e.literal.var (Is e.literal.positive)

-- the entry may be put at the trail's end
abbrev pub CanEnter : List (List Lit) → List Mark → Entry → Type 0
CanEnter cs marks e = IsOpen marks e.literal × Reasoned cs marks e.literal e.reason

-- the entries lead from one state of the marks to the other
abbrev pub Leads : List (List Lit) → List Mark → List Entry → List Mark → Type 0
Leads cs before [] after = after ≡ before
Leads cs before (e ∷ es) after = CanEnter cs before e × Leads cs (entered before e) es after

-- the clause of this number is false
pub record IsClosed (cs : List (List Lit)) (marks : List Mark) (h : ℕ) : Type 0 where
  pub clause : List Lit
  pub there : named cs h ≡ Some clause
  pub off : all_off marks clause ≡ true

-- the formula's clauses, and the log's
abbrev pub clauses_with : Cnf → List LogLine → List (List Lit)
clauses_with f log = f.clauses ++ literals_of log

-- what the search keeps: each line of the log follows, and the trail gives the marks
pub record Stands (f : Cnf) (log : List LogLine) (trail : List Entry) (marks : List Mark) : Type 0 where
  pub follow : all_follow f.vars f.clauses log ≡ true
  pub leads : Leads (clauses_with f log) (replicate f.vars Free) trail marks

abbrev pub is_forced : Entry → Bool
is_forced e = elim e.reason [ None ↦ false | Some h ↦ true ]

-- a trail as a number: each entry is a digit in base 3, 1 for a decision and 2 for a forced literal
abbrev pub rank : ℕ → List Bool → ℕ
rank n [] = 0
rank zero (d ∷ ds) = 0
rank (suc n) (d ∷ ds) = cond d 2 1 * 3 ^ n + rank n ds

abbrev pub rank_of : Cnf → List Entry → ℕ
rank_of f trail = rank f.vars (map is_forced trail)

-- some clause has this number
abbrev pub IsNamed : List (List Lit) → List LogLine → ℕ → Type 0
IsNamed cs log h = (c : List Lit) × (named (cs ++ literals_of log) h ≡ Some c)

-- the trail was taken back to before a decision
pub record Jumped (old new : List Entry) : Type 0 where
  pub decision : Entry
  pub cut : List Entry
  pub was : old ≡ new ++ (decision ∷ cut)
  pub decided : is_forced decision ≡ false
