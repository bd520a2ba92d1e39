-- The way back from a conflict: what is seen, and the hints, close the log together.
use Rattle.std.specs.Prelude.{◌≡◌, ◌≢◌, ℕ, ◌+◌, ◌<◌, ◌≤◌, Bool, true, false, List, [], ◌∷◌, ◌++◌, length, reverse, Option, Some, None, slice_index_or}
use Rattle.std.specs.List.{AllByRecursion}
use Rattle.mon_list.specs.Has.{Has}
use Rattle.mon_cnf.specs.declared.clause.Lit.{Lit}
use Rattle.mon_cnf.specs.Formulas.{Cnf}
use Rattle.mon_refute.specs.declared.lines.LogLine.{LogLine}
use Rattle.mon_refute.specs.Follow.{is_false, opposite, by_hints}
use Rattle.mon_trail.specs.declared.look.Mark.{Mark}
use Rattle.mon_trail.specs.declared.look.Mark.TheVariants.{Free}
use Rattle.mon_trail.specs.declared.trail.Entry.{Entry}
use Rattle.mon_trail.specs.Marks.{mark_at, is_on, is_off, all_off, IsOpen}
use Rattle.mon_trail.specs.Trail.{Stands, clauses_with, is_forced}
use Rattle.mon_cdcl.specs.Seen.{is_seen, AreListed}
use Rattle.mon_cdcl.specs.declared.analyse.Turn.{Turn}

-- each known literal is true under the marks
pub record AreOn (marks : List Mark) (known : List Lit) : Type 0 where
  pub each : (k : Lit) → Has known k → is_on marks k ≡ true

-- what is false of the variables that are seen is known to be
pub record KnowsSeen (marks : List Mark) (flags : List Bool) (known : List Lit) : Type 0 where
  pub each : (k : Lit) → is_off marks k ≡ true → is_seen flags k.var ≡ true → is_false known k ≡ true

-- each variable that is seen is decided
pub record AreDecided (marks : List Mark) (flags : List Bool) : Type 0 where
  pub each : (x : ℕ) → is_seen flags x ≡ true → mark_at marks x ≢ Free

-- whoever knows no more than the marks say, and at least what is seen, comes to a contradiction by the hints
pub record Closes (cs : List (List Lit)) (marks : List Mark) (flags : List Bool) (hints : List ℕ) : Type 0 where
  pub each : (known : List Lit) → AreOn marks known → KnowsSeen marks flags known → by_hints cs known hints ≡ true

-- the same of whoever knows also that a literal is false: what is seen forces it
pub record Asserts (cs : List (List Lit)) (marks : List Mark) (flags : List Bool) (hints : List ℕ) (a : Lit) : Type 0 where
  pub free : IsOpen marks a
  pub decided : AreDecided marks flags
  pub each : (known : List Lit) → AreOn marks known → KnowsSeen marks flags known → by_hints cs (opposite a ∷ known) hints ≡ true

-- no variable of these entries is seen
abbrev pub AreUnseen : List Bool → List Entry → Type 0
AreUnseen flags es = AllByRecursion (λ e. is_seen flags e.literal.var ≡ false) es

-- a decision stands at this place of the trail with the entry behind it, and nothing from there on is seen but the entry
pub record IsTarget (flags : List Bool) (es : List Entry) (e : Entry) (len : ℕ) : Type 0 where
  pub within : len ≤ length es
  pub decided : is_forced (slice_index_or (es ++ (e ∷ [])) len e) ≡ false
  pub unseen : (j : ℕ) → len ≤ j → j < length es → is_seen flags (slice_index_or es j e).literal.var ≡ false

-- a conflict, while the trail is taken back; the hints stand from the last to the first
pub record Walking (f : Cnf) (old : List Entry) (log : List LogLine) (es : List Entry) (marks : List Mark) (flags : List Bool) (vars : List ℕ) (hints : List ℕ) : Type 0 where
  pub stands : Stands f log es marks
  pub closes : Closes (clauses_with f log) marks flags (reverse hints)
  pub decided : AreDecided marks flags
  pub listed : AreListed flags vars
  pub sized : length flags ≡ f.vars
  pub cut : List Entry
  pub was : old ≡ es ++ cut

-- the literal that ended the walk is forced from a shorter trail on
pub record Turned (f : Cnf) (old : List Entry) (log : List LogLine) (es : List Entry) (marks : List Mark) (flags : List Bool) (vars : List ℕ) (hints : List ℕ) (turn : Turn) : Type 0 where
  pub stands : Stands f log es marks
  pub asserts : Asserts (clauses_with f log) marks flags (reverse hints) turn.literal
  pub listed : AreListed flags vars
  pub sized : length flags ≡ f.vars
  pub entry : Entry
  pub cut : List Entry
  pub was : old ≡ es ++ (entry ∷ cut)
  pub target : IsTarget flags es entry turn.len

abbrev pub Walked : Cnf → List Entry → List LogLine → List Entry → List Mark → List Bool → List ℕ → List ℕ → Option Turn → Type 0
Walked f old log es marks flags vars hints None = Walking f old log es marks flags vars hints × (es ≡ [])
Walked f old log es marks flags vars hints (Some turn) = Turned f old log es marks flags vars hints turn

-- the trail was taken back to a length
pub record FellBack (f : Cnf) (log : List LogLine) (old : List Entry) (before : List Mark) (new : List Entry) (after : List Mark) (len : ℕ) : Type 0 where
  pub stands : Stands f log new after
  pub cut : List Entry
  pub was : old ≡ new ++ cut
  pub len_is : length new ≡ len
  pub asserts : (flags : List Bool) (hints : List ℕ) (a : Lit) → AreUnseen flags cut → Asserts (clauses_with f log) before flags hints a → Asserts (clauses_with f log) after flags hints a

-- the false literals of the variables that are seen
pub record Collected (marks : List Mark) (flags : List Bool) (vars : List ℕ) (c : List Lit) : Type 0 where
  pub off : all_off marks c ≡ true
  pub has : (k : Lit) → Has vars k.var → is_off marks k ≡ true → is_seen flags k.var ≡ true → Has c k

-- the line of these literals was added, with the hints from the last to the first, and has this number
pub record Learned (cs : List (List Lit)) (old new : List LogLine) (c : List Lit) (hints : List ℕ) (h : ℕ) : Type 0 where
  pub line : LogLine
  pub log : new ≡ old ++ (line ∷ [])
  pub literals : line.literals ≡ c
  pub hints_are : line.hints ≡ reverse hints
  pub number : h ≡ length cs + length new
