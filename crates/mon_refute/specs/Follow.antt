-- When a line follows from earlier clauses by its hints, and when a log is accepted.
--
-- A line of a log claims that its clause holds wherever the earlier clauses do. To check the claim, suppose that it is
-- wrong: then each literal of the line is false. The known literals are those that must be true under this supposition. Each
-- hint names an earlier clause that, beside what is known, leaves one literal that can be true, so that this literal is known
-- too; the last hint names a clause that leaves none, which cannot be. So the supposition was wrong. This is the unit
-- propagation of the LRAT proof format of the SAT field, without its deletions and without other steps than these.
--
-- All else is refused: at a hint that names no clause, or whose clause leaves more than one literal open, the line does not
-- follow. What an accepted log means is proved of these very definitions (Law.antt), so a mistake in them could refuse good
-- logs, and never let a bad one pass.
use Rattle.std.specs.Prelude.{ℕ, ◌-◌, Bool, true, false, not, cond, ◌&&◌, ◌==◌, nat_lt, List, [], ◌∷◌, ◌++◌, Option, Some, None, filter, map}
use Rattle.std.specs.List.{list_any, list_all, slice_get}
use Rattle.mon_cnf.specs.declared.clause.Lit.{Lit}
use Rattle.mon_refute.specs.declared.lines.LogLine.{LogLine}
use Rattle.mon_refute.specs.declared.marks.Reading.{Reading}
use Rattle.mon_refute.specs.declared.marks.Reading.TheVariants.{Contradicts, Gives, Neither}

-- one literal: the same variable with the same sign
abbrev pub same : Lit → Lit → Bool
same a b = (a.var == b.var) && cond a.positive b.positive (not b.positive)

-- the negation of a literal
abbrev pub opposite : Lit → Lit
opposite l = record { var = l.var; positive = not l.positive }

-- the literal must be true: it is among the known ones
abbrev pub is_true : List Lit → Lit → Bool
is_true known l = list_any (λ k. same k l) known

-- it must be false: its negation is among them
abbrev pub is_false : List Lit → Lit → Bool
is_false known l = is_true known (opposite l)

-- the literals of a clause that can still be true
abbrev pub rest : List Lit → List Lit → List Lit
rest known c = filter (λ l. not (is_false known l)) c

-- what a clause says, by its literals that can still be true. None are left: the clause contradicts what is known. One is
-- left, however often it stands there, and it is not known yet: it must be true. A clause with a known literal says
-- nothing more, and one with two open literals says neither of them
abbrev pub reading : List Lit → List Lit → Reading
reading known [] = Contradicts
reading known (l ∷ ls) = cond (not (is_true known l) && list_all (same l) ls) (Gives l) Neither

-- the clause of this number: the first has the number 1, and 0 names none, nor does a number beyond the last
abbrev pub named : List (List Lit) → ℕ → Option (List Lit)
named cs h = cond (h == 0) None (slice_get cs (h - 1))

-- the literals of the clause of a number, and none where there is no such clause: a check of the line marks no others, but
-- for those of the line itself
abbrev pub literals_in : Option (List Lit) → List Lit
literals_in None = []
literals_in (Some c) = c

abbrev pub hinted : List (List Lit) → ℕ → List Lit
hinted cs h = literals_in (named cs h)

-- some literal of the clause is of this variable
abbrev pub mentions : ℕ → List Lit → Bool
mentions x c = list_any (λ l. l.var == x) c

-- what a hint says: what its clause does, and nothing of use where it names no clause
abbrev pub reading_of : List Lit → Option (List Lit) → Reading
reading_of known None = Neither
reading_of known (Some c) = reading known (rest known c)

-- the hints in their order. One whose clause gives a literal makes that literal known to the hints behind it; one whose
-- clause contradicts ends the line, which follows, whatever hints stand behind it; at any other, and where the hints run
-- out with no contradiction, the line does not follow
abbrev pub by_hints : List (List Lit) → List Lit → List ℕ → Bool
by_hints cs known [] = false
by_hints cs known (h ∷ hs) =
    elim (reading_of known (named cs h)) [ Contradicts ↦ true | Gives l ↦ by_hints cs (l ∷ known) hs | Neither ↦ false ]

-- the supposition that a line is wrong, on top of what is known: the negation of each of its literals becomes known. A
-- literal of no variable of the formula is refused, and so is one beside its negation: such a line is never wrong, so no log
-- needs it. A literal that stands twice adds the same negation twice
abbrev pub falsify : ℕ → List Lit → List Lit → Option (List Lit)
falsify vars known [] = Some known
falsify vars known (l ∷ ls) = cond (nat_lt l.var vars && not (is_true known l)) (falsify vars (opposite l ∷ known) ls) None

-- the hints under that supposition; a line whose literals were refused does not follow
abbrev pub by_start : List (List Lit) → List ℕ → Option (List Lit) → Bool
by_start cs hs None = false
by_start cs hs (Some known) = by_hints cs known hs

-- a line follows from earlier clauses: at first nothing is known, then that its literals are false, and then its hints lead
-- to a contradiction
abbrev pub follows : ℕ → List (List Lit) → LogLine → Bool
follows vars cs line = by_start cs line.hints (falsify vars [] line.literals)

-- each line follows from the clauses before it: the formula's, and then those of the lines before it, in their order. So a
-- line can name neither itself nor a later one
abbrev pub all_follow : ℕ → List (List Lit) → List LogLine → Bool
all_follow vars cs [] = true
all_follow vars cs (l ∷ ls) = follows vars cs l && all_follow vars (cs ++ (l.literals ∷ [])) ls

-- a clause without literals, which no assignment satisfies
abbrev pub is_empty : List Lit → Bool
is_empty [] = true
is_empty (l ∷ ls) = false

-- there is a last line, and its clause is the empty one
abbrev pub ends_empty : List LogLine → Bool
ends_empty [] = false
ends_empty (l ∷ []) = is_empty l.literals
ends_empty (l ∷ m ∷ ls) = ends_empty (m ∷ ls)

-- an accepted log: each line follows, and the last one is empty
abbrev pub is_accepted : ℕ → List (List Lit) → List LogLine → Bool
is_accepted vars cs log = all_follow vars cs log && ends_empty log

-- the clauses of lines, in their order
abbrev pub literals_of : List LogLine → List (List Lit)
literals_of log = map (λ l. l.literals) log
