-- What marks say of literals and clauses.
use Rattle.std.specs.Prelude.{◌≡◌, ℕ, ◌<◌, Bool, true, false, not, cond, List, length, slice_index_or, slice_set}
use Rattle.std.specs.List.{list_any, list_all}
use Rattle.mon_cnf.specs.declared.clause.Lit.{Lit}
use Rattle.mon_refute.specs.Follow.{mentions}
use Rattle.mon_trail.specs.declared.look.Mark.{Mark}
use Rattle.mon_trail.specs.declared.look.Mark.TheVariants.{Free, Is}

abbrev pub mark_at : List Mark → ℕ → Mark
mark_at marks x = slice_index_or marks x Free

abbrev pub makes_on : Mark → Bool → Bool
makes_on Free p = false
makes_on (Is b) p = cond b p (not p)

abbrev pub makes_off : Mark → Bool → Bool
makes_off Free p = false
makes_off (Is b) p = cond b (not p) p

-- the literal is true under the marks
abbrev pub is_on : List Mark → Lit → Bool
is_on marks l = makes_on (mark_at marks l.var) l.positive

-- the literal is false under the marks
abbrev pub is_off : List Mark → Lit → Bool
is_off marks l = makes_off (mark_at marks l.var) l.positive

abbrev pub all_off : List Mark → List Lit → Bool
all_off marks c = list_all (is_off marks) c

abbrev pub any_on : List Mark → List Lit → Bool
any_on marks c = list_any (is_on marks) c

-- the literal is of a variable that isn't decided
abbrev pub IsOpen : List Mark → Lit → Type 0
IsOpen marks l = (l.var < length marks) × (mark_at marks l.var ≡ Free)

-- the clause would be false if the literal were, and mentions its variable
abbrev pub Forces : List Mark → List Lit → Lit → Type 0
Forces marks c l = (all_off (slice_set marks l.var (Is (not l.positive))) c ≡ true) × (mentions l.var c ≡ true)

-- the value of a variable, and false where it isn't decided
abbrev pub value_of : Mark → Bool
value_of Free = false
value_of (Is b) = b
