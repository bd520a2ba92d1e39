-- What marks say of literals and clauses.
use Rattle.std.specs.Prelude.{◌≡◌, ℕ, ◌<◌, Bool, true, false, not, cond, List, length, slice_index_or, slice_set}
use Rattle.std.specs.List.{list_any, list_all}
use Rattle.mon_cnf.specs.declared.clause.Lit.{Lit}
use Rattle.mon_refute.specs.Follow.{mentions, same}
use Rattle.mon_plain.specs.declared.look.Mark.{Mark}
use Rattle.mon_plain.specs.declared.look.Mark.TheVariants.{Free, Is}
use Rattle.mon_plain.specs.declared.look.Look.{Look}
use Rattle.mon_plain.specs.declared.look.Look.TheVariants.{Off, On, Unit as Forced, Open}

abbrev pub mark_at : List Mark → ℕ → Mark
mark_at marks x = slice_index_or marks x Free

abbrev pub makes_on : Mark → Bool → Bool
makes_on Free p = false
makes_on (Is b) p = cond b p (not p)

abbrev pub makes_off : Mark → Bool → Bool
makes_off Free p = false
makes_off (Is b) p = cond b (not p) p

-- the literal is true under the marks
abbrev pub is_on : List Mark → Lit → Bool
is_on marks l = makes_on (mark_at marks l.var) l.positive

-- the literal is false under the marks
abbrev pub is_off : List Mark → Lit → Bool
is_off marks l = makes_off (mark_at marks l.var) l.positive

abbrev pub all_off : List Mark → List Lit → Bool
all_off marks c = list_all (is_off marks) c

abbrev pub any_on : List Mark → List Lit → Bool
any_on marks c = list_any (is_on marks) c

-- the literal is of a variable that isn't decided
abbrev pub IsOpen : List Mark → Lit → Type 0
IsOpen marks l = (l.var < length marks) × (mark_at marks l.var ≡ Free)

-- the clause would be false if the literal were, and mentions its variable
abbrev pub Forces : List Mark → List Lit → Lit → Type 0
Forces marks c l = (all_off (slice_set marks l.var (Is (not l.positive))) c ≡ true) × (mentions l.var c ≡ true)

abbrev pub Looked : List Mark → List Lit → Look → Type 0
Looked marks c Off = all_off marks c ≡ true
Looked marks c On = any_on marks c ≡ true
Looked marks c (Forced l) = IsOpen marks l × Forces marks c l
Looked marks c (Open l) = IsOpen marks l

-- how a clause looks with one more literal, of this mark
abbrev pub look_free : Look → Lit → Look
look_free Off l = Forced l
look_free On l = On
look_free (Forced k) l = cond (same k l) (Forced k) (Open k)
look_free (Open k) l = Open k

abbrev pub look_on : Look → Lit → Mark → Look
look_on s l Free = look_free s l
look_on s l (Is b) = cond (cond b l.positive (not l.positive)) On s

-- the value of a variable, and false where it isn't decided
abbrev pub value_of : Mark → Bool
value_of Free = false
value_of (Is b) = b
