-- What a look at a clause says.
use Rattle.std.specs.Prelude.{◌≡◌, true, List, Option, Some, None}
use Rattle.mon_cnf.specs.declared.clause.Lit.{Lit}
use Rattle.mon_trail.specs.declared.look.Mark.{Mark}
use Rattle.mon_trail.specs.Marks.{all_off, any_on, IsOpen, Forces}
use Rattle.mon_trail.specs.declared.look.Look.{Look}
use Rattle.mon_trail.specs.declared.look.Look.TheVariants.{Off, Unit as Forced, On, Open}

-- the first literal that isn't false, while no other one was found
abbrev pub FirstOpen : List Mark → List Lit → Option Lit → Type 0
FirstOpen marks c None = all_off marks c ≡ true
FirstOpen marks c (Some l) = IsOpen marks l × Forces marks c l

abbrev pub LookedAt : List Mark → List Lit → Look → Type 0
LookedAt marks c Off = FirstOpen marks c None
LookedAt marks c (Forced l) = FirstOpen marks c (Some l)
LookedAt marks c (On l) = any_on marks c ≡ true
LookedAt marks c (Open l m) = IsOpen marks l
