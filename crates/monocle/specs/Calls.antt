-- What a desk was called for in a run, or in a part of one.
use Rattle.std.specs.Prelude.{◌≡◌, ℕ, List, [], ◌∷◌, ◌++◌, Option}
use Rattle.mon_world.specs.declared.calls.Call.{Call}
use Rattle.mon_world.specs.declared.calls.Call.TheVariants.{Read, Write, Say}
use Rattle.mon_world.specs.Files.{Adds, SaidOrLost}

-- what some calls say
abbrev pub said_by : List Call → List ℕ
said_by [] = []
said_by (Read name done ∷ calls) = said_by calls
said_by (Write done ∷ calls) = said_by calls
said_by (Say text ∷ calls) = text ++ said_by calls

-- these calls were made, and nothing was said
pub record Quiet (calls : List Call) (said_before said_now : Option (List ℕ)) (before now : Option (List Call)) : Type 0 where
  pub silent : said_now ≡ said_before
  pub told : Adds calls before now

-- calls of this kind were made, and what they say was said
pub record Called (IsSuch : List Call → Type 0) (said_before said_now : Option (List ℕ)) (before now : Option (List Call)) : Type 0 where
  pub calls : List Call
  pub such : IsSuch calls
  pub said : SaidOrLost (said_by calls) said_before said_now now
  pub told : Adds calls before now
