-- What each command writes.
use Rattle.std.specs.Prelude.{◌≡◌, ◌<◌, ℕ, Bool, List, Option, IfSome, take}
use Rattle.mon_world.specs.Files.{with_more}
use Rattle.mon_words.specs.declared.command.Command.{Command}
use Rattle.mon_words.specs.declared.command.Command.TheVariants as command
use Rattle.mon_words.specs.declared.command.Source.{Source}
use Rattle.monocle.specs.Replay.{IsReplay}
use Rattle.monocle.specs.Planning.{Contents, IsPlanOf, IsCheck}

-- a prefix of the bytes was written
abbrev pub WritesPrefix : List ℕ → Option (List ℕ) → Option (List ℕ) → Type 0
WritesPrefix bytes before now = (n : ℕ) × (now ≡ with_more (take n bytes) before)

-- a replay: at 0 what a replay of the trace writes was written, and at 6 a prefix of that
pub record Replays (told : Option Contents) (settings trace : List ℕ) (status : ℕ) (before now : Option (List ℕ)) : Type 0 where
  pub written : status ≡ 0 → IfSome told (λ files. (bytes : List ℕ) × IsReplay files settings trace bytes × (now ≡ with_more bytes before))
  pub prefix : status ≡ 6 → IfSome told (λ files. (bytes : List ℕ) × IsReplay files settings trace bytes × WritesPrefix bytes before now)

-- a plan: at 0 the plan of the source's table was written, and at 6 a prefix of that
pub record Plans (told : Option Contents) (source : Source) (certificates : Bool) (status : ℕ) (before now : Option (List ℕ)) : Type 0 where
  pub written : status ≡ 0 → IfSome told (λ files. (bytes : List ℕ) × IsPlanOf files source certificates bytes × (now ≡ with_more bytes before))
  pub prefix : status ≡ 6 → IfSome told (λ files. (bytes : List ℕ) × IsPlanOf files source certificates bytes × WritesPrefix bytes before now)

-- a check: at 0 and 1 what it says of the certificates was written, and at 6 a prefix of what was due at one of them
pub record Checks (told : Option Contents) (source : Source) (name : List ℕ) (status : ℕ) (before now : Option (List ℕ)) : Type 0 where
  pub written : status < 2 → IfSome told (λ files. (bytes : List ℕ) × IsCheck files source name status bytes × (now ≡ with_more bytes before))
  pub prefix : status ≡ 6 → IfSome told (λ files. (due : ℕ) × (bytes : List ℕ) × IsCheck files source name due bytes × WritesPrefix bytes before now)

-- what a command does, by what the desk tells of its files and of what was written before and now
abbrev pub Does : Command → Option Contents → ℕ → Option (List ℕ) → Option (List ℕ) → Type 0
Does (command.Replay settings trace) told status before now = Replays told settings trace status before now
Does (command.Plan source workers certificates) told status before now = Plans told source certificates status before now
Does (command.Check source certificates) told status before now = Checks told source certificates status before now
