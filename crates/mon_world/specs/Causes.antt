-- Faults of the outside have a count that rises with each, until it stands at its last value.
use Rattle.std.specs.Prelude.{ℕ, ◌+◌, ◌-◌, ◌^◌, ◌≤◌, min, Result, IsErrOf}
use Rattle.mon_world.specs.declared.desk.DeskFault.{DeskFault}
use Rattle.mon_world.specs.declared.desk.DeskFault.TheVariants as desk
use Rattle.mon_world.specs.declared.hub.HubFault.{HubFault}
use Rattle.mon_world.specs.declared.hub.HubFault.TheVariants as hub
use Rattle.mon_world.specs.declared.hub.PutFault.{PutFault}
use Rattle.mon_world.specs.declared.hub.PutFault.TheVariants as put

-- one more, or the last value of a count
abbrev pub counted : ℕ → ℕ
counted n = min (n + 1) (2 ^ 64 - 1)

-- a count rose, or stood at its last value
abbrev pub Rose : ℕ → ℕ → Type 0
Rose before now = counted before ≤ now

-- a call of a desk fails only where the count rose, and the count never falls
pub record DeskCause {T : Type 0} (before now : ℕ) (result : Result T DeskFault) : Type 0 where
  pub later : before ≤ now
  pub failed : IsErrOf result desk.Failed → Rose before now

-- a call of a hub fails only where the count rose, and the count never falls
pub record HubCause {T : Type 0} (before now : ℕ) (result : Result T HubFault) : Type 0 where
  pub later : before ≤ now
  pub failed : IsErrOf result hub.Failed → Rose before now

-- an output is lost only where the count rose, and the count never falls
pub record PutCause {T : Type 0} (before now : ℕ) (result : Result T PutFault) : Type 0 where
  pub later : before ≤ now
  pub lost : IsErrOf result put.Lost → Rose before now
