-- What an answer says of what it reads.
use Rattle.std.specs.Prelude.{◌≡◌, ℕ, List, Result, Ok, Err}
use Rattle.mon_settings.specs.declared.fault.SettingsFault.{SettingsFault}
use Rattle.mon_settings.specs.declared.fault.SettingsFault.TheVariants.{BadSettings, OutOfMemory}

-- a fault has this path, or is want of memory
abbrev pub HasPath : SettingsFault → List ℕ → Type 0
HasPath (BadSettings path) wanted = path ≡ wanted
HasPath OutOfMemory wanted = Unit {0}

-- what is said: a value or the path of a fault; want of memory alone may come at any time
abbrev pub Gives : {A : Type 0} → Result A SettingsFault → Result A (List ℕ) → Type 0
Gives (Ok x) said = said ≡ Ok x
Gives (Err (BadSettings path)) said = said ≡ Err path
Gives (Err OutOfMemory) said = Unit {0}
