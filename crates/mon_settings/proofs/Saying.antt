-- What is said of a value of JSON is said of the text that holds it.
use Rattle.std.proofs.Common.{◌≡◌, ℕ, List}
use Rattle.std.specs.Prelude.{Some, Result, Ok, Err}
use Rattle.std.specs.Str.{IsUtf8}
use Rattle.serde_json.specs.Data.{Data}
use Rattle.serde_json.specs.Read.{read}
use Rattle.mon_settings.specs.declared.fault.SettingsFault.{SettingsFault}
use Rattle.mon_settings.specs.declared.fault.SettingsFault.TheVariants.{BadSettings, OutOfMemory}
use Rattle.mon_settings.specs.declared.settings.Settings.{Settings}
use Rattle.mon_settings.specs.Faults.{Gives}
use Rattle.mon_settings.specs.Judged.{of_value, Says}

pub gives-says : (text : List ℕ) (d : Data) (r : Result Settings SettingsFault) → IsUtf8 text → read text ≡ Some d → Gives r (of_value d) → Says text r
gives-says text d (Ok settings) utf8 is gives = (Some d, ((utf8, is), gives))
gives-says text d (Err (BadSettings path)) utf8 is gives = (Some d, ((utf8, is), gives))
gives-says text d (Err OutOfMemory) utf8 is gives = tt
