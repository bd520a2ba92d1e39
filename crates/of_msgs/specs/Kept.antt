-- What a FLOW_MOD keeps of its match and its actions.
use Rattle.std.specs.Prelude.{◌≡◌, ℕ, List, Ok}
use Rattle.std.specs.Coded.{Coded, Coded-set, coded_ℕ, coded_result}
use Rattle.mon_header.specs.declared.action.Action.{Action}
use Rattle.of_action.specs.Reading.{actions_of}

-- the actions are those that the bytes say, all of them
abbrev pub Means : List ℕ → List Action → Type 0
Means raw actions = actions_of raw ≡ Ok actions

pub means_once : Coded (List Action) → (raw : List ℕ) (actions : List Action) → IsProp (Means raw actions)
means_once code raw actions = Coded-set (coded_result code coded_ℕ) (actions_of raw) (Ok actions)
