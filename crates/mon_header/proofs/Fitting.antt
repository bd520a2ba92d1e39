-- Lists of actions that fit.
use Rattle.std.proofs.Common.{List, [], ◌∷◌, ◌++◌}
use Rattle.mon_header.specs.declared.action.Action.{Action}
use Rattle.mon_header.specs.Actions.{FitsAction, AllFit}

pub all-fit-push : (actions : List Action) (action : Action) → AllFit actions → FitsAction action → AllFit (actions ++ action ∷ [])
all-fit-push [] action fit last = (last, tt)
all-fit-push (first ∷ rest) action fit last = (fit.0, all-fit-push rest action fit.1 last)
