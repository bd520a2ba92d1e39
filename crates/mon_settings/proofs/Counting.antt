-- How many elements an array has.
use Rattle.std.proofs.Common.{◌≡◌, suc, ap, refl, List, [], ◌∷◌, length}
use Rattle.serde_json.specs.declared.value.Value.{Value}
use Rattle.serde_json.specs.View.{items_view}
use Rattle.mon_settings.specs.Lists.{count}

pub count_view : (vs : List Value) → count (items_view vs) ≡ length vs
count_view [] = refl
count_view (v ∷ vs) = ap suc (count_view vs)
