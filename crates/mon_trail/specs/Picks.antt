-- What a formula asks for.
use Rattle.std.specs.Prelude.{◌≡◌, ℕ, true, List, [], ◌++◌, Option, Some, None, slice_index_or}
use Rattle.std.specs.List.{list_all}
use Rattle.mon_cnf.specs.declared.clause.Lit.{Lit}
use Rattle.mon_trail.specs.declared.look.Mark.{Mark}
use Rattle.mon_trail.specs.declared.pick.Pick.{Pick}
use Rattle.mon_trail.specs.declared.pick.Pick.TheVariants.{Close, Enter, Done}
use Rattle.mon_trail.specs.Marks.{any_on}
use Rattle.mon_trail.specs.Trail.{IsClosed, CanEnter}

abbrev pub AllOn : List Mark → List (List Lit) → Type 0
AllOn marks cs = list_all (any_on marks) cs ≡ true

-- a pick is right, whatever lines the log has
abbrev pub Picked : List (List Lit) → List (List Lit) → List Mark → Pick → Type 0
Picked cs lines marks (Close h) = IsClosed (cs ++ lines) marks h
Picked cs lines marks (Enter e) = CanEnter (cs ++ lines) marks e
Picked cs lines marks Done = AllOn marks cs

-- the clause at the place is true, or asks for this
abbrev pub PickedAt : List (List Lit) → List (List Lit) → List Mark → ℕ → Option Pick → Type 0
PickedAt cs lines marks place None = any_on marks (slice_index_or cs place []) ≡ true
PickedAt cs lines marks place (Some p) = Picked cs lines marks p
