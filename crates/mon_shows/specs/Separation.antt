-- When a header and an emission tell a table from the one without an update, whichever unsure rules are gone.
use Rattle.std.specs.Prelude.{Bool, false, not, ◌&&◌, ◌||◌, List, [], ◌∷◌, Some, None}
use Rattle.std.specs.List.{list_any}
use Rattle.mon_header.specs.declared.header.Header.{Header}
use Rattle.mon_table.specs.declared.rule.Rule.{Rule}
use Rattle.mon_table.specs.declared.edit.Edit.{Edit}
use Rattle.mon_table.specs.declared.edit.Edit.TheVariants as edit
use Rattle.mon_table.specs.Edits.{after}
use Rattle.mon_table.specs.Winners.{winners, may_miss}
use Rattle.mon_outcome.specs.declared.emission.Emission.{Emission}
use Rattle.mon_outcome.specs.declared.emission.Emission.TheVariants.{Miss}
use Rattle.mon_outcome.specs.Emitting.{same_emission, must, may}
use Rattle.mon_shows.specs.declared.target.Target.{Target}
use Rattle.mon_shows.specs.declared.target.Target.TheVariants.{Put, Cut, Watch}
use Rattle.mon_shows.specs.Views.{Viewing, craftable, caught}

-- the rule, made unsure or sure
abbrev pub made_unsure : Bool → Rule → Rule
made_unsure unsure r = record r { unsure = unsure }

-- the edit that takes the target's update back: a put without an old rule and a watch lose their rule, a replaced rule
-- comes back, which may be gone where either of the two may, and so does a cut one
abbrev pub taken_back : Target → Edit
taken_back (Put r None) = edit.Cut r
taken_back (Put r (Some old)) = edit.Put (made_unsure (old.unsure || r.unsure) old) (Some r)
taken_back (Cut r) = edit.Put r None
taken_back (Watch r) = edit.Cut r

-- the table without the target's update
abbrev pub without_update : List Rule → Target → List Rule
without_update t x = after t (taken_back x)

-- the table with the target's update there for sure
abbrev pub with_update : List Rule → Target → List Rule
with_update t (Put r old) = after t (edit.Put (made_unsure false r) None)
with_update t (Cut r) = t
with_update t (Watch r) = after t (edit.Put (made_unsure false r) None)

-- the emission is the header's miss
abbrev pub is_miss : Header → Emission → Bool
is_miss h e = same_emission e (Miss h)

-- of these winners there is exactly one, the packet cannot miss, and the winner must emit this; or there is none, the
-- packet misses, and this is the miss
abbrev pub is_certain : List Rule → Bool → Header → Emission → Bool
is_certain [] misses h e = misses && is_miss h e
is_certain (r ∷ []) misses h e = not misses && must r.actions h e
is_certain (r ∷ s ∷ rest) misses h e = false

-- the table must show this, whichever unsure rules are gone
abbrev pub must_show : List Rule → Header → Emission → Bool
must_show t h e = is_certain (winners t h) (may_miss t h) h e

-- the table may show this: one of its winners may emit it, or the packet may miss, and this is the miss
abbrev pub may_show : List Rule → Header → Emission → Bool
may_show t h e = list_any (λ r. may r.actions h e) (winners t h) || (may_miss t h && is_miss h e)

-- a packet with this header shows by this emission that the target's update is in the table
unfoldable pub separates : Viewing → List Rule → Target → Header → Emission → Bool
separates v t x h e =
    craftable v h
    && (must_show (with_update t x) h e
    && (caught v e
    && not (may_show (without_update t x) h e)))
