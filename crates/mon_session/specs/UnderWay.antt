-- What is left of the frame that was planned last, part by part.
use Rattle.std.specs.Prelude.{◌≡◌, ◌≢◌, false, List, [], ◌∷◌, Some, None}
use Rattle.std.specs.List.{AllByRecursion}
use Rattle.mon_table.specs.declared.edit.Edit.{Edit}
use Rattle.mon_table.specs.declared.edit.Edit.TheVariants.{Put, Cut}
use Rattle.mon_table.specs.Rules.{identity_of}
use Rattle.mon_edits.specs.Naming.{is_emergency, is_deletion}
use Rattle.mon_edits.specs.Frames.{is_cut}
use Rattle.mon_legal.specs.Held.{Part, all_changed}
use Rattle.mon_legal.specs.Held.Part.{Whole as Goes_on, Refused as Is_refused}
use Rattle.mon_session.specs.declared.under_way.UnderWay.{UnderWay}
use Rattle.mon_session.specs.declared.under_way.UnderWay.TheVariants.{Nothing, Whole, Refused, Changed}

abbrev pub parts_of : UnderWay → List Part
parts_of Nothing = []
parts_of (Whole frame) = Goes_on frame ∷ []
parts_of (Refused error) = Is_refused error ∷ []
parts_of (Changed came message edits first) = all_changed came message first edits.items

-- the old rule of a put is of its identity
abbrev pub HasItsOld : Edit → Type 0
HasItsOld (Put r None) = Unit {0}
HasItsOld (Put r (Some old)) = identity_of old ≡ identity_of r
HasItsOld (Cut r) = Unit {0}

-- edits of a message are its command's, some are left, and it is none for the emergency table
abbrev pub Suits : UnderWay → Type 0
Suits (Changed came message edits first) =
    (is_emergency message ≡ false) × (edits.items ≢ [])
    × AllByRecursion (λ e. is_cut e ≡ is_deletion message.command) edits.items × AllByRecursion HasItsOld edits.items
Suits other = Unit {0}
