-- What is left of a frame whose edits are to go on.
use Rattle.std.specs.Prelude.{◌≡◌, ◌≢◌, ℕ, Bool, true, false, if◌then◌else◌, List, [], ◌∷◌, Option, Some, None, option_map, find, refl}
use Rattle.std.proofs.Common.{ap}
use Rattle.mon_shows.specs.declared.near.Near.{Near}
use Rattle.mon_table.specs.declared.rule.Rule.{Rule}
use Rattle.mon_table.specs.Edits.{edited}
use Rattle.mon_world.specs.declared.event.Side.TheVariants.{Switch}
use Rattle.mon_legal.specs.Owns.Act.{Step}
use Rattle.mon_legal.specs.Actions.{is_drop}
use Rattle.mon_legal.specs.StandIns.{allows_tag, has_other, stand_in_at, stand_in}
use Rattle.mon_legal.specs.Postponing.{stand_in_of, may_postpone, stand_in_for, edit_frame}
use Rattle.mon_session.specs.Ordered.{nowhere, awaited_in, output_of}
use Rattle.mon_table.specs.declared.edit.Edit.{Edit}
use Rattle.of_msgs.specs.declared.flow_mod.FlowMod.{FlowMod}
use Rattle.mon_legal.specs.Held.{all_changed, is_empty, change_of}

pub some_left : (came : List ℕ) (m : FlowMod) (first : Bool) (xs : List Edit) → xs ≢ [] → is_empty (all_changed came m first xs) ≡ false
some_left came m first [] n = absurd (n refl)
some_left came m first (x ∷ xs) n = refl

pub first_awaited : (came : List ℕ) (m : FlowMod) (first : Bool) (x : Edit) (xs : List Edit)
    → awaited_in (all_changed came m first (x ∷ xs)) ≡ Some (edited x).matching
first_awaited came m first x xs = refl

-- no rule has a stand-in in a view without links
none-there : (b : Bool) (r : Rule) → option_map (stand_in_at r) (if b then option_map (λ (n : Near). n.port) (find (λ n. has_other r.matching [] n.port) []) else None) ≡ None
none-there true r = refl
none-there false r = refl

none-if : (b : Bool) (r : Rule) → (if b then stand_in nowhere r else None) ≡ None
none-if true r = none-there (allows_tag r.matching 0) r
none-if false r = refl

pub none_stands_in : (t : List Rule) (x : Edit) → stand_in_for nowhere t x ≡ None
none_stands_in t x =
    elim (may_postpone t x) as (λ b. (if b then stand_in_of nowhere (edited x) else None) ≡ None) [
      | true ↦ none-if (is_drop (edited x).actions) (edited x)
      | false ↦ refl
    ]

pub first_goes : (came : List ℕ) (m : FlowMod) (first : Bool) (x : Edit) (xs : List Edit)
    → output_of (all_changed came m first (x ∷ xs)) ≡ Some (Step Switch (edit_frame came m x first) (Some (record { edit = x; closing = None })))
first_goes came m first x xs = ap (λ (o : Option Rule). Some (change_of o came m x first)) (none_stands_in [] x)
