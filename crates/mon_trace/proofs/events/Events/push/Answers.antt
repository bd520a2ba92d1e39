use Rattle.std.proofs.Common.{◌≡◌, ◌∙◌, ◌++◌, ◌∷◌, [], List, length, ap, sym, subst, rules}
use Rattle.mon_trace.specs.declared.events.Place.{Place}
use Rattle.mon_trace.specs.Grammar.{Recorded}
use Rattle.mon_trace.specs.Places.{events_at, event_by, AllWithin}
use Rattle.mon_trace.proofs.Places.{all_within-append, plain_within, pushed_plain}
use Rattle.mon_trace.proofs.events.Events.push.Goals as goal

pub invariant_of-self-2 : goal.invariant_of-self-2
invariant_of-self-2 c =
    let inside = c.self.inside in
    let place : Place = record { offset = c.args.offset; losing = c.args.losing; deed = c.args.deed } in
    let grown : c.push.new.self.items ≡ inside.places.items ++ place ∷ [] = search rules in
    subst (AllWithin (length inside.bytes.items)) (sym grown) (all_within-append (length inside.bytes.items) inside.places.items (place ∷ []) c.self.invariant (plain_within (length inside.bytes.items) c.args.deed c.requires, tt))

pub returns : goal.returns
returns c =
    let inside = c.self.inside in
    let place : Place = record { offset = c.args.offset; losing = c.args.losing; deed = c.args.deed } in
    let grown : c.push.new.self.items ≡ inside.places.items ++ place ∷ [] = search rules in
    ap (events_at inside.bytes.items) grown
    ∙ pushed_plain inside.bytes.items inside.places.items c.args.offset c.args.losing c.args.deed c.requires
    ∙ ap (λ (events : List Recorded). events ++ record { offset = c.args.offset; losing = c.args.losing; event = event_by [] c.args.deed } ∷ []) c.self.view_is
