use Rattle.std.proofs.Common.{◌≡◌, ◌∙◌, ℕ, List, length, Some, None, ap, sym, subst}
use Rattle.std.specs.Prelude.{IfOk}
use Rattle.std.specs.List.{slice_get}
use Rattle.mon_world.specs.declared.event.Event.{Event}
use Rattle.mon_trace.specs.declared.events.Place.{Place}
use Rattle.mon_trace.specs.Grammar.{Recorded}
use Rattle.mon_trace.specs.Places.{event_by, IsWithin}
use Rattle.mon_trace.specs.Run.{event_at}
use Rattle.mon_trace.proofs.Places.{within_at, event_none, event_some}
use Rattle.mon_trace.proofs.events.Events.event.Goals as goal

pub event_of-requires : goal.event_of-requires
event_of-requires c =
    let found : slice_get c.self.inside.places.items c.args.number ≡ Some c.in-Some.place = ap (λ (ps : List Place). slice_get ps c.args.number) (sym c.deref.ensures.value) ∙ sym c.in-Some.ensures in
    subst (λ (bytes : List ℕ). IsWithin (length bytes) c.in-Some.place.deed) (sym c.deref-in-Some.ensures.value)
    (within_at (length c.self.inside.bytes.items) c.self.inside.places.items c.args.number c.in-Some.place c.self.invariant found)

pub returns-in-None : goal.returns-in-None
returns-in-None c =
    let none : slice_get c.self.inside.places.items c.args.number ≡ None = ap (λ (ps : List Place). slice_get ps c.args.number) (sym c.deref.ensures.value) ∙ sym c.in-None.ensures in
    sym (event_none c.self.inside.bytes.items c.self.inside.places.items c.args.number none) ∙ ap (λ (es : List Recorded). event_at es c.args.number) c.self.view_is

pub returns-in-Some : goal.returns-in-Some
returns-in-Some c =
    let found : slice_get c.self.inside.places.items c.args.number ≡ Some c.in-Some.place = ap (λ (ps : List Place). slice_get ps c.args.number) (sym c.deref.ensures.value) ∙ sym c.in-Some.ensures in
    let is : event_by c.deref-in-Some.result.now c.in-Some.place.deed ≡ event_at c.args.self.now c.args.number =
    ap (λ (bs : List ℕ). event_by bs c.in-Some.place.deed) c.deref-in-Some.ensures.value
    ∙ sym (event_some c.self.inside.bytes.items c.self.inside.places.items c.args.number c.in-Some.place found)
    ∙ ap (λ (es : List Recorded). event_at es c.args.number) c.self.view_is in
    subst (λ (e : Event). IfOk c.event_of.result (λ event. event ≡ e)) is c.event_of.ensures
