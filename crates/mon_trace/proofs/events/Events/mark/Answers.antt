use Rattle.std.proofs.Common.{◌≡◌, ◌∙◌, ℕ, List, Some, None, ap, sym}
use Rattle.std.specs.Prelude.{option_map}
use Rattle.std.specs.List.{slice_get}
use Rattle.mon_trace.specs.declared.events.Place.{Place}
use Rattle.mon_trace.specs.Grammar.{Recorded}
use Rattle.mon_trace.specs.Run.{mark_of}
use Rattle.mon_trace.proofs.Places.{mark_at}
use Rattle.mon_trace.proofs.events.Events.mark.Goals as goal

pub returns-in-None : goal.returns-in-None
returns-in-None c =
    let none : slice_get c.self.inside.places.items c.args.number ≡ None = ap (λ (ps : List Place). slice_get ps c.args.number) (sym c.deref.ensures.value) ∙ sym c.in-None.ensures in
    sym (mark_at c.self.inside.bytes.items c.self.inside.places.items c.args.number None none) ∙ ap (λ (es : List Recorded). option_map mark_of (slice_get es c.args.number)) c.self.view_is

pub returns-in-Some : goal.returns-in-Some
returns-in-Some c =
    let found : slice_get c.self.inside.places.items c.args.number ≡ Some c.in-Some.place = ap (λ (ps : List Place). slice_get ps c.args.number) (sym c.deref.ensures.value) ∙ sym c.in-Some.ensures in
    sym (mark_at c.self.inside.bytes.items c.self.inside.places.items c.args.number (Some c.in-Some.place) found) ∙ ap (λ (es : List Recorded). option_map mark_of (slice_get es c.args.number)) c.self.view_is
