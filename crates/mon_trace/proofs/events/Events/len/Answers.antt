use Rattle.std.proofs.Common.{◌≡◌, ◌∙◌, length, ap, sym, rules}
use Rattle.mon_trace.proofs.Places.{events_at-length}
use Rattle.mon_trace.proofs.events.Events.len.Goals as goal

pub returns-clause-value : goal.returns-clause-value
returns-clause-value c =
    let kept : c.len.result ≡ length c.self.inside.places.items = search rules in
    kept ∙ sym (events_at-length c.self.inside.bytes.items c.self.inside.places.items) ∙ ap length c.self.view_is
