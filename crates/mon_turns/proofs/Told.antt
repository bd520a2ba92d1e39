-- What a history says of a core's state.
use Rattle.std.proofs.Common.{sym, ap, ◌∙◌}
use Rattle.mon_legal.specs.Sessions.{open_ones}
use Rattle.mon_legal.proofs.Witness.{one-witness}
use Rattle.mon_turns.specs.Core.{connected_at, state_of, is_full, is_armed, shown_of}
use Rattle.mon_turns.specs.Laws.{OneLogOneState, GatesAreTheHistorys, ArmedAreTheHistorys}
use Rattle.mon_turns.proofs.Lists.{map_id, map_filter_map}

pub one-state : OneLogOneState
one-state run a b tasks others calls told h x y =
    x.state ∙ ap (state_of run) (one-witness run x.moments y.moments x.lawful.frames y.lawful.frames x.whole.frames y.whole.frames (x.shows ∙ sym y.shows)) ∙ sym y.state

pub gates-historys : GatesAreTheHistorys
gates-historys run f = map_filter_map (connected_at run f) is_full (λ c. c.session.number) (open_ones run f) ∙ map_id _

pub armed-historys : ArmedAreTheHistorys
armed-historys run f = map_filter_map (connected_at run f) is_armed shown_of (open_ones run f)
