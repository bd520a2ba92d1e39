use Rattle.std.proofs.Common.{◌≡◌, [], drop}
use Rattle.serde_json.specs.View.{items_view}
use Rattle.mon_settings.specs.Lists.{switches_from}
use Rattle.mon_settings.proofs.lists.switches_in.Given as goal

-- the elements to come go on from those so far
abbrev pub invariant-loop-i : goal.invariant-loop-i
invariant-loop-i l = switches_from l.switches l.i (items_view (drop l.i l.list)) ≡ switches_from [] 0 (items_view l.list)
