use Rattle.std.proofs.Common.{◌≡◌, [], drop}
use Rattle.serde_json.specs.View.{items_view}
use Rattle.mon_settings.specs.Lists.{links_from}
use Rattle.mon_settings.proofs.lists.links_in.Given as goal

-- the elements to come go on from those so far
abbrev pub invariant-loop-i : goal.invariant-loop-i
invariant-loop-i l = links_from l.switches l.links l.i (items_view (drop l.i l.list)) ≡ links_from l.switches [] 0 (items_view l.list)
