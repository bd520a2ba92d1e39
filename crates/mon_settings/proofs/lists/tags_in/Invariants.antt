use Rattle.std.proofs.Common.{◌≡◌, [], drop}
use Rattle.serde_json.specs.View.{items_view}
use Rattle.mon_settings.specs.Lists.{tags_from}
use Rattle.mon_settings.proofs.lists.tags_in.Given as goal

-- the elements to come go on from those so far
abbrev pub invariant-loop-i : goal.invariant-loop-i
invariant-loop-i l = tags_from l.tags l.i (items_view (drop l.i l.list)) ≡ tags_from [] 0 (items_view l.list)
