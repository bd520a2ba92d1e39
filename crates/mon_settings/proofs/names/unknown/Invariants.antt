use Rattle.std.proofs.Common.{◌≡◌}
use Rattle.serde_json.specs.View.{members_view}
use Rattle.mon_settings.specs.Names.{unknown}
use Rattle.mon_settings.proofs.names.unknown.Given as goal

-- the least unknown name is one of those to come
abbrev pub invariant-loop-key : goal.invariant-loop-key
invariant-loop-key l = unknown (members_view l.key-iterator) ≡ unknown (members_view l.members.entries)
