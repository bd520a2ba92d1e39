use Rattle.std.proofs.Common.{◌≡◌, [], ◌∷◌, ◌++◌, drop, map}
use Rattle.mon_legal.specs.Messages.{put_all, catching_rule, mark_rule, other_tags}
use Rattle.mon_session.proofs.arming.catching_table.Given as goal

abbrev pub invariant-loop-other : goal.invariant-loop-other
invariant-loop-other l =
    put_all (map catching_rule (other_tags l.tag (drop l.other-index l.in_use)) ++ mark_rule ∷ []) l.table
    ≡ put_all (map catching_rule (other_tags l.tag l.in_use) ++ mark_rule ∷ []) []
