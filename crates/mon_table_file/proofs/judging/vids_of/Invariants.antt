use Rattle.std.proofs.Common.{◌≡◌, take}
use Rattle.mon_table_file.proofs.judging.vids_of.Given as goal

abbrev pub invariant-loop-tag : goal.invariant-loop-tag
invariant-loop-tag l = l.vids ≡ take l.tag-index l.tags
